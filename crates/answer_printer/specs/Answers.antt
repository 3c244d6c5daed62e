-- What the answers to a line say.
use Rattle.std.specs.Prelude.{◌≡◌, ℕ, List, [], ◌∷◌, ◌++◌, Result, Ok, Err}
use Rattle.asp_meaning.specs.Atoms.{Atom}
use Rattle.asp_meaning.specs.Lines.{IsSetLine}
use Rattle.answer_printer.specs.declared.fault.SetFault.{SetFault}
use Rattle.answer_printer.specs.declared.fault.SetFault.TheVariants.{NotASet, OutOfMemory}
use Rattle.answer_printer.specs.Sets.{IsSetText}

-- the text is a set, and this is the line of that set; or the text is no set
abbrev pub IsAnswer : List ℕ → Result (List ℕ) SetFault → Type 0
IsAnswer text (Ok line) = (atoms : List Atom) × IsSetText text atoms × IsSetLine atoms line
IsAnswer text (Err NotASet) = (atoms : List Atom) → ¬ IsSetText text atoms
IsAnswer text (Err OutOfMemory) = Unit {0}

-- the text is its own line, but for the line feed; and it isn't refused
abbrev pub ReadsAsItself : List ℕ → Result (List ℕ) SetFault → Type 0
ReadsAsItself text (Ok line) = line ≡ text ++ 10 ∷ []
ReadsAsItself text (Err NotASet) = ⊥
ReadsAsItself text (Err OutOfMemory) = Unit {0}
