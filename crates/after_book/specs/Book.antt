-- What a step of reading leaves in a book.
use Rattle.std.specs.Prelude.{◌≡◌, ◌⊎◌, ℕ, Bool, true, false, List, [], ◌∷◌, ◌++◌, Result, Ok, Err}
use Rattle.lists.specs.Lists.{◌∈◌, AtLeastOne}
use Rattle.asp_meaning.specs.Atoms.{Atom}
use Rattle.asp_meaning.specs.Lines.{IsSetLine}
use Rattle.answer_printer.specs.Sets.{IsSetText}
use Rattle.after_book.specs.declared.fault.AfterFault.{AfterFault}
use Rattle.after_book.specs.declared.fault.AfterFault.TheVariants as fault
use Rattle.after_book.specs.Parts.{IsFine}
use Rattle.after_book.specs.Listed.{IsFirstRefused}

-- the line was not there and is the last now, or it was there and nothing changed; the answer says which
abbrev pub IsAdded : List (List ℕ) → List (List ℕ) → List ℕ → Bool → Type 0
IsAdded old new line true = (¬ (line ∈ old)) × (new ≡ old ++ line ∷ [])
IsAdded old new line false = (line ∈ old) × (new ≡ old)

-- the text is a set
abbrev pub IsSet : List ℕ → Type 0
IsSet text = (atoms : List Atom) × IsSetText text atoms

-- the line of the set that the text is, if it is one, is there now, and no other is new
pub record TakesUp (old new : List (List ℕ)) (text : List ℕ) : Type 0 where
  pub kept : (line : List ℕ) → line ∈ old → line ∈ new
  pub all : (atoms : List Atom) → IsSetText text atoms → AtLeastOne (IsSetLine atoms) new
  pub only : (line : List ℕ) → line ∈ new → (line ∈ old) ⊎ ((atoms : List Atom) × IsSetText text atoms × IsSetLine atoms line)

-- the line with this number is fine and was taken up, or it is refused
abbrev pub IsLineRead : List (List ℕ) → List (List ℕ) → List ℕ → ℕ → Result (Unit {0}) AfterFault → Type 0
IsLineRead old new line number (Ok u) = IsFine line × TakesUp old new line
IsLineRead old new line number (Err (fault.Refused n)) = (n ≡ number) × ¬ IsFine line
IsLineRead old new line number (Err fault.OutOfMemory) = Unit {0}

-- a refusal names the first line that may not stand in the file
abbrev pub IsDueFault : List ℕ → AfterFault → Type 0
IsDueFault bytes (fault.Refused n) = IsFirstRefused bytes n
IsDueFault bytes fault.OutOfMemory = Unit {0}
