-- What an after file lists, and where it is refused.
use Rattle.std.specs.Prelude.{◌≡◌, ℕ, ◌+◌, List, [], ◌∷◌, ◌++◌, length}
use Rattle.lists.specs.Lists.{◌∈◌, Each, SameSet}
use Rattle.asp_meaning.specs.Atoms.{Atom}
use Rattle.asp_meaning.specs.Lines.{IsSetLine}
use Rattle.asp_meaning.specs.Readable.{IsReadable}
use Rattle.answer_printer.specs.Sets.{IsSetText}
use Rattle.after_book.specs.Parts.{parts, ended_lines, IsFine}

-- a line of the file is this set, or what stands behind the last line feed is
abbrev pub Lists : List ℕ → List Atom → Type 0
Lists bytes atoms = (text : List ℕ) × (text ∈ parts bytes) × IsSetText text atoms

-- the file lists this set, by whatever spelling
abbrev pub IsListed : List ℕ → List Atom → Type 0
IsListed bytes I = (atoms : List Atom) × Lists bytes atoms × SameSet atoms I

-- the line of this number, counted from 1, is the first that may not stand in an after file
pub record IsFirstRefused (bytes : List ℕ) (number : ℕ) : Type 0 where
  pub before : List (List ℕ)
  pub line : List ℕ
  pub behind : List (List ℕ)
  pub lines : ended_lines bytes ≡ before ++ line ∷ behind
  pub counted : number ≡ length before + 1
  pub fine : Each IsFine before
  pub refused : ¬ IsFine line

-- the line of a set of readable atoms, with its line feed
abbrev pub IsCanonical : List ℕ → Type 0
IsCanonical line = (atoms : List Atom) × Each IsReadable atoms × IsSetLine atoms line

-- the lines are those of these sets of readable atoms, one by one
abbrev pub AreLinesOf : List (List Atom) → List (List ℕ) → Type 0
AreLinesOf [] [] = Unit {0}
AreLinesOf (I ∷ more) (line ∷ lines) = Each IsReadable I × IsSetLine I line × AreLinesOf more lines
AreLinesOf [] (line ∷ lines) = ⊥
AreLinesOf (I ∷ more) [] = ⊥
