-- The lines of an after file, and which of them it may have.
use Rattle.std.specs.Prelude.{◌≡◌, ◌⊎◌, ℕ, ◌==◌, List, [], ◌∷◌, ◌++◌}
use Rattle.std.specs.List.{slice_split}
use Rattle.asp_meaning.specs.Atoms.{Atom}
use Rattle.answer_printer.specs.Sets.{AreBlanks, IsSetText}

-- the texts between the line feeds, without them. There is always at least one, and the last is not ended
abbrev pub parts : List ℕ → List (List ℕ)
parts bytes = slice_split (λ b. b == 10) bytes

-- all but the last
abbrev pub all_but_last : List (List ℕ) → List (List ℕ)
all_but_last [] = []
all_but_last (x ∷ []) = []
all_but_last (x ∷ y ∷ more) = x ∷ all_but_last (y ∷ more)

-- the lines: the texts that are ended by a line feed
abbrev pub ended_lines : List ℕ → List (List ℕ)
ended_lines bytes = all_but_last (parts bytes)

-- blanks alone, or nothing
abbrev pub IsEmptyLine : List ℕ → Type 0
IsEmptyLine line = AreBlanks line

-- the first byte other than blanks is `%`
abbrev pub IsComment : List ℕ → Type 0
IsComment line = (blanks : List ℕ) × (rest : List ℕ) × AreBlanks blanks × (line ≡ blanks ++ 37 ∷ rest)

-- the line may stand in an after file: it is empty, a comment, or a set
abbrev pub IsFine : List ℕ → Type 0
IsFine line = IsEmptyLine line ⊎ IsComment line ⊎ ((atoms : List Atom) × IsSetText line atoms)
