-- The first unsafe statement of a program, and its first variable that isn't bound.
use Rattle.std.specs.Prelude.{◌≡◌, ℕ, List}
use Rattle.asp_syntax.specs.declared.tree.Statement.{Statement}
use Rattle.asp_strata.specs.Firsts.{IsFirstBad}
use Rattle.asp_safety.specs.Keys.{spelled}
use Rattle.asp_safety.specs.Binding.{Occurrence, IsBoundThere, IsSafe, occurrences}

-- the first occurrence of a variable in the statement, from left to right, that isn't bound is spelled so
abbrev pub FirstUnbound : Statement → List ℕ → Type 0
FirstUnbound s variable = (o : Occurrence) × IsFirstBad (IsBoundThere s) (occurrences s) o × (variable ≡ spelled o.variable)

-- the first unsafe statement begins in this line, and its first unbound variable is spelled so
abbrev pub FirstUnsafe : List Statement → ℕ → List ℕ → Type 0
FirstUnsafe P line variable = (s : Statement) × IsFirstBad IsSafe P s × (line ≡ s.line) × FirstUnbound s variable
