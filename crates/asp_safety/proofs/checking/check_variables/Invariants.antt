use Rattle.std.proofs.Common.{ℕ, List, drop}
use Rattle.lists.specs.Lists.{Each}
use Rattle.asp_safety.specs.Binding.{IsSafe}
use Rattle.asp_safety.specs.Firsts.{FirstUnsafe}
use Rattle.asp_safety.proofs.checking.check_variables.Given as goal

abbrev pub invariant-loop-statement : goal.invariant-loop-statement
invariant-loop-statement l = record {
  all : Each IsSafe (drop l.statement-index l.statements) → Each IsSafe l.statements;
  first : (line : ℕ) (variable : List ℕ) → FirstUnsafe (drop l.statement-index l.statements) line variable → FirstUnsafe l.statements line variable;
}
