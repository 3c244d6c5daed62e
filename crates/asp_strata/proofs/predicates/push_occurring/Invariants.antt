use Rattle.std.proofs.Common.{◌≡◌, ◌++◌, map, drop}
use Rattle.lists.specs.Lists.{concat}
use Rattle.asp_strata.specs.Recursion.{statement_predicates}
use Rattle.asp_strata.proofs.predicates.push_occurring.Given as goal

abbrev pub invariant-loop-statement : goal.invariant-loop-statement
invariant-loop-statement l = l.into ++ concat (map statement_predicates (drop l.statement-index l.statements)) ≡ l.initial.into ++ concat (map statement_predicates l.statements)
