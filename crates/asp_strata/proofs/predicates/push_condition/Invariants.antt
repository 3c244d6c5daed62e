use Rattle.std.proofs.Common.{◌≡◌, ◌++◌, map, drop}
use Rattle.lists.specs.Lists.{concat}
use Rattle.asp_strata.specs.Recursion.{literal_predicates}
use Rattle.asp_strata.proofs.predicates.push_condition.Given as goal

abbrev pub invariant-loop-literal : goal.invariant-loop-literal
invariant-loop-literal l = l.into ++ concat (map literal_predicates (drop l.literal-index l.condition)) ≡ l.initial.into ++ concat (map literal_predicates l.condition)
