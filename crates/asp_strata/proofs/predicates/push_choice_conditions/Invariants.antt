use Rattle.std.proofs.Common.{◌≡◌, ◌++◌, map, drop}
use Rattle.lists.specs.Lists.{concat}
use Rattle.asp_strata.specs.Recursion.{choice_condition}
use Rattle.asp_strata.proofs.predicates.push_choice_conditions.Given as goal

abbrev pub invariant-loop-element : goal.invariant-loop-element
invariant-loop-element l = l.into ++ concat (map choice_condition (drop l.element-index l.elements)) ≡ l.initial.into ++ concat (map choice_condition l.elements)
