use Rattle.std.proofs.Common.{◌≡◌, ◌++◌, map, drop}
use Rattle.asp_strata.specs.Recursion.{choice_predicate}
use Rattle.asp_strata.proofs.predicates.push_choices.Given as goal

abbrev pub invariant-loop-element : goal.invariant-loop-element
invariant-loop-element l = l.into ++ map choice_predicate (drop l.element-index l.elements) ≡ l.initial.into ++ map choice_predicate l.elements
