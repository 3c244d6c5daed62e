use Rattle.std.proofs.Common.{◌≡◌, ◌++◌, map, drop}
use Rattle.lists.specs.Lists.{concat}
use Rattle.asp_strata.specs.Recursion.{item_element_predicates}
use Rattle.asp_strata.proofs.predicates.push_element_predicates.Given as goal

abbrev pub invariant-loop-item : goal.invariant-loop-item
invariant-loop-item l = l.into ++ concat (map item_element_predicates (drop l.item-index l.item-items)) ≡ l.initial.into ++ concat (map item_element_predicates l.item-items)
