use Rattle.std.proofs.Common.{◌≡◌, ◌++◌, map, drop}
use Rattle.lists.specs.Lists.{concat}
use Rattle.asp_strata.specs.Recursion.{item_predicates}
use Rattle.asp_strata.proofs.predicates.push_body.Given as goal

abbrev pub invariant-loop-item : goal.invariant-loop-item
invariant-loop-item l = l.into ++ concat (map item_predicates (drop l.item-index l.item-items)) ≡ l.initial.into ++ concat (map item_predicates l.item-items)
