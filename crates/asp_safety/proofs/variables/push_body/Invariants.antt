use Rattle.std.proofs.Common.{◌≡◌, ◌++◌, map, drop}
use Rattle.lists.specs.Lists.{concat}
use Rattle.asp_safety.specs.Binding.{item_variables}
use Rattle.asp_safety.proofs.variables.push_body.Given as goal

abbrev pub invariant-loop-item : goal.invariant-loop-item
invariant-loop-item l = l.into ++ concat (map item_variables (drop l.item-index l.body)) ≡ l.initial.into ++ concat (map item_variables l.body)
