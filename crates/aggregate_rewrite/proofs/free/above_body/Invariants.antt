use Rattle.std.proofs.Common.{◌≡◌, max, map, drop}
use Rattle.lists.specs.Lists.{concat}
use Rattle.asp_safety.specs.Binding.{item_variables}
use Rattle.rewriting.specs.Lifting.{free_above}
use Rattle.aggregate_rewrite.proofs.free.above_body.Given as goal

abbrev pub invariant-loop-item : goal.invariant-loop-item
invariant-loop-item l = max l.free (free_above (concat (map item_variables (drop l.item-index l.body)))) ≡ free_above (concat (map item_variables l.body))
