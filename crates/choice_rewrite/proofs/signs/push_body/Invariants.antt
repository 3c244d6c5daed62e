use Rattle.std.proofs.Common.{◌≡◌, ◌++◌, map, drop}
use Rattle.lists.specs.Lists.{concat}
use Rattle.single_rules.specs.Signs.{item_in_text}
use Rattle.choice_rewrite.proofs.signs.push_body.Given as goal

abbrev pub invariant-loop-item : goal.invariant-loop-item
invariant-loop-item l = l.into ++ concat (map item_in_text (drop l.item-index l.body)) ≡ l.initial.into ++ concat (map item_in_text l.body)
