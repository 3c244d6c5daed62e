use Rattle.std.proofs.Common.{◌≡◌, ◌++◌, map, drop}
use Rattle.lists.specs.Lists.{concat}
use Rattle.single_rules.specs.Renaming.{all_item_terms}
use Rattle.choice_rewrite.proofs.all_terms.push_body.Given as goal

abbrev pub invariant-loop-item : goal.invariant-loop-item
invariant-loop-item l = l.into ++ concat (map all_item_terms (drop l.item-index l.body)) ≡ l.initial.into ++ concat (map all_item_terms l.body)
