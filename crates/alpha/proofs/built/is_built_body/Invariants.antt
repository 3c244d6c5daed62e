use Rattle.std.proofs.Common.{◌≡◌, drop}
use Rattle.std.specs.List.{list_all}
use Rattle.alpha.specs.Built.{is_built_item}
use Rattle.alpha.proofs.built.is_built_body.Given as goal

abbrev pub invariant-loop-item : goal.invariant-loop-item
invariant-loop-item l = list_all is_built_item (drop l.item-index l.body) ≡ list_all is_built_item l.body
