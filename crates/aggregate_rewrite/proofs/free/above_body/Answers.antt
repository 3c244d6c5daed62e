use Rattle.std.proofs.Math.ListN.{drop_of_length-le}
use Rattle.asp_strata.proofs.Loops.{drop-at}
use Rattle.asp_safety.specs.Binding.{item_variables}
use Rattle.aggregate_rewrite.proofs.FreeLemmas.{above_on, above_done}
use Rattle.aggregate_rewrite.proofs.free.above_body.Goals as goal

pub loop-item-preserved : goal.loop-item-preserved
loop-item-preserved c =
    let body = c.args.body.now in
    let at = drop-at body c.loop-item.item-index c.item-item.result c.loop-item-test.true c.item-item.is in
    above_on item_variables _ _ c.item-item.result c.loop-item.free c.above_item.result _ _ at c.above_item.ensures c.max-free.ensures c.loop-item.invariant

pub returns : goal.returns
returns c = above_done item_variables _ c.loop-item.free _ (drop_of_length-le c.args.body.now c.loop-item-test.false) c.loop-item.invariant
