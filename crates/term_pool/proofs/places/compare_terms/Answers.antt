use Rattle.std.proofs.Common.{◌∙◌, sym}
use Rattle.term_pool.proofs.CompareLemmas.{known_here, down_here}
use Rattle.term_pool.proofs.places.compare_terms.Goals as goal

pub returns-in-Known : goal.returns-in-Known
returns-in-Known c =
    sym (known_here c.args.nodes.now c.requires.pool c.loop-order.left c.loop-order.right c.node_at.result.now c.node_at-in-loop-order.result.now c.in-Known.order
    c.node_at.ensures.there c.node_at-in-loop-order.ensures.there c.in-Known.ensures)
    ∙ c.loop-order.invariant.2

pub loop-order-smaller : goal.loop-order-smaller
loop-order-smaller c =
    (down_here c.args.nodes.now c.requires.pool c.loop-order.left c.loop-order.right c.node_at.result.now c.node_at-in-loop-order.result.now c.in-Parts.x c.in-Parts.y
    c.node_at.ensures.there c.node_at-in-loop-order.ensures.there c.in-Parts.ensures).0

pub loop-order-preserved : goal.loop-order-preserved
loop-order-preserved c =
    let d = down_here c.args.nodes.now c.requires.pool c.loop-order.left c.loop-order.right c.node_at.result.now c.node_at-in-loop-order.result.now c.in-Parts.x c.in-Parts.y
    c.node_at.ensures.there c.node_at-in-loop-order.ensures.there c.in-Parts.ensures in
    (d.1, d.2, d.3 ∙ c.loop-order.invariant.2)
