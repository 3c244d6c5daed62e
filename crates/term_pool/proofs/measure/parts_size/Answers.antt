use Rattle.std.proofs.Common.{ap, sym, ◌∙◌}
use Rattle.term_pool.specs.Table.{size_at}
use Rattle.term_pool.proofs.Sums.{next, measure_there}
use Rattle.term_pool.proofs.measure.parts_size.Goals as goal

pub loop-part-preserved : goal.loop-part-preserved
loop-part-preserved c =
    next (size_at c.args.table.now.entries) c.args.parts.now c.loop-part.part-index c.part-item.result c.index-measure.result.now.size c.loop-part.total c.in_ok-total.total
    c.loop-part-test.true c.part-item.is
    (ap (λ a. size_at c.args.table.now.entries a) (sym c.place.ensures) ∙ ap (λ m. m.size) (measure_there c.args.table.now.entries c.place.result c.index-measure.result.now c.index-measure.ensures))
    c.loop-part.invariant c.in_ok-total.ensures.1
