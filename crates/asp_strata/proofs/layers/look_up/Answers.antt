use Rattle.std.proofs.Common.{sym, ◌∙◌}
use Rattle.asp_strata.proofs.Loops.{drop-at}
use Rattle.asp_strata.proofs.Stratified.{look_later}
use Rattle.asp_strata.proofs.layers.look_up.Goals as goal

pub loop-place-preserved : goal.loop-place-preserved
loop-place-preserved c =
    let q = c.index-predicates-place.result in
    let at = drop-at c.args.predicates.now c.loop-place.place q c.loop-place-test.true c.index-predicates-place.is in
    look_later c.args.predicates.now c.args.strata.now c.loop-place.place q _ at (sym c.is.ensures ∙ c.if-is.false) ∙ c.loop-place.invariant
