use Rattle.std.proofs.Math.ListN.{drop_of_length-le}
use Rattle.asp_strata.proofs.Loops.{drop-at}
use Rattle.asp_meaning.specs.Variables.{variables}
use Rattle.aggregate_rewrite.proofs.FreeLemmas.{above_on, above_done}
use Rattle.aggregate_rewrite.proofs.free.above_terms.Goals as goal

pub loop-term-preserved : goal.loop-term-preserved
loop-term-preserved c =
    let terms = c.args.terms.now in
    let at = drop-at terms c.loop-term.term-index c.term-item.result c.loop-term-test.true c.term-item.is in
    above_on variables _ _ c.term-item.result c.loop-term.free c.above_term.result _ _ at c.above_term.ensures c.max-free.ensures c.loop-term.invariant

pub returns : goal.returns
returns c = above_done variables _ c.loop-term.free _ (drop_of_length-le c.args.terms.now c.loop-term-test.false) c.loop-term.invariant
