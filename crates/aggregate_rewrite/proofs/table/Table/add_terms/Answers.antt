use Rattle.asp_strata.proofs.Loops.{drop-at}
use Rattle.asp_meaning.specs.Variables.{variables}
use Rattle.aggregate_rewrite.proofs.TableLemmas.{with_on}
use Rattle.aggregate_rewrite.proofs.table.Table.add_terms.Goals as goal

pub loop-term-preserved : goal.loop-term-preserved
loop-term-preserved c =
    let terms = c.args.terms.now in
    let at = drop-at terms c.loop-term.term-index c.term-item.result c.loop-term-test.true c.term-item.is in
    with_on variables _ _ c.term-item.result c.loop-term.self _ _ at c.in_ok-add_term.ensures c.loop-term.invariant
