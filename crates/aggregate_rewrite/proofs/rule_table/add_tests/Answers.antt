use Rattle.std.proofs.Common.{[], ◌∷◌}
use Rattle.asp_strata.proofs.Loops.{drop-at}
use Rattle.rewriting.specs.Parts.{Comparison}
use Rattle.aggregate_rewrite.proofs.TableLemmas.{with_terms_on}
use Rattle.aggregate_rewrite.proofs.rule_table.add_tests.Goals as goal

pub loop-test-preserved : goal.loop-test-preserved
loop-test-preserved c =
    let tests = c.args.tests.now in
    let at = drop-at tests c.loop-test.test-index c.test-item.result c.loop-test-test.true c.test-item.is in
    with_terms_on (λ (t : Comparison). t.left ∷ t.right ∷ []) _ _ c.test-item.result c.loop-test.table _ _ at c.in_ok-add_test.ensures c.loop-test.invariant
