use Rattle.std.proofs.Common.{◌≡◌, ap, ◌∙◌, arith}
use Rattle.asp_strata.proofs.Loops.{drop-at}
use Rattle.asp_meaning.specs.Variables.{variables}
use Rattle.rewriting.specs.Lifting.{free_above}
use Rattle.aggregate_rewrite.proofs.FreeLemmas.{above_on, above_Arith}
use Rattle.aggregate_rewrite.proofs.free.+above_term.Goals as goal

pub loop-arg-preserved : goal.loop-arg-preserved
loop-arg-preserved t c =
    let args = c.as_slice-arg-items.result.now in
    let at = drop-at args c.loop-arg.arg-index c.arg-item.result c.loop-arg-test.true c.arg-item.is in
    above_on variables _ _ c.arg-item.result c.loop-arg.free c.above_term.result _ _ at c.above_term.ensures c.max-free.ensures c.loop-arg.invariant

pub returns-in-Arith : goal.returns-in-Arith
returns-in-Arith t c =
    let left : c.above_term-in-Arith.result ≡ free_above (variables c.in-Arith.left) =
    c.above_term-in-Arith.ensures ∙ ap (λ u. free_above (variables u)) c.get-in-Arith.ensures in
    let right : c.above_term-in-Arith-2.result ≡ free_above (variables c.in-Arith.right) =
    c.above_term-in-Arith-2.ensures ∙ ap (λ u. free_above (variables u)) c.get-in-Arith-2.ensures in
    let whole = above_Arith c.in-Arith.field-0 c.in-Arith.left c.in-Arith.right c.args.term.now c.in-Arith.is in
    omega arith
