use Rattle.std.proofs.Common.{◌≡◌, ap, ◌∙◌, arith}
use Rattle.asp_strata.proofs.Loops.{drop-at}
use Rattle.asp_meaning.specs.Variables.{variables}
use Rattle.single_rules.specs.Renaming.{marks_above}
use Rattle.choice_rewrite.proofs.AboveLemmas.{marks_on, marks_Arith}
use Rattle.choice_rewrite.proofs.above.+marks_in_term.Goals as goal

pub loop-arg-preserved : goal.loop-arg-preserved
loop-arg-preserved t c =
    let args = c.as_slice-arg-items.result.now in
    let at = drop-at args c.loop-arg.arg-index c.arg-item.result c.loop-arg-test.true c.arg-item.is in
    marks_on variables _ _ c.arg-item.result c.loop-arg.above c.marks_in_term.result _ _ at c.marks_in_term.ensures c.max-above.ensures c.loop-arg.invariant

pub returns-in-Arith : goal.returns-in-Arith
returns-in-Arith t c =
    let left : c.marks_in_term-in-Arith.result ≡ marks_above (variables c.in-Arith.left) =
    c.marks_in_term-in-Arith.ensures ∙ ap (λ u. marks_above (variables u)) c.get-in-Arith.ensures in
    let right : c.marks_in_term-in-Arith-2.result ≡ marks_above (variables c.in-Arith.right) =
    c.marks_in_term-in-Arith-2.ensures ∙ ap (λ u. marks_above (variables u)) c.get-in-Arith-2.ensures in
    let whole = marks_Arith c.in-Arith.field-0 c.in-Arith.left c.in-Arith.right c.args.term.now c.in-Arith.is in
    omega arith
