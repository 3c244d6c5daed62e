use Rattle.std.proofs.Common.{◌≡◌, ap, ◌∙◌, arith}
use Rattle.asp_strata.proofs.Loops.{drop-at}
use Rattle.asp_meaning.specs.Variables.{variables}
use Rattle.single_rules.specs.Renaming.{numbers_above}
use Rattle.choice_rewrite.proofs.AboveLemmas.{numbers_on, numbers_Arith}
use Rattle.choice_rewrite.proofs.above.+numbers_in_term.Goals as goal

pub loop-arg-preserved : goal.loop-arg-preserved
loop-arg-preserved t c =
    let args = c.as_slice-arg-items.result.now in
    let at = drop-at args c.loop-arg.arg-index c.arg-item.result c.loop-arg-test.true c.arg-item.is in
    numbers_on variables _ _ c.arg-item.result c.loop-arg.above c.numbers_in_term.result _ _ at c.numbers_in_term.ensures c.max-above.ensures c.loop-arg.invariant

pub returns-in-Arith : goal.returns-in-Arith
returns-in-Arith t c =
    let left : c.numbers_in_term-in-Arith.result ≡ numbers_above (variables c.in-Arith.left) =
    c.numbers_in_term-in-Arith.ensures ∙ ap (λ u. numbers_above (variables u)) c.get-in-Arith.ensures in
    let right : c.numbers_in_term-in-Arith-2.result ≡ numbers_above (variables c.in-Arith.right) =
    c.numbers_in_term-in-Arith-2.ensures ∙ ap (λ u. numbers_above (variables u)) c.get-in-Arith-2.ensures in
    let whole = numbers_Arith c.in-Arith.field-0 c.in-Arith.left c.in-Arith.right c.args.term.now c.in-Arith.is in
    omega arith
