use Rattle.std.proofs.Common.{[], ◌∷◌, ◌++◌, map, sym, ap, ◌∙◌}
use Rattle.std.proofs.Math.ListN.{drop_of_length-le}
use Rattle.asp_strata.proofs.Loops.{drop-at, on_ok}
use Rattle.asp_syntax.specs.declared.tree.Term.{Term}
use Rattle.asp_syntax.specs.declared.tree.Term.TheVariants as tree
use Rattle.asp_syntax.specs.declared.tree.Term.TheVariants.{Fun}
use Rattle.rewriting.specs.Lifting.{Lifted, lift_term, lift_each, call_with, equation_test}
use Rattle.aggregate_rewrite.proofs.LiftLemmas.{lift_one, lift_none, lift_Fun, lift_Minus, lift_Arith, one_equation}
use Rattle.aggregate_rewrite.proofs.lifting.Lifter.+lift_term.Goals as goal

pub loop-arg-preserved : goal.loop-arg-preserved
loop-arg-preserved t c =
    let args = c.as_slice-arg-items.result.now in
    let at = drop-at args c.loop-arg.arg-index c.arg-item.result c.loop-arg-test.true c.arg-item.is in
    let pushed = c.in_ok-push-in-Fun.ensures.ok ∙ ap (λ u. c.loop-arg.lifted ++ u ∷ []) c.in_ok-lift_term-in-Fun.ensures.lifted in
    lift_one lift_term _ _ c.arg-item.result c.loop-arg.self.next c.lift_term.new.self.next c.loop-arg.lifted c.push.new.self c.loop-arg.self.equations c.lift_term.new.self.equations _
    c.args.self.now.equations at pushed c.in_ok-lift_term-in-Fun.ensures.equations c.in_ok-lift_term-in-Fun.ensures.next c.loop-arg.invariant

pub returns-in_ok-copy-in-Fun : goal.returns-in_ok-copy-in-Fun
returns-in_ok-copy-in-Fun t c =
    let args = c.as_slice-arg-items.result.now in
    let k = c.args.self.now.next in
    let done =
    lift_none lift_term _ c.loop-arg.self.next c.loop-arg.lifted c.loop-arg.self.equations _ c.args.self.now.equations (drop_of_length-le args c.loop-arg-test.false) c.loop-arg.invariant in
    let whole =
    lift_Fun c.in-Fun.name c.in-Fun.args c.args.term.now k c.in-Fun.is ∙ ap (λ ts. call_with c.in-Fun.name (lift_each lift_term ts k)) (sym c.as_slice-arg-items.ensures) in
    record {
      lifted = (λ i. Fun (c.in_ok-copy-in-Fun.ensures i) (done.0 i)) ∙ sym (tree.rolls-Fun c.in-Fun.name _) ∙ ap (λ (l : Lifted Term). l.lifted) (sym whole);
      equations = done.1 ∙ ap (λ (l : Lifted Term). c.args.self.now.equations ++ map equation_test l.equations) (sym whole);
      next = done.2 ∙ ap (λ (l : Lifted Term). l.next) (sym whole);
    }

pub returns-in_ok-copy-in-Minus-clause-equations : goal.returns-in_ok-copy-in-Minus-clause-equations
returns-in_ok-copy-in-Minus-clause-equations t c =
    on_ok c.put_out.result _ _ (λ n.
    one_equation c.args.term.now c.in_ok-copy-in-Minus.field-0 c.args.self.now.next c.args.self.now.equations c.put_out.new.self.equations c.in_ok-copy-in-Minus.ensures n
    (lift_Minus c.in-Minus.field-0 c.args.term.now c.args.self.now.next c.in-Minus.is)) c.put_out.ensures.equations

pub returns-in_ok-copy-in-Arith-clause-equations : goal.returns-in_ok-copy-in-Arith-clause-equations
returns-in_ok-copy-in-Arith-clause-equations t c =
    on_ok c.put_out-in-Arith.result _ _ (λ n.
    one_equation c.args.term.now c.in_ok-copy-in-Arith.field-0 c.args.self.now.next c.args.self.now.equations c.put_out-in-Arith.new.self.equations c.in_ok-copy-in-Arith.ensures n
    (lift_Arith c.in-Arith.field-0 c.in-Arith.field-1 c.in-Arith.field-2 c.args.term.now c.args.self.now.next c.in-Arith.is)) c.put_out-in-Arith.ensures.equations
