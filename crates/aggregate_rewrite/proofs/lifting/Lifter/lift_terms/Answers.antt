use Rattle.std.proofs.Common.{[], ◌∷◌, ◌++◌, ap, ◌∙◌}
use Rattle.std.proofs.Math.ListN.{drop_of_length-le}
use Rattle.asp_strata.proofs.Loops.{drop-at}
use Rattle.rewriting.specs.Lifting.{lift_term}
use Rattle.aggregate_rewrite.proofs.LiftLemmas.{lift_one, lift_none}
use Rattle.aggregate_rewrite.proofs.lifting.Lifter.lift_terms.Goals as goal

pub loop-term-preserved : goal.loop-term-preserved
loop-term-preserved c =
    let terms = c.args.terms.now in
    let at = drop-at terms c.loop-term.term-index c.term-item.result c.loop-term-test.true c.term-item.is in
    let pushed = c.in_ok-push.ensures.ok ∙ ap (λ t. c.loop-term.lifted ++ t ∷ []) c.in_ok-lift_term.ensures.lifted in
    lift_one lift_term _ _ c.term-item.result c.loop-term.self.next c.lift_term.new.self.next c.loop-term.lifted c.push.new.self c.loop-term.self.equations c.lift_term.new.self.equations _
    c.args.self.now.equations at pushed c.in_ok-lift_term.ensures.equations c.in_ok-lift_term.ensures.next c.loop-term.invariant

pub returns : goal.returns
returns c =
    let done =
    lift_none lift_term _ c.loop-term.self.next c.loop-term.lifted c.loop-term.self.equations _ c.args.self.now.equations (drop_of_length-le c.args.terms.now c.loop-term-test.false)
    c.loop-term.invariant in
    record { lifted = done.0; equations = done.1; next = done.2 }
