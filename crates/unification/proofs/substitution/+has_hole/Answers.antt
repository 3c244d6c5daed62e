use Rattle.std.proofs.Common.{rules, ◌≡◌, ◌∙◌, sym, ap}
use Rattle.alpha_outside.specs.declared.pattern.PatternTerm.{PatternTerm}
use Rattle.alpha_outside.specs.declared.pattern.PatternTerm.TheVariants as pattern
use Rattle.unification.proofs.HoleLemmas.{hole_here, hole_nowhere}
use Rattle.unification.proofs.substitution.+has_hole.Goals as goal

pub returns-then-has_hole : goal.returns-then-has_hole
returns-then-has_hole t c =
    let items = c.as_slice-arg-items.result.now in
    let is : c.args.term.now ≡ pattern.Fun c.in-Fun.field-0 items = c.in-Fun.is ∙ ap (pattern.Fun c.in-Fun.field-0) (sym c.as_slice-arg-items.ensures) in
    (λ _. hole_here c.args.term.now c.in-Fun.field-0 items c.loop-arg.arg-index c.args.hole c.arg-item.result is c.loop-arg-test.true c.arg-item.is (c.has_hole.ensures.0 c.if-has_hole.true), λ _. search rules)

pub returns-after-loop-arg : goal.returns-after-loop-arg
returns-after-loop-arg t c =
    let items = c.as_slice-arg-items.result.now in
    let is : c.args.term.now ≡ pattern.Fun c.in-Fun.field-0 items = c.in-Fun.is ∙ ap (pattern.Fun c.in-Fun.field-0) (sym c.as_slice-arg-items.ensures) in
    (λ no. search rules, λ has. absurd (hole_nowhere c.args.term.now c.in-Fun.field-0 items c.loop-arg.arg-index c.args.hole is c.loop-arg-test.false c.loop-arg.invariant has))
