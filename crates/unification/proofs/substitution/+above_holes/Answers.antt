use Rattle.std.proofs.Common.{rules, ◌≡◌, ◌<◌, ◌∙◌, ℕ, sym, ap, subst, arith}
use Rattle.alpha_outside.specs.declared.pattern.PatternTerm.TheVariants as pattern
use Rattle.unification.proofs.HoleLemmas.{below_next, below_all}
use Rattle.unification.proofs.substitution.+above_holes.Goals as goal

pub loop-arg-preserved : goal.loop-arg-preserved
loop-arg-preserved t c =
    let items = c.as_slice-arg-items.result.now in
    below_next items c.loop-arg.arg-index c.loop-arg.most c.in-Some.n c.max-most.result c.arg-item.result c.loop-arg-test.true c.arg-item.is
    (c.above_holes.ensures c.in-Some.n c.in-Some.is) (search rules) (search rules) c.loop-arg.invariant

pub returns-after-loop-arg : goal.returns-after-loop-arg
returns-after-loop-arg t c = λ n e x has.
    let items = c.as_slice-arg-items.result.now in
    let is : c.args.term.now ≡ pattern.Fun c.in-Fun.field-0 items = c.in-Fun.is ∙ ap (pattern.Fun c.in-Fun.field-0) (sym c.as_slice-arg-items.ensures) in
    let same : c.loop-arg.most ≡ n = cc in
    subst (λ m. x < m) same (below_all c.args.term.now c.in-Fun.field-0 items c.loop-arg.arg-index c.loop-arg.most is c.loop-arg-test.false c.loop-arg.invariant x has)
