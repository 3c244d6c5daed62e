use Rattle.std.proofs.Common.{rules, ◌≡◌, ◌<◌, ℕ, sym, ap, subst}
use Rattle.unification.proofs.HoleLemmas.{below_next, below_each}
use Rattle.unification.proofs.unifying.above_all.Goals as goal

pub loop-term-preserved : goal.loop-term-preserved
loop-term-preserved c =
    below_next c.args.terms.now c.loop-term.term-index c.loop-term.most c.in-Some.n c.max-most.result c.term-item.result c.loop-term-test.true c.term-item.is
    (c.above_holes.ensures c.in-Some.n c.in-Some.is) (search rules) (search rules) c.loop-term.invariant

pub returns : goal.returns
returns c = λ n e u k x has.
    let same : c.loop-term.most ≡ n = cc in
    subst (λ m. x < m) same (below_each c.args.terms.now c.loop-term.term-index c.loop-term.most c.loop-term-test.false c.loop-term.invariant u k x has)
