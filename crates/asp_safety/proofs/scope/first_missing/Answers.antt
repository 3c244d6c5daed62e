use Rattle.std.proofs.Common.{Some, subst, sym}
use Rattle.asp_safety.specs.Walks.{Misses}
use Rattle.asp_strata.proofs.Loops.{drop-at}
use Rattle.asp_safety.proofs.Finding.{misses_here, misses_on}
use Rattle.asp_safety.proofs.scope.first_missing.Goals as goal

pub returns-then-not-is_met : goal.returns-then-not-is_met
returns-then-not-is_met c =
    let given = c.args.given.now.keys in
    let bound = c.args.bound.now.keys in
    let at = drop-at c.args.keys.now c.loop-key.key-index c.key-item.result c.loop-key-test.true c.key-item.is in
    c.loop-key.invariant (Some c.in_ok-name.name) (subst (λ vs. Misses given bound vs (Some c.in_ok-name.name)) (sym at)
    (misses_here given bound c.key-item.result _ c.in_ok-name.name (λ h. absurd (cc (c.is_met.ensures.1 h, c.if-not-is_met.true))) c.in_ok-name.ensures))

pub loop-key-preserved : goal.loop-key-preserved
loop-key-preserved c = λ o h.
    let given = c.args.given.now.keys in
    let bound = c.args.bound.now.keys in
    let at = drop-at c.args.keys.now c.loop-key.key-index c.key-item.result c.loop-key-test.true c.key-item.is in
    c.loop-key.invariant o (subst (λ vs. Misses given bound vs o) (sym at) (misses_on given bound c.key-item.result _ (c.is_met.ensures.0 c.if-not-is_met.false) o h))
