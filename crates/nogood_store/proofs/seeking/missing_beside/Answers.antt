use Rattle.std.proofs.Common.{◌≡◌}
use Rattle.std.specs.Prelude.{Some}
use Rattle.alpha_outside.specs.declared.literal.Lit.{Lit}
use Rattle.search_values.specs.Values.{Holds}
use Rattle.nogood_store.proofs.Going.{here-in}
use Rattle.nogood_store.proofs.Finds.{each_more}
use Rattle.nogood_store.proofs.seeking.missing_beside.Goals as goal
use Rattle.nogood_store.proofs.seeking.missing_beside.Goals.{else-is_missing-via-then-is_missing+else-not-is_same, else-is_missing-via-else-is_missing}

pub is_missing-requires : goal.is_missing-requires
is_missing-requires c = c.requires c.l-item.result (here-in c.args.lits.now c.loop-l.l-index c.l-item.result c.loop-l-test.true c.l-item.is)

pub returns-then-not-is_same-clause-some : goal.returns-then-not-is_same-clause-some
returns-then-not-is_same-clause-some c = (here-in c.args.lits.now c.loop-l.l-index c.l-item.result c.loop-l-test.true c.l-item.is, c.is_missing.ensures.yes c.if-is_missing.true, c.is_same.ensures.no c.if-not-is_same.true)

pub loop-l-preserved : goal.loop-l-preserved
loop-l-preserved c k h beside = each_more (λ (k : Lit). (c.args.beside.now ≡ Some k → ⊥) → Holds c.args.trail.now.stack k) c.args.lits.now c.loop-l.l-index c.l-item.result c.loop-l-test.true c.l-item.is c.loop-l.invariant here k h beside
  where
    here : (c.args.beside.now ≡ Some c.l-item.result → ⊥) → Holds c.args.trail.now.stack c.l-item.result
    here n = elim c.else-is_missing.branch [
      | else-is_missing-via-then-is_missing+else-not-is_same w ↦ absurd (n (w.is_same.ensures.yes w.if-not-is_same.false))
      | else-is_missing-via-else-is_missing w ↦ c.is_missing.ensures.no w.if-is_missing.false
    ]
