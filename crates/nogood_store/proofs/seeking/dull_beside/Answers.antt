use Rattle.std.proofs.Common.{◌≡◌, sym, ◌∙◌}
use Rattle.std.proofs.lemmas.Bool.{eqb-true, eqb-false, not-false}
use Rattle.search_values.proofs.Basics.{not_true}
use Rattle.alpha_outside.specs.declared.literal.Lit.{Lit}
use Rattle.search_values.specs.Values.{HoldsFully}
use Rattle.nogood_store.proofs.Going.{here-in}
use Rattle.nogood_store.proofs.Finds.{each_more}
use Rattle.nogood_store.proofs.seeking.dull_beside.Goals as goal
use Rattle.nogood_store.proofs.seeking.dull_beside.Goals.{else-ne-via-then-ne+else-is_dull, else-ne-via-else-ne}

pub is_dull-requires : goal.is_dull-requires
is_dull-requires c = c.requires c.l-item.result (here-in c.args.lits.now c.loop-l.l-index c.l-item.result c.loop-l-test.true c.l-item.is)

pub returns-then-is_dull-clause-some : goal.returns-then-is_dull-clause-some
returns-then-is_dull-clause-some c = (here-in c.args.lits.now c.loop-l.l-index c.l-item.result c.loop-l-test.true c.l-item.is, c.is_dull.ensures.yes c.if-is_dull.true, eqb-false _ _ (not_true _ (sym c.ne.ensures ∙ c.if-ne.true)))

pub loop-l-preserved : goal.loop-l-preserved
loop-l-preserved c k h beside = each_more (λ (k : Lit). (k.atom ≡ c.args.head → ⊥) → HoldsFully c.args.trail.now.stack k) c.args.lits.now c.loop-l.l-index c.l-item.result c.loop-l-test.true c.l-item.is c.loop-l.invariant here k h beside
  where
    here : (c.l-item.result.atom ≡ c.args.head → ⊥) → HoldsFully c.args.trail.now.stack c.l-item.result
    here n = elim c.else-ne.branch [
      | else-ne-via-then-ne+else-is_dull w ↦ w.is_dull.ensures.no w.if-is_dull.false
      | else-ne-via-else-ne w ↦ absurd (n (eqb-true _ _ (not-false _ (sym c.ne.ensures ∙ w.if-ne.false))))
    ]
