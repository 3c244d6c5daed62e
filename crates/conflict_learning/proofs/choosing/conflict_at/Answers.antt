use Rattle.std.proofs.Common.{refl, sym, ◌∙◌, ap, subst}
use Rattle.nogood_store.specs.Stored.{LitsAreBelow}
use Rattle.conflict_learning.specs.FirstValues.{came_with}
use Rattle.conflict_learning.specs.Analysing.{AllHold, IsUnitBelow}
use Rattle.conflict_learning.proofs.Shown.{shown_at}
use Rattle.conflict_learning.proofs.choosing.conflict_at.Goals as goal

pub all_hold-requires : goal.all_hold-requires
all_hold-requires c =
    let v = c.lits-lits.ensures.value in
    record { below = subst (LitsAreBelow c.args.trail.now.atoms) (sym v.2) (c.requires.below c.args.id v.0 v.1) }

pub returns-then-not-all_hold : goal.returns-then-not-all_hold
returns-then-not-all_hold c h =
    let same = shown_at c.args.store.now c.args.id c.lits-lits.result.now c.lits-lits.ensures.value in
    c.all_hold.ensures.no c.if-not-all_hold.true (subst (AllHold c.args.trail.now.stack) (sym same) h)

pub returns : goal.returns
returns c =
    let same = shown_at c.args.store.now c.args.id c.lits-lits.result.now c.lits-lits.ensures.value in
    record {
      id_is = refl;
      holds = subst (AllHold c.args.trail.now.stack) same (c.all_hold.ensures.yes c.if-not-all_hold.false);
      came_is = c.came_last.ensures ∙ ap (came_with c.args.trail.now.stack) same;
      unit_is = λ t. subst (IsUnitBelow c.args.trail.now.stack) same (c.is_unit.ensures.yes t);
      unit_not = λ f u. c.is_unit.ensures.no f (subst (IsUnitBelow c.args.trail.now.stack) (sym same) u);
    }
