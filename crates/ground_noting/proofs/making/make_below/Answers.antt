use Rattle.std.proofs.Common.{refl, sym, subst, ap, arith}
use Rattle.ground_noting.specs.declared.telling.Told.{Told}
use Rattle.ground_noting.specs.Instances.{IsWithin}
use Rattle.ground_noting.proofs.NotingLemmas.{noted_on}
use Rattle.ground_noting.proofs.Adding.{adds_none, adds_on}
use Rattle.ground_noting.proofs.Loops.{so_far_none, so_far_on, instances_alone}
use Rattle.ground_noting.proofs.making.make_below.Goals as goal

pub loop-told-init : goal.loop-told-init
loop-told-init g c = (
  so_far_none c.args.ground.now c.args.trail.now c.args.told.now _ _ _ _ c.requires.matches,
  refl,
  c.requires.later,
  adds_none c.args.ground.now c.args.nogoods.now c.args.choices.now,
)

pub make_next-requires-clause-within : goal.make_next-requires-clause-within
make_next-requires-clause-within g c =
    λ k at. subst (λ n. IsWithin n k) (sym (ap (λ (t : Told). t.atoms) c.loop-told.invariant.1))
    (c.requires.within c.loop-told.told.instances k c.loop-told-test.true at)

pub loop-told-preserved : goal.loop-told-preserved
loop-told-preserved g c =
    let next = ap (λ (t : Told). t.instances) c.in_ok-make_next.ensures.ok in
    let test = c.loop-told-test.true in
    let there = c.requires.there in (
      so_far_on c.args.ground.now c.args.trail.now c.args.told.now c.loop-told.told c.make_next.new.told _ _ _ _ _ _ _ _ _ _ _ _
          (omega (arith, next, test, there)) c.loop-told.invariant.0
          (record {
            noted = c.in_ok-make_next.ensures.noted;
            stores = c.in_ok-make_next.ensures.stores;
            matches = c.in_ok-make_next.ensures.matches;
            later = c.in_ok-make_next.ensures.later;
          }),
      instances_alone c.args.told.now c.loop-told.told c.make_next.new.told c.loop-told.invariant.1 c.in_ok-make_next.ensures.ok,
      omega (arith, next, test),
      adds_on c.args.ground.now _ _ _ _ _ _ c.loop-told.invariant.3 c.make_next.ensures.adds,
    )

pub returns-in_err-make_next-clause-noted : goal.returns-in_err-make_next-clause-noted
returns-in_err-make_next-clause-noted g c =
    noted_on c.args.ground.now c.args.told.now c.loop-told.told c.make_next.new.told _ _ _ c.loop-told.invariant.0.noted
    c.make_next.ensures.noted

pub returns-in_err-make_next-clause-adds : goal.returns-in_err-make_next-clause-adds
returns-in_err-make_next-clause-adds g c = adds_on c.args.ground.now _ _ _ _ _ _ c.loop-told.invariant.3 c.make_next.ensures.adds
