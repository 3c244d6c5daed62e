use Rattle.std.proofs.Common.{refl, ap, arith}
use Rattle.ground_noting.specs.declared.telling.Told.{Told}
use Rattle.ground_noting.specs.Notings.{IsTold}
use Rattle.ground_noting.proofs.NotingLemmas.{noted_on, told_noted}
use Rattle.ground_noting.proofs.Adding.{adds_none, adds_on}
use Rattle.ground_noting.proofs.Loops.{so_far_none, so_far_on, terms_stay}
use Rattle.ground_noting.proofs.naming.note_atoms.Goals as goal

pub loop-told-init : goal.loop-told-init
loop-told-init g c = (
  so_far_none c.args.ground.now c.args.trail.now c.args.told.now _ _ _ _ c.requires.matches,
  refl,
  c.requires.told.atoms,
  adds_none c.args.ground.now c.args.nogoods.now c.args.choices.now,
)

pub note_atom-requires-clause-told : goal.note_atom-requires-clause-told
note_atom-requires-clause-told g c =
    told_noted c.args.ground.now c.args.told.now c.loop-told.told _ _ c.loop-told.invariant.0.noted c.requires.told

pub loop-told-preserved : goal.loop-told-preserved
loop-told-preserved g c =
    let next = ap (λ (t : Told). t.atoms) c.in_ok-note_atom.ensures.ok in
    let test = c.loop-told-test.true in
    let many = c.len.ensures.len in
    let is : IsTold c.args.ground.now c.note_atom.new.told = told_noted c.args.ground.now c.loop-told.told c.note_atom.new.told _ _
    c.note_atom.ensures.noted
    (told_noted c.args.ground.now c.args.told.now c.loop-told.told _ _ c.loop-told.invariant.0.noted c.requires.told) in (
      so_far_on c.args.ground.now c.args.trail.now c.args.told.now c.loop-told.told c.note_atom.new.told _ _ _ _ _ _ _ _ _ _ _ _
          is.instances c.loop-told.invariant.0
          (record {
            noted = c.in_ok-note_atom.ensures.noted;
            stores = c.in_ok-note_atom.ensures.stores;
            matches = c.in_ok-note_atom.ensures.matches;
            later = c.in_ok-note_atom.ensures.later;
          }),
      terms_stay c.args.told.now c.loop-told.told c.note_atom.new.told c.loop-told.invariant.1 c.in_ok-note_atom.ensures.ok,
      omega (arith, next, test, many),
      adds_on c.args.ground.now _ _ _ _ _ _ c.loop-told.invariant.3 c.note_atom.ensures.adds,
    )

pub returns-in_err-note_atom-clause-noted : goal.returns-in_err-note_atom-clause-noted
returns-in_err-note_atom-clause-noted g c =
    noted_on c.args.ground.now c.args.told.now c.loop-told.told c.note_atom.new.told _ _ _ c.loop-told.invariant.0.noted
    c.note_atom.ensures.noted

pub returns-in_err-note_atom-clause-adds : goal.returns-in_err-note_atom-clause-adds
returns-in_err-note_atom-clause-adds g c = adds_on c.args.ground.now _ _ _ _ _ _ c.loop-told.invariant.3 c.note_atom.ensures.adds
