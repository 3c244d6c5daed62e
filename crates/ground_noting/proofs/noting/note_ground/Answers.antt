use Rattle.std.proofs.Common.{length, sym, subst, ap, arith}
use Rattle.ground_noting.specs.declared.telling.Told.{Told}
use Rattle.ground_noting.specs.Instances.{IsWithin}
use Rattle.ground_noting.specs.Notings.{IsTold}
use Rattle.ground_noting.proofs.NotingLemmas.{noted_on, told_noted}
use Rattle.ground_noting.proofs.StoringLemmas.{on_ok}
use Rattle.ground_noting.proofs.Adding.{adds_none, adds_on}
use Rattle.ground_noting.proofs.Loops.{all_stored}
use Rattle.ground_noting.proofs.noting.note_ground.Goals as goal

pub returns-in_err-note_terms-clause-told : goal.returns-in_err-note_terms-clause-told
returns-in_err-note_terms-clause-told g c =
    told_noted c.args.ground.now c.args.told.now c.note_terms.new.told _ _ c.note_terms.ensures.noted c.requires.told

pub note_atoms-requires-clause-told : goal.note_atoms-requires-clause-told
note_atoms-requires-clause-told g c =
    told_noted c.args.ground.now c.args.told.now c.note_terms.new.told _ _ c.note_terms.ensures.noted c.requires.told

pub returns-in_err-note_atoms-clause-noted : goal.returns-in_err-note_atoms-clause-noted
returns-in_err-note_atoms-clause-noted g c =
    noted_on c.args.ground.now c.args.told.now c.note_terms.new.told c.note_atoms.new.told _ _ _ c.note_terms.ensures.noted
    c.note_atoms.ensures.noted

pub returns-in_err-note_atoms-clause-told : goal.returns-in_err-note_atoms-clause-told
returns-in_err-note_atoms-clause-told g c =
    told_noted c.args.ground.now c.note_terms.new.told c.note_atoms.new.told _ _ c.note_atoms.ensures.noted
    (told_noted c.args.ground.now c.args.told.now c.note_terms.new.told _ _ c.note_terms.ensures.noted c.requires.told)

pub make_below-requires-clause-later : goal.make_below-requires-clause-later
make_below-requires-clause-later g c =
    let is : IsTold c.args.ground.now c.note_atoms.new.told =
    told_noted c.args.ground.now c.note_terms.new.told c.note_atoms.new.told _ _ c.note_atoms.ensures.noted
    (told_noted c.args.ground.now c.args.told.now c.note_terms.new.told _ _ c.note_terms.ensures.noted c.requires.told) in
    let low = is.instances in
    let many = c.len-upto.ensures.len in omega (arith, low, many)

pub make_below-requires-clause-within : goal.make_below-requires-clause-within
make_below-requires-clause-within g c =
    λ i k low at. subst (λ n. IsWithin n k) (sym (ap (λ (t : Told). t.atoms) c.in_ok-note_atoms.ensures.ok))
    (c.requires.notable.within i k at)

pub returns-clause-noted : goal.returns-clause-noted
returns-clause-noted g c = noted_on c.args.ground.now c.args.told.now c.note_atoms.new.told c.make_below.new.told _ _ _
    (noted_on c.args.ground.now c.args.told.now c.note_terms.new.told c.note_atoms.new.told _ _ _ c.note_terms.ensures.noted
    c.note_atoms.ensures.noted) c.make_below.ensures.noted

pub returns-clause-told : goal.returns-clause-told
returns-clause-told g c = told_noted c.args.ground.now c.note_atoms.new.told c.make_below.new.told _ _ c.make_below.ensures.noted
    (told_noted c.args.ground.now c.note_terms.new.told c.note_atoms.new.told _ _ c.note_atoms.ensures.noted
    (told_noted c.args.ground.now c.args.told.now c.note_terms.new.told _ _ c.note_terms.ensures.noted c.requires.told))

pub returns-clause-stores : goal.returns-clause-stores
returns-clause-stores g c =
    let is : IsTold c.args.ground.now c.make_below.new.told = told_noted c.args.ground.now c.note_atoms.new.told c.make_below.new.told _ _
    c.make_below.ensures.noted
    (told_noted c.args.ground.now c.note_terms.new.told c.note_atoms.new.told _ _ c.note_atoms.ensures.noted
    (told_noted c.args.ground.now c.args.told.now c.note_terms.new.told _ _ c.note_terms.ensures.noted c.requires.told)) in
    on_ok c.make_below.result c.make_below.ensures.stores
    (λ last. all_stored c.args.ground.now c.args.told.now c.note_terms.new.told c.note_atoms.new.told c.make_below.new.told
    (length c.args.ground.now.terms) _ _ _ _ _ _ _ _ _
    c.in_ok-note_terms.ensures.ok c.note_atoms.ensures.noted c.make_below.ensures.noted is c.in_ok-note_atoms.ensures.stores last)

pub returns-in_err-note_terms-clause-adds : goal.returns-in_err-note_terms-clause-adds
returns-in_err-note_terms-clause-adds g c = adds_none c.args.ground.now c.args.nogoods.now c.args.choices.now

pub returns-clause-adds : goal.returns-clause-adds
returns-clause-adds g c = adds_on c.args.ground.now _ _ _ _ _ _ c.note_atoms.ensures.adds c.make_below.ensures.adds
