use Rattle.std.proofs.Common.{◌∙◌, ap, sym, subst, refl, List}
use Rattle.std.specs.Prelude.{option_map}
use Rattle.alpha_outside.specs.declared.literal.Lit.{Lit}
use Rattle.alpha_outside.specs.declared.event.Event.TheVariants as say
use Rattle.alpha_outside.specs.Outside.{with_event}
use Rattle.nogood_store.specs.Stored.{HasNoAtomTwice}
use Rattle.search_state.specs.Searching.{ids, LitsAreBelow}
use Rattle.search_journals.specs.Settling.{learned_by}
use Rattle.search_journals.proofs.Standing.{note_fault}
use Rattle.search_journals.proofs.Learning.{carried_learn}
use Rattle.enumerator.proofs.learning.learn.Goals as goal

pub learn-requires-clause-below : goal.learn-requires-clause-below
learn-requires-clause-below g c =
    subst (λ (ls : List Lit). LitsAreBelow (ids c.args.search.now) ls) (sym c.as_slice.ensures) c.requires.below

pub learn-requires-clause-no_atom_twice : goal.learn-requires-clause-no_atom_twice
learn-requires-clause-no_atom_twice g c = subst (λ (ls : List Lit). HasNoAtomTwice ls) (sym c.as_slice.ensures) c.requires.once

pub returns-in_default-clause-err : goal.returns-in_default-clause-err
returns-in_default-clause-err g c = note_fault c.args.search.now _ _ _ _ _ refl tt

pub returns-in-Ok-noted-clause-carries : goal.returns-in-Ok-noted-clause-carries
returns-in-Ok-noted-clause-carries g c =
    carried_learn c.args.search.now c.learn.new.self _ _ c.args.how c.args.lits c.in-Ok.nogood c.requires.may
    (c.in-Ok.ensures.ok ∙ ap (learned_by c.args.search.now) c.as_slice.ensures) c.in-Ok.ensures.id
    (c.in-Ok-noted.ensures.ok ∙ (λ i. option_map
    (with_event (say.Learned c.in-Ok.nogood c.args.how c.args.lits (c.new-cover.ensures i))) (g.T.Trace.journal c.args.trace.now)))

pub returns-clause-err : goal.returns-clause-err
returns-clause-err g c = note_fault c.args.search.now _ _ _ _ c.in-Err.fault c.in-Err.ensures.unchanged c.in-Err.ensures.cause
