use Rattle.std.proofs.Common.{◌∙◌, ap, sym, subst, refl, List}
use Rattle.std.proofs.lemmas.Result.{err_from_is_err_and, on_ok_weaker}
use Rattle.alpha_outside.specs.declared.literal.Lit.{Lit}
use Rattle.nogood_store.specs.Stored.{HasNoAtomTwice}
use Rattle.search_state.specs.Searching.{Searching, ids, LitsAreBelow}
use Rattle.search_journals.proofs.Standing.{note_fault}
use Rattle.search_journals.proofs.Stepping.{err_on}
use Rattle.search_journals.proofs.Choosing.{chosen_once, chosen_below}
use Rattle.search_journals.proofs.Ending.{fault_then, carried_on}
use Rattle.search_journals.proofs.Conflicts.{may_learn_chosen, decided_is}
use Rattle.enumerator.proofs.learning.decide.Goals as goal

pub returns-in_default-clause-err : goal.returns-in_default-clause-err
returns-in_default-clause-err g c = note_fault c.args.search.now _ _ _ _ _ refl tt

pub returns-in_err-call_wide-clause-err : goal.returns-in_err-call_wide-clause-err
returns-in_err-call_wide-clause-err g c =
    let p = err_from_is_err_and c.from_residual.result c.from_residual.ensures.1 in
    rw (p.1, p.2) c.in_err-call_wide.ensures.err

pub learn-requires-clause-may : goal.learn-requires-clause-may
learn-requires-clause-may g c =
    may_learn_chosen c.args.search.now c.call_wide.new.search _ c.in_ok-call_wide.ensures.called
    (c.from_vec.ensures ∙ c.in-Ok.ensures) c.requires.firm

pub learn-requires-clause-below : goal.learn-requires-clause-below
learn-requires-clause-below g c =
    subst (λ (z : Searching). LitsAreBelow (ids z) c.from_vec.result) (sym c.in_ok-call_wide.ensures.called)
    (subst (λ (ls : List Lit). LitsAreBelow (ids c.args.search.now) ls) (sym (c.from_vec.ensures ∙ c.in-Ok.ensures))
    (chosen_below c.args.search.now.stack (ids c.args.search.now) c.requires.kept.placed))

pub learn-requires-clause-once : goal.learn-requires-clause-once
learn-requires-clause-once g c =
    subst (λ (ls : List Lit). HasNoAtomTwice ls) (sym (c.from_vec.ensures ∙ c.in-Ok.ensures)) (chosen_once c.args.search.now.stack)

pub returns-clause-decided : goal.returns-clause-decided
returns-clause-decided g c = on_ok_weaker c.learn.result
    (λ is. decided_is c.args.search.now c.call_wide.new.search _ c.in_ok-call_wide.ensures.called
    (c.from_vec.ensures ∙ c.in-Ok.ensures) c.learn.new.search is)
    c.learn.ensures.learned

pub returns-clause-carries : goal.returns-clause-carries
returns-clause-carries g c = on_ok_weaker c.learn.result
    (λ carried. carried_on c.args.search.now c.call_wide.new.search c.learn.new.search _ _ _
    (ap (λ (z : Searching). z.core) c.in_ok-call_wide.ensures.called) c.in_ok-call_wide.ensures.carries carried)
    c.learn.ensures.carries

pub returns-clause-err : goal.returns-clause-err
returns-clause-err g c = err_on c.learn.result
    (λ f fault. fault_then c.args.search.now c.call_wide.new.search _ _ _ _ _ _ f
    (ap (λ (z : Searching). z.core) c.in_ok-call_wide.ensures.called) c.in_ok-call_wide.ensures.later c.in_ok-call_wide.ensures.carries fault)
    c.learn.ensures.err
