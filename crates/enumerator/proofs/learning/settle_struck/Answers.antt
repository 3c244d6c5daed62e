use Rattle.std.proofs.Common.{◌∙◌, ap, subst, refl, inl}
use Rattle.std.proofs.lemmas.Result.{err_from_is_err_and}
use Rattle.conflict_learning.specs.Choosing.{IsChoice}
use Rattle.search_state.specs.Searching.{Searching}
use Rattle.search_journals.proofs.Standing.{note_fault, round_fault}
use Rattle.search_journals.proofs.Stepping.{err_on}
use Rattle.search_journals.proofs.Ending.{ends_struck, ends_over, carried_less, rounds_struck, fault_struck}
use Rattle.search_journals.proofs.Conflicts.{found_struck, first_is_struck, to_learn, somewhere_struck}
use Rattle.enumerator.proofs.learning.settle_struck.Goals as goal

pub returns-then-rest-eq0-clause-ok : goal.returns-then-rest-eq0-clause-ok
returns-then-rest-eq0-clause-ok g c =
    λ held left g' fits room s. ends_struck g' c.args.search.now _ held left c.args.rest.now fits s room c.if-rest-eq0.true
    (c.args.nogood, c.requires.next.0, c.requires.next.1, c.requires.next.2)

pub returns-in_default-clause-err : goal.returns-in_default-clause-err
returns-in_default-clause-err g c = round_fault c.args.search.now _ _ _ _ _ _ (note_fault c.args.search.now _ _ _ _ _ refl tt)

pub returns-in_err-strike-clause-err : goal.returns-in_err-strike-clause-err
returns-in_err-strike-clause-err g c =
    let p = err_from_is_err_and c.from_residual.result c.from_residual.ensures.1 in
    rw (p.1, p.2) (round_fault c.args.search.now _ _ _ _ _ _ c.in_err-strike.ensures.err)

pub returns-then-is_over-clause-ok : goal.returns-then-is_over-clause-ok
returns-then-is_over-clause-ok g c = λ held left g' fits room s. ends_over g' c.strike.new.search _ held left _
    (ap (λ (z : Searching). z.core) c.in_ok-strike.ensures.struck ∙ fits)
    (carried_less c.args.search.now c.strike.new.search _ _ held left c.args.rest.now c.in_ok-strike.ensures.carries c.if-rest-eq0.false g'
    fits s)
    room (c.if-is_over.ensures.yes refl)

pub returns-clause-ok : goal.returns-clause-ok
returns-clause-ok g c =
    let fewer = c.learn_from.ensures.fewer in
    rounds_struck c.learn_from.result c.args.search.now c.strike.new.search c.learn_from.new.search _ _ _ c.args.rest.now _
    (ap (λ (z : Searching). z.core) c.in_ok-strike.ensures.struck) c.if-rest-eq0.false fewer c.in_ok-strike.ensures.carries
    c.learn_from.ensures.ok

pub returns-clause-err : goal.returns-clause-err
returns-clause-err g c = err_on c.learn_from.result
    (λ f fault. fault_struck c.args.search.now c.strike.new.search _ _ _ _ _ _ _ f
    (ap (λ (z : Searching). z.core) c.in_ok-strike.ensures.struck) c.in_ok-strike.ensures.later c.if-rest-eq0.false
    c.in_ok-strike.ensures.carries fault)
    c.learn_from.ensures.err

pub unreachable-requires : goal.unreachable-requires
unreachable-requires g c =
    found_struck c.args.search.now c.in-Ok.first c.args.nogood c.in-Ok.ensures c.requires.next c.in_default-first.is

pub strike-requires-clause-may : goal.strike-requires-clause-may
strike-requires-clause-may g c = inl (
  c.requires.ready.free,
  first_is_struck c.args.search.now c.in-Some.struck
      (subst (λ o. IsChoice c.args.search.now.nogoods c.args.search.now.stack o) c.in-Some.is c.in-Ok.ensures),
)

pub strike-requires-clause-there : goal.strike-requires-clause-there
strike-requires-clause-there g c =
    (subst (λ o. IsChoice c.args.search.now.nogoods c.args.search.now.stack o) c.in-Some.is c.in-Ok.ensures).there

pub learn_from-requires-clause-next : goal.learn_from-requires-clause-next
learn_from-requires-clause-next g c =
    to_learn c.args.search.now c.strike.new.search c.in-Some.struck c.requires.ready
    (subst (λ o. IsChoice c.args.search.now.nogoods c.args.search.now.stack o) c.in-Some.is c.in-Ok.ensures) c.in_ok-strike.ensures.struck
    (c.if-is_over.ensures.no refl)

pub learn_from-requires-clause-stands : goal.learn_from-requires-clause-stands
learn_from-requires-clause-stands g c =
    somewhere_struck c.args.search.now _ c.args.rest.now c.requires.stands c.strike.new.search _
    (ap (λ (z : Searching). z.core) c.in_ok-strike.ensures.struck) c.if-rest-eq0.false c.in_ok-strike.ensures.carries
