use Rattle.std.proofs.Common.{◌∙◌, ap, refl, inr, arith}
use Rattle.std.proofs.lemmas.Result.{err_from_is_err_and}
use Rattle.search_state.specs.Searching.{Searching}
use Rattle.search_journals.proofs.Standing.{round_fault}
use Rattle.search_journals.proofs.Stepping.{err_on}
use Rattle.search_journals.proofs.Ending.{ends_struck, ends_over, carried_less, rounds_struck, turned_for, fault_struck}
use Rattle.search_journals.proofs.Conflicts.{strike_there, struck_there, struck_hold, struck_one, struck_jumps, struck_kept, struck_firm, struck_must}
use Rattle.enumerator.proofs.learning.strike_learned.Goals as goal

pub returns-then-rest-eq0-clause-ok : goal.returns-then-rest-eq0-clause-ok
returns-then-rest-eq0-clause-ok g c =
    λ held left g' fits room s. ends_struck g' c.args.search.now _ held left c.args.rest.now fits s room c.if-rest-eq0.true
    (c.args.nogood, c.requires.next.nogood, c.requires.next.there, c.requires.next.struck)

pub strike-requires-clause-there : goal.strike-requires-clause-there
strike-requires-clause-there g c = strike_there c.args.search.now c.args.nogood c.requires.next

pub strike-requires-clause-may : goal.strike-requires-clause-may
strike-requires-clause-may g c = inr c.requires.next.phase_is

pub returns-in_err-strike-clause-err : goal.returns-in_err-strike-clause-err
returns-in_err-strike-clause-err g c =
    let p = err_from_is_err_and c.from_residual.result c.from_residual.ensures.1 in
    rw (p.1, p.2) (round_fault c.args.search.now _ _ _ _ _ _ c.in_err-strike.ensures.err)

pub returns-then-is_over-clause-ok : goal.returns-then-is_over-clause-ok
returns-then-is_over-clause-ok g c = λ held left g' fits room s. ends_over g' c.strike.new.search _ held left _
    (ap (λ (z : Searching). z.core) c.in_ok-strike.ensures.struck ∙ fits)
    (carried_less c.args.search.now c.strike.new.search _ _ held left c.args.rest.now c.in_ok-strike.ensures.carries c.if-rest-eq0.false g'
    fits s)
    room (c.if-is_over.ensures.yes refl)

pub unit_level-level-requires-clause-there : goal.unit_level-level-requires-clause-there
unit_level-level-requires-clause-there g c =
    struck_there c.args.search.now c.strike.new.search c.args.nogood c.requires.next c.in_ok-strike.ensures.struck (c.if-is_over.ensures.no refl)

pub unit_level-level-requires-clause-hold : goal.unit_level-level-requires-clause-hold
unit_level-level-requires-clause-hold g c =
    struck_hold c.args.search.now c.strike.new.search c.args.nogood c.requires.next c.in_ok-strike.ensures.struck (c.if-is_over.ensures.no refl)

pub unit_level-level-requires-clause-one : goal.unit_level-level-requires-clause-one
unit_level-level-requires-clause-one g c =
    struck_one c.args.search.now c.strike.new.search c.args.nogood c.requires.next c.in_ok-strike.ensures.struck (c.if-is_over.ensures.no refl)

pub keep_and_go-requires-clause-kept : goal.keep_and_go-requires-clause-kept
keep_and_go-requires-clause-kept g c =
    struck_kept c.args.search.now c.strike.new.search c.args.nogood c.requires.next c.in_ok-strike.ensures.struck (c.if-is_over.ensures.no refl)

pub keep_and_go-requires-clause-firm : goal.keep_and_go-requires-clause-firm
keep_and_go-requires-clause-firm g c =
    struck_firm c.args.search.now c.strike.new.search c.args.nogood c.requires.next c.in_ok-strike.ensures.struck (c.if-is_over.ensures.no refl)

pub keep_and_go-requires-clause-must : goal.keep_and_go-requires-clause-must
keep_and_go-requires-clause-must g c =
    struck_must c.args.search.now c.strike.new.search c.args.nogood c.requires.next c.in_ok-strike.ensures.struck (c.if-is_over.ensures.no refl)

pub keep_and_go-requires-clause-jumps : goal.keep_and_go-requires-clause-jumps
keep_and_go-requires-clause-jumps g c =
    struck_jumps c.args.search.now c.strike.new.search c.args.nogood c.requires.next c.in_ok-strike.ensures.struck (c.if-is_over.ensures.no refl)
    c.unit_level-level.result c.unit_level-level.ensures

pub returns-clause-ok : goal.returns-clause-ok
returns-clause-ok g c =
    rounds_struck c.keep_and_go.result c.args.search.now c.strike.new.search c.keep_and_go.new.search _ _ _ c.args.rest.now _
    (ap (λ (z : Searching). z.core) c.in_ok-strike.ensures.struck) c.if-rest-eq0.false (omega arith) c.in_ok-strike.ensures.carries
    (turned_for c.keep_and_go.result c.strike.new.search c.keep_and_go.new.search _ _ _ c.keep_and_go.ensures.ok)

pub returns-clause-err : goal.returns-clause-err
returns-clause-err g c = err_on c.keep_and_go.result
    (λ f fault. fault_struck c.args.search.now c.strike.new.search _ _ _ _ _ _ _ f
    (ap (λ (z : Searching). z.core) c.in_ok-strike.ensures.struck) c.in_ok-strike.ensures.later c.if-rest-eq0.false
    c.in_ok-strike.ensures.carries
    (round_fault c.strike.new.search _ _ _ _ _ f fault))
    c.keep_and_go.ensures.err
