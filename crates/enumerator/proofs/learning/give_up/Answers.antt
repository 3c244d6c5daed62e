use Rattle.std.proofs.Common.{ap}
use Rattle.std.proofs.lemmas.Result.{err_from_is_err_and}
use Rattle.search_state.specs.Searching.{Searching}
use Rattle.search_journals.proofs.Standing.{round_fault}
use Rattle.search_journals.proofs.Stepping.{err_on}
use Rattle.search_journals.proofs.Ending.{rounds_after, fault_same}
use Rattle.search_journals.proofs.Conflicts.{strike_decided}
use Rattle.enumerator.proofs.learning.give_up.Goals as goal

pub returns-in_err-nogood-clause-err : goal.returns-in_err-nogood-clause-err
returns-in_err-nogood-clause-err g c =
    let p = err_from_is_err_and c.from_residual.result c.from_residual.ensures.1 in
    rw (p.1, p.2) (round_fault c.args.search.now _ _ _ _ _ _ c.in_err-nogood.ensures.err)

pub strike_learned-requires : goal.strike_learned-requires
strike_learned-requires g c = record {
  next = strike_decided c.args.search.now c.decide.new.search _ _ c.in_ok-nogood.nogood c.requires.kept c.requires.firm c.requires.stands
      c.in_ok-nogood.ensures.decided c.in_ok-nogood.ensures.number;
}

pub returns-clause-ok : goal.returns-clause-ok
returns-clause-ok g c =
    rounds_after c.strike_learned.result c.args.search.now c.decide.new.search c.strike_learned.new.search _ _ _ _ _
    (ap (λ (z : Searching). z.core) c.in_ok-nogood.ensures.decided) c.in_ok-nogood.ensures.carries c.strike_learned.ensures.ok

pub returns-clause-err : goal.returns-clause-err
returns-clause-err g c = err_on c.strike_learned.result
    (λ f fault. fault_same c.args.search.now c.decide.new.search _ _ _ _ _ _ _ f
    (ap (λ (z : Searching). z.core) c.in_ok-nogood.ensures.decided) c.in_ok-nogood.ensures.later c.in_ok-nogood.ensures.carries fault)
    c.strike_learned.ensures.err
