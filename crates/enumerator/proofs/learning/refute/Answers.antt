use Rattle.std.proofs.Common.{ap, inr}
use Rattle.std.proofs.lemmas.Result.{err_from_is_err_and}
use Rattle.search_state.specs.Searching.{Searching}
use Rattle.search_journals.proofs.Standing.{round_fault}
use Rattle.search_journals.proofs.Stepping.{err_on}
use Rattle.search_journals.proofs.Justified.{strike_justified}
use Rattle.search_journals.proofs.Ending.{rounds_after, fault_same, justified_carried}
use Rattle.enumerator.proofs.learning.refute.Goals as goal

pub learn_justified-requires : goal.learn_justified-requires
learn_justified-requires g c = record { may = (c.requires.ready, c.requires.none_gives, inr c.requires.next) }

pub returns-in_err-nogood-clause-err : goal.returns-in_err-nogood-clause-err
returns-in_err-nogood-clause-err g c =
    let p = err_from_is_err_and c.from_residual.result c.from_residual.ensures.1 in
    rw (p.1, p.2) (round_fault c.args.search.now _ _ _ _ _ _ c.in_err-nogood.ensures.err)

pub strike_learned-requires : goal.strike_learned-requires
strike_learned-requires g c = record {
  next = strike_justified c.args.search.now c.learn_justified.new.search _ _ c.args.atom c.in_ok-nogood.nogood c.in_ok-nogood.ensures.learned
      c.requires.ready c.requires.next;
}

pub returns-clause-ok : goal.returns-clause-ok
returns-clause-ok g c =
    rounds_after c.strike_learned.result c.args.search.now c.learn_justified.new.search c.strike_learned.new.search _ _ _ _ _
    (ap (λ (z : Searching). z.core) c.in_ok-nogood.ensures.learned.is)
    (justified_carried c.args.search.now c.learn_justified.new.search _ _ c.in_ok-nogood.ensures.learned.carries) c.strike_learned.ensures.ok

pub returns-clause-err : goal.returns-clause-err
returns-clause-err g c = err_on c.strike_learned.result
    (λ f fault. fault_same c.args.search.now c.learn_justified.new.search _ _ _ _ _ _ _ f
    (ap (λ (z : Searching). z.core) c.in_ok-nogood.ensures.learned.is) c.in_ok-nogood.ensures.later
    (justified_carried c.args.search.now c.learn_justified.new.search _ _ c.in_ok-nogood.ensures.learned.carries) fault)
    c.strike_learned.ensures.err
