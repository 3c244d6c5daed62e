use Rattle.std.proofs.Common.{inl}
use Rattle.std.proofs.lemmas.Result.{IfOk-weaker}
use Rattle.search_journals.proofs.Stepping.{fault_on, err_on}
use Rattle.search_journals.proofs.Justified.{runs_justified, justified_unit, stepped_justified}
use Rattle.enumerator.proofs.justifying.justify.Goals as goal

pub learn_justified-requires : goal.learn_justified-requires
learn_justified-requires g c = record { may = (c.requires.ready, c.requires.next.3.0, inl c.requires.next) }

pub put-requires-clause-ready : goal.put-requires-clause-ready
put-requires-clause-ready g c = (runs_justified c.args.search.now c.learn_justified.new.search _ _ c.args.atom c.in_ok-nogood.nogood
    c.in_ok-nogood.ensures.learned c.requires.next c.requires.ready).ready

pub put-requires-clause-next : goal.put-requires-clause-next
put-requires-clause-next g c = justified_unit c.args.search.now c.learn_justified.new.search _ _ c.args.atom c.in_ok-nogood.nogood
    c.in_ok-nogood.ensures.learned c.requires.next c.requires.ready

pub returns-clause-ok : goal.returns-clause-ok
returns-clause-ok g c = IfOk-weaker c.put.result _ _
    (λ o s. stepped_justified c.args.search.now c.learn_justified.new.search _ _ c.args.atom c.in_ok-nogood.nogood
    c.in_ok-nogood.ensures.learned c.requires.next c.requires.ready c.put.new.search _ o s)
    c.put.ensures.ok

pub returns-clause-err : goal.returns-clause-err
returns-clause-err g c = err_on c.put.result
    (λ f fault. fault_on c.args.search.now c.learn_justified.new.search _ _ _ _ _ _ f
    (runs_justified c.args.search.now c.learn_justified.new.search _ _ c.args.atom c.in_ok-nogood.nogood
    c.in_ok-nogood.ensures.learned c.requires.next c.requires.ready)
    c.in_ok-nogood.ensures.later fault)
    c.put.ensures.err
