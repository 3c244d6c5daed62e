use Rattle.std.proofs.Common.{List, length, reverse, sym, subst, ap, arith}
use Rattle.std.proofs.lemmas.List.{length-reverse}
use Rattle.search_values.specs.declared.entry.Entry.{Entry}
use Rattle.trail.specs.Assigning.{Trailed}
use Rattle.nogood_store.specs.Stored.{AllAreBelow}
use Rattle.nogood_store.specs.Matching.{Suffices}
use Rattle.nogood_store.proofs.Matched.{taken_all}
use Rattle.propagation.proofs.Running.{ran_on, fault_on}
use Rattle.propagation.proofs.Visits.{same_below}
use Rattle.propagation.proofs.Loop.{up_start, up_cost, up_next, puts_begins, more_begins, there}
use Rattle.propagation.proofs.fixpoint.take_up_all.Goals as goal

pub loop-next-init : goal.loop-next-init
loop-next-init g c = up_start c.args.from c.args.store.now c.args.trail.now _ _ _ c.requires.within c.requires.matches c.requires.suffice

pub take_up-requires-clause-below : goal.take_up-requires-clause-below
take_up-requires-clause-below g c = subst (λ n. AllAreBelow n c.loop-next.store) (sym (ap (λ (t : Trailed). t.atoms) c.loop-next.invariant.ran.trail))
    (same_below c.args.trail.now.atoms c.args.store.now c.loop-next.store c.loop-next.invariant.ran.same c.requires.below)

pub returns-in-Ok-Some-clause-ran : goal.returns-in-Ok-Some-clause-ran
returns-in-Ok-Some-clause-ran g c = ran_on _ _ _ _ _ _ _ _ _ c.loop-next.invariant.ran c.in-Ok-Some.ensures.ran

pub returns-in-Ok-Some-clause-cost : goal.returns-in-Ok-Some-clause-cost
returns-in-Ok-Some-clause-cost g c =
    let here = (there (reverse c.loop-next.trail.stack) c.loop-next.next (let t = c.loop-next-test.true in let v = ap length c.entries.ensures.value in omega (arith, t, v))) in
    up_cost c.args.from c.loop-next.next c.args.store.now c.loop-next.store c.take_up.new.store c.args.trail.now c.loop-next.trail c.take_up.new.trail
    (g.T.Trace.journal c.args.trace.now) (g.T.Trace.journal c.loop-next.trace) (g.T.Trace.journal c.take_up.new.trace) c.args.steps.now c.loop-next.steps c.take_up.new.steps
    (g.T.Trace.faults c.args.trace.now) (g.T.Trace.faults c.loop-next.trace) (g.T.Trace.faults c.take_up.new.trace) c.loop-next.invariant
    here.0 here.1 c.in-Ok-Some.ensures.ran.same (c.take_up.ensures.others here.0 here.1) (puts_begins _ _ _ _ c.in-Ok-Some.ensures.ran.puts) (c.take_up.ensures.cost here.0 here.1)

pub returns-in-Err-clause-err : goal.returns-in-Err-clause-err
returns-in-Err-clause-err g c = fault_on _ _ _ _ _ _ _ _ _ c.loop-next.invariant.ran c.in-Err.ensures.err

pub returns-in-Err-clause-cost : goal.returns-in-Err-clause-cost
returns-in-Err-clause-cost g c =
    let here = (there (reverse c.loop-next.trail.stack) c.loop-next.next (let t = c.loop-next-test.true in let v = ap length c.entries.ensures.value in omega (arith, t, v))) in
    up_cost c.args.from c.loop-next.next c.args.store.now c.loop-next.store c.take_up.new.store c.args.trail.now c.loop-next.trail c.take_up.new.trail
    (g.T.Trace.journal c.args.trace.now) (g.T.Trace.journal c.loop-next.trace) (g.T.Trace.journal c.take_up.new.trace) c.args.steps.now c.loop-next.steps c.take_up.new.steps
    (g.T.Trace.faults c.args.trace.now) (g.T.Trace.faults c.loop-next.trace) (g.T.Trace.faults c.take_up.new.trace) c.loop-next.invariant
    here.0 here.1 c.in-Err.ensures.err.same (c.take_up.ensures.others here.0 here.1) (more_begins _ c.loop-next.trail.stack c.in-Err.ensures.err.stack c.take_up.new.trail.stack (puts_begins _ c.loop-next.trail.stack c.in-Err.ensures.err.stack _ c.in-Err.ensures.err.puts) c.in-Err.ensures.err.more) (c.take_up.ensures.cost here.0 here.1)

pub loop-next-preserved : goal.loop-next-preserved
loop-next-preserved g c =
    let here = (there (reverse c.loop-next.trail.stack) c.loop-next.next (let t = c.loop-next-test.true in let v = ap length c.entries.ensures.value in omega (arith, t, v))) in
    up_next c.args.from c.loop-next.next c.args.store.now c.loop-next.store c.take_up.new.store c.args.trail.now c.loop-next.trail c.take_up.new.trail
    (g.T.Trace.journal c.args.trace.now) (g.T.Trace.journal c.loop-next.trace) (g.T.Trace.journal c.take_up.new.trace) c.args.steps.now c.loop-next.steps c.take_up.new.steps
    (g.T.Trace.faults c.args.trace.now) (g.T.Trace.faults c.loop-next.trace) (g.T.Trace.faults c.take_up.new.trace) c.loop-next.invariant
    here.0 here.1 c.in-Ok-None.ensures.ran.same (c.take_up.ensures.others here.0 here.1) (puts_begins _ _ _ _ c.in-Ok-None.ensures.ran.puts) (c.take_up.ensures.cost here.0 here.1)
    (let t = c.loop-next-test.true in let v = ap length c.entries.ensures.value in omega (arith, t, v, length-reverse c.loop-next.trail.stack))
    c.take_up.ensures.later c.in-Ok-None.ensures.ran (c.in-Ok-None.ensures.suffice c.in-Ok-None.field-0-is)

pub returns-clause-suffice : goal.returns-clause-suffice
returns-clause-suffice g c e n s u at = subst (λ (x : List Entry). Suffices x c.loop-next.trail.stack s)
    (taken_all c.loop-next.next c.loop-next.trail.stack (let t = c.loop-next-test.false in let v = ap length c.entries.ensures.value in omega (arith, t, v, length-reverse c.loop-next.trail.stack)))
    (c.loop-next.invariant.suffice n s u at)
