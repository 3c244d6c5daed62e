use Rattle.std.proofs.Common.{length, arith, subst, ap}
use Rattle.propagation.proofs.Running.{same_nogoods}
use Rattle.closing.specs.Closings.{SettledIs}
use Rattle.closing.proofs.RoundLemmas.{going_start, going_over, going_on, going_is, going_places, going_below, going_spent, closes_then, closes_stops, ends_as}
use Rattle.closing.proofs.FullLemmas.{full_end}
use Rattle.closing.proofs.rounds.close_each.Goals as goal
use Rattle.closing.proofs.rounds.close_each.Goals.{then-is_open+in-Ok-None, else-is_open}

pub loop-place-init : goal.loop-place-init
loop-place-init g c = going_start c.args.ground.now c.args.store.now c.args.trail.now (g.T.Trace.journal c.args.trace.now) c.args.steps.now (g.T.Trace.faults c.args.trace.now)
    c.requires.matches c.requires.quiet c.requires.none_must_be

pub is_open-requires-clause-places : goal.is_open-requires-clause-places
is_open-requires-clause-places g c = going_places c.loop-place.invariant (length c.args.ground.now.atoms.atoms) c.requires.places

pub close-requires-clause-places : goal.close-requires-clause-places
close-requires-clause-places g c = going_places c.loop-place.invariant (length c.args.ground.now.atoms.atoms) c.requires.places

pub close-requires-clause-below : goal.close-requires-clause-below
close-requires-clause-below g c = going_below c.loop-place.invariant (length c.args.ground.now.atoms.atoms) c.requires.below

pub close-requires-clause-matches : goal.close-requires-clause-matches
close-requires-clause-matches g c = c.loop-place.invariant.has.matches

pub close-requires-clause-quiet : goal.close-requires-clause-quiet
close-requires-clause-quiet g c = c.loop-place.invariant.quiet

pub close-requires-clause-none_must_be : goal.close-requires-clause-none_must_be
close-requires-clause-none_must_be g c = c.loop-place.invariant.none_must_be

pub returns-in-Ok-Some-clause-values : goal.returns-in-Ok-Some-clause-values
returns-in-Ok-Some-clause-values g c = closes_then _ _ _ _ _ _ _ _ _ _ c.loop-place.invariant.has c.in-Ok-Some.ensures.values

pub returns-in-Ok-Some-clause-closing : goal.returns-in-Ok-Some-clause-closing
returns-in-Ok-Some-clause-closing g c = ends_as _ _ _ _ _ _ _ (closes_then _ _ _ _ _ _ _ _ _ _ c.loop-place.invariant.has c.in-Ok-Some.ensures.values) c.requires.none_must_be c.in-Ok-Some.closing
    (subst (SettledIs c.args.ground.now c.close.new.store c.close.new.trail) c.in-Ok-Some.field-0-is c.in-Ok-Some.ensures.settled)

pub returns-in-Ok-Some-clause-spent : goal.returns-in-Ok-Some-clause-spent
returns-in-Ok-Some-clause-spent g c = going_spent c.loop-place.invariant c.loop-place.place c.close.new.store c.close.new.trail c.close.new.steps c.close.ensures.bound

pub returns-in-Err-clause-err : goal.returns-in-Err-clause-err
returns-in-Err-clause-err g c = closes_stops _ _ _ _ _ _ _ _ _ _ c.loop-place.invariant.has c.in-Err.ensures.err

pub returns-in-Err-clause-spent : goal.returns-in-Err-clause-spent
returns-in-Err-clause-spent g c = going_spent c.loop-place.invariant c.loop-place.place c.close.new.store c.close.new.trail c.close.new.steps c.close.ensures.bound

pub loop-place-preserved : goal.loop-place-preserved
loop-place-preserved g c = elim c.if-is_open.branch [
  | then-is_open+in-Ok-None w ↦ going_is w.store-is w.trail-is (ap g.T.Trace.journal w.trace-is) w.steps-is (ap g.T.Trace.faults w.trace-is)
      (going_on c.args.ground.now c.args.store.now c.loop-place.store w.close.new.store c.args.trail.now c.loop-place.trail w.close.new.trail
      (g.T.Trace.journal c.args.trace.now) (g.T.Trace.journal c.loop-place.trace) (g.T.Trace.journal w.close.new.trace) c.loop-place.place c.args.steps.now c.loop-place.steps w.close.new.steps
      (g.T.Trace.faults c.args.trace.now) (g.T.Trace.faults c.loop-place.trace) (g.T.Trace.faults w.close.new.trace) c.loop-place.invariant w.in-Ok-None.ensures.values
      (subst (SettledIs c.args.ground.now w.close.new.store w.close.new.trail) w.in-Ok-None.field-0-is w.in-Ok-None.ensures.settled) w.in-Ok-None.ensures.valued w.close.ensures.later w.close.ensures.bound)
  | else-is_open w ↦ going_is w.store-is w.trail-is (ap g.T.Trace.journal w.trace-is) w.steps-is (ap g.T.Trace.faults w.trace-is)
      (going_over c.args.ground.now c.args.store.now c.loop-place.store c.args.trail.now c.loop-place.trail
      (g.T.Trace.journal c.args.trace.now) (g.T.Trace.journal c.loop-place.trace) c.loop-place.place c.args.steps.now c.loop-place.steps
      (g.T.Trace.faults c.args.trace.now) (g.T.Trace.faults c.loop-place.trace) c.loop-place.invariant (c.is_open.ensures.no w.if-is_open.false))
]

pub returns-clause-closing : goal.returns-clause-closing
returns-clause-closing g c = (
  full_end c.args.ground.now c.args.store.now c.loop-place.store c.args.trail.now c.loop-place.trail (same_nogoods c.args.store.now c.loop-place.store c.loop-place.invariant.has.same)
      c.requires.closable c.requires.holds c.loop-place.invariant.quiet c.loop-place.invariant.none_must_be
      (λ x low named. c.loop-place.invariant.valued x (let t = c.loop-place-test.false in let n = c.len-place-end.ensures.len in omega (arith, t, n, low)) named),
  c.loop-place.invariant.quiet,
)
