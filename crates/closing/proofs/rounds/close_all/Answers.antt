use Rattle.std.proofs.Common.{length, sym, subst}
use Rattle.propagation.specs.Runs.{FixIs}
use Rattle.propagation.proofs.Running.{same_nogoods}
use Rattle.propagation.proofs.Visits.{same_below}
use Rattle.closing.specs.declared.rounds.Closing.TheVariants as ends
use Rattle.closing.specs.Closable.{HoldsAll, NoneMustBe}
use Rattle.closing.specs.Closings.{First}
use Rattle.closing.proofs.RoundLemmas.{if_ok, if_err, cause_later, below_more, prop_places, start_stack, start_closes, start_stops, closes_then, closes_stops, ends_from, exact_end}
use Rattle.closing.proofs.rounds.close_all.Goals as goal

pub propagate-requires-clause-below : goal.propagate-requires-clause-below
propagate-requires-clause-below g c = below_more (length c.args.ground.now.atoms.atoms) c.args.trail.now.atoms c.args.store.now c.requires.places c.requires.below

pub returns-in-Err-clause-err : goal.returns-in-Err-clause-err
returns-in-Err-clause-err g c = start_stops c.args.ground.now _ _ _ _ _ _ c.in-Err.ensures.err c.requires.none_unit

pub returns-in-Err-clause-spent : goal.returns-in-Err-clause-spent
returns-in-Err-clause-spent g c = First _ _ _ c.propagate.ensures.bound

pub returns-in-Struck-clause-values : goal.returns-in-Struck-clause-values
returns-in-Struck-clause-values g c = start_closes c.args.ground.now _ _ _ _ _ _ c.in-Ok.ensures.values c.requires.none_unit

pub returns-in-Struck-clause-closing : goal.returns-in-Struck-clause-closing
returns-in-Struck-clause-closing g c = subst (FixIs c.propagate.new.store c.propagate.new.trail) c.in-Struck.is c.in-Ok.ensures.fix

pub returns-in-Struck-clause-exact : goal.returns-in-Struck-clause-exact
returns-in-Struck-clause-exact g c = exact_end c.args.ground.now c.propagate.new.store c.args.trail.now c.propagate.new.trail (ends.Struck c.in-Struck.nogood)
    (subst (FixIs c.propagate.new.store c.propagate.new.trail) c.in-Struck.is c.in-Ok.ensures.fix)

pub returns-in-Struck-clause-spent : goal.returns-in-Struck-clause-spent
returns-in-Struck-clause-spent g c = First _ _ _ c.propagate.ensures.bound

pub close_each-requires-clause-places : goal.close_each-requires-clause-places
close_each-requires-clause-places g c = prop_places (length c.args.ground.now.atoms.atoms) _ _ _ _ _ _ c.in-Ok.ensures.values c.requires.places

pub close_each-requires-clause-below : goal.close_each-requires-clause-below
close_each-requires-clause-below g c = same_below (length c.args.ground.now.atoms.atoms) _ _ c.in-Ok.ensures.values.same c.requires.below

pub close_each-requires-clause-holds : goal.close_each-requires-clause-holds
close_each-requires-clause-holds g c = subst (HoldsAll c.args.ground.now) (sym (same_nogoods c.args.store.now c.propagate.new.store c.in-Ok.ensures.values.same)) c.requires.holds

pub close_each-requires-clause-quiet : goal.close_each-requires-clause-quiet
close_each-requires-clause-quiet g c = subst (FixIs c.propagate.new.store c.propagate.new.trail) c.in-Quiet.is c.in-Ok.ensures.fix

pub close_each-requires-clause-none_must_be : goal.close_each-requires-clause-none_must_be
close_each-requires-clause-none_must_be g c = subst (NoneMustBe c.args.ground.now) (sym (start_stack _ _ _ _ _ _ c.in-Ok.ensures.values c.requires.none_unit)) c.requires.none_must_be

pub returns-in-Quiet-clause-values : goal.returns-in-Quiet-clause-values
returns-in-Quiet-clause-values g c = if_ok _ _ c.close_each.result (λ closing h. closes_then _ _ _ _ _ _ _ _ _ _ (start_closes c.args.ground.now _ _ _ _ _ _ c.in-Ok.ensures.values c.requires.none_unit) h)
    c.close_each.ensures.values

pub returns-in-Quiet-clause-closing : goal.returns-in-Quiet-clause-closing
returns-in-Quiet-clause-closing g c = if_ok _ _ c.close_each.result (λ closing e.
    ends_from c.args.ground.now c.close_each.new.store c.args.trail.now c.propagate.new.trail c.close_each.new.trail (start_stack _ _ _ _ _ _ c.in-Ok.ensures.values c.requires.none_unit) closing e)
    c.close_each.ensures.closing

pub returns-in-Quiet-clause-exact : goal.returns-in-Quiet-clause-exact
returns-in-Quiet-clause-exact g c = if_ok _ _ c.close_each.result (λ closing e. exact_end c.args.ground.now c.close_each.new.store c.propagate.new.trail c.close_each.new.trail closing e)
    c.close_each.ensures.closing

pub returns-in-Quiet-clause-err : goal.returns-in-Quiet-clause-err
returns-in-Quiet-clause-err g c = if_err _ _ c.close_each.result (λ f h. closes_stops _ _ _ _ _ _ _ _ _ _ (start_closes c.args.ground.now _ _ _ _ _ _ c.in-Ok.ensures.values c.requires.none_unit) h)
    c.close_each.ensures.err

pub returns-in-Quiet-clause-cause : goal.returns-in-Quiet-clause-cause
returns-in-Quiet-clause-cause g c = if_err _ _ c.close_each.result
    (cause_later (g.T.Trace.faults c.args.trace.now) (g.T.Trace.faults c.propagate.new.trace) (g.T.Trace.faults c.close_each.new.trace) c.propagate.ensures.later) c.close_each.ensures.cause

pub returns-in-Quiet-clause-spent : goal.returns-in-Quiet-clause-spent
returns-in-Quiet-clause-spent g c = c.close_each.ensures.spent _ _ _ (First _ _ _ c.propagate.ensures.bound)
