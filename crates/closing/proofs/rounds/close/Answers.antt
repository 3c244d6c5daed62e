use Rattle.std.proofs.Common.{length, arith}
use Rattle.closing.proofs.Values.{named_below}
use Rattle.closing.proofs.RoundLemmas.{if_ok, if_err, next_is, round_places, round_matches, round_taken, round_none, round_closes, round_valued, round_stops, round_unnoted, round_free}
use Rattle.closing.proofs.rounds.close.Goals as goal

pub close-requires-clause-placed : goal.close-requires-clause-placed
close-requires-clause-placed g c = let low = named_below c.args.ground.now c.args.atom c.requires.named in let places = c.requires.places in omega (arith, low, places)

pub settle-requires-clause-places : goal.settle-requires-clause-places
settle-requires-clause-places g c = round_places c.args.ground.now c.args.store.now c.args.trail.now c.close.new.self c.args.atom c.close.ensures (length c.args.ground.now.atoms.atoms) c.requires.places

pub settle-requires-clause-matches : goal.settle-requires-clause-matches
settle-requires-clause-matches g c = round_matches c.args.ground.now c.args.store.now c.args.trail.now c.close.new.self c.args.atom c.close.ensures c.requires.matches c.requires.quiet.2 c.requires.unassigned

pub settle-requires-clause-taken : goal.settle-requires-clause-taken
settle-requires-clause-taken g c = round_taken c.args.ground.now c.args.store.now c.args.trail.now c.close.new.self c.args.atom c.close.ensures c.requires.quiet.2 c.requires.named

pub settle-requires-clause-none_must_be : goal.settle-requires-clause-none_must_be
settle-requires-clause-none_must_be g c = round_none c.args.ground.now c.args.store.now c.args.trail.now c.close.new.self c.args.atom c.close.ensures c.requires.none_must_be

pub returns-in-Ok-clause-values : goal.returns-in-Ok-clause-values
returns-in-Ok-clause-values g c =
    let next = next_is c.args.ground.now c.args.store.now c.args.trail.now c.close.new.self c.args.atom c.close.ensures c.requires.named c.requires.unassigned c.requires.quiet c.requires.none_must_be in
    if_ok _ _ c.settle.result (λ halt p. round_closes c.args.ground.now c.args.store.now c.args.trail.now c.close.new.self c.args.atom c.close.ensures c.settle.new.store c.settle.new.trail
    (g.T.Trace.journal c.args.trace.now) (g.T.Trace.journal c.noted_closed.new.trace) (g.T.Trace.journal c.settle.new.trace) next c.in-Ok.ensures.ok p) c.settle.ensures.values

pub returns-in-Ok-clause-valued : goal.returns-in-Ok-clause-valued
returns-in-Ok-clause-valued g c =
    let next = next_is c.args.ground.now c.args.store.now c.args.trail.now c.close.new.self c.args.atom c.close.ensures c.requires.named c.requires.unassigned c.requires.quiet c.requires.none_must_be in
    if_ok _ _ c.settle.result (λ halt p. round_valued c.args.ground.now c.args.store.now c.args.trail.now c.close.new.self c.args.atom c.close.ensures c.settle.new.store c.settle.new.trail
    (g.T.Trace.journal c.args.trace.now) (g.T.Trace.journal c.noted_closed.new.trace) (g.T.Trace.journal c.settle.new.trace) next p) c.settle.ensures.values

pub returns-in-Ok-clause-err : goal.returns-in-Ok-clause-err
returns-in-Ok-clause-err g c =
    let next = next_is c.args.ground.now c.args.store.now c.args.trail.now c.close.new.self c.args.atom c.close.ensures c.requires.named c.requires.unassigned c.requires.quiet c.requires.none_must_be in
    if_err _ _ c.settle.result (λ f p. round_stops c.args.ground.now c.args.store.now c.args.trail.now c.close.new.self c.args.atom c.close.ensures c.settle.new.store c.settle.new.trail
    (g.T.Trace.journal c.args.trace.now) (g.T.Trace.journal c.noted_closed.new.trace) (g.T.Trace.journal c.settle.new.trace) next c.in-Ok.ensures.ok p) c.settle.ensures.err

pub returns-in-Err-clause-err : goal.returns-in-Err-clause-err
returns-in-Err-clause-err g c =
    let next = next_is c.args.ground.now c.args.store.now c.args.trail.now c.close.new.self c.args.atom c.close.ensures c.requires.named c.requires.unassigned c.requires.quiet c.requires.none_must_be in
    round_unnoted c.args.ground.now c.args.store.now c.args.trail.now c.close.new.self c.args.atom c.close.ensures (g.T.Trace.journal c.args.trace.now) (g.T.Trace.journal c.noted_closed.new.trace)
    next c.requires.matches c.requires.quiet.2 c.in-Err.ensures.unchanged

pub returns-in-Err-clause-bound : goal.returns-in-Err-clause-bound
returns-in-Err-clause-bound g c = round_free c.args.ground.now c.args.store.now c.args.trail.now c.close.new.self c.args.atom c.close.ensures c.args.steps.now
