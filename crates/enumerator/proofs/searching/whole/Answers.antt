use Rattle.std.proofs.lemmas.Result.{err_from_is_err_and}
use Rattle.std.proofs.Common.{refl}
use Rattle.search_journals.specs.Standing.{Listed}
use Rattle.search_journals.specs.Search.{SinkChange, TraceChange}
use Rattle.search_journals.proofs.Beginning.{first_fault}
use Rattle.enumerator.proofs.Ends.{new_is_fresh, stop_here, stop_answers, ready_first, stands_begun, leaves_begun, ends_begun}
use Rattle.enumerator.proofs.searching.whole.Goals as goal

pub start-requires-clause-fresh : goal.start-requires-clause-fresh
start-requires-clause-fresh g c = new_is_fresh c.args.settings c.args.search.now c.requires.searchable c.requires.new

pub returns-in_err-halt-clause-answer : goal.returns-in_err-halt-clause-answer
returns-in_err-halt-clause-answer g c A are =
    let lists : Listed = record { book = c.args.book.now; sets = A; are = are } in
    let sink : SinkChange = record {
      held = g.O.Sink.held c.args.out.now;
      held' = g.O.Sink.held c.args.out.now;
      faults = g.O.Sink.faults c.args.out.now;
      faults' = g.O.Sink.faults c.args.out.now;
    } in
    let trace : TraceChange = record {
      told = g.T.Trace.journal c.args.trace.now;
      told' = g.T.Trace.journal c.start.new.trace;
      faults = g.T.Trace.faults c.args.trace.now;
      faults' = g.T.Trace.faults c.start.new.trace;
    } in
    let p = err_from_is_err_and c.from_residual.result c.from_residual.ensures.1 in
    rw (p.1, p.2) (first_fault c.args.search.now.core c.requires.searchable lists c.args.settings c.requires.some sink trace c.args.search.now
    c.requires.new.0 c.requires.new.1 refl _ c.in_err-halt.ensures.err)

pub end_by_stop-requires : goal.end_by_stop-requires
end_by_stop-requires g c = stop_here c.in_ok-halt.field-0 c.in-Some.halt c.in-Some.is c.in_ok-halt.ensures.stops

pub returns-in-Some-clause-answer : goal.returns-in-Some-clause-answer
returns-in-Some-clause-answer g c A are =
    let lists : Listed = record { book = c.args.book.now; sets = A; are = are } in
    let sink : SinkChange = record {
      held = g.O.Sink.held c.args.out.now;
      held' = g.O.Sink.held c.args.out.now;
      faults = g.O.Sink.faults c.args.out.now;
      faults' = g.O.Sink.faults c.args.out.now;
    } in
    let trace : TraceChange = record {
      told = g.T.Trace.journal c.args.trace.now;
      told' = g.T.Trace.journal c.start.new.trace;
      faults = g.T.Trace.faults c.args.trace.now;
      faults' = g.T.Trace.faults c.start.new.trace;
    } in
    stop_answers c.args.search.now c.requires.searchable lists c.args.settings c.requires.some sink trace
    c.requires.new c.start.new.search (g.T.Trace.journal c.start.new.trace) c.in_ok-halt.field-0 c.in-Some.halt c.in-Some.is
    c.in_ok-halt.ensures.begins refl refl c.end_by_stop.result c.end_by_stop.ensures c.end_by.result c.end_by.ensures

pub rounds-requires-clause-ready : goal.rounds-requires-clause-ready
rounds-requires-clause-ready g c =
    let lists : Listed = record { book = c.args.book.now; sets = c.requires.lists.0; are = c.requires.lists.1 } in
    let sink : SinkChange = record {
      held = g.O.Sink.held c.args.out.now;
      held' = g.O.Sink.held c.args.out.now;
      faults = g.O.Sink.faults c.args.out.now;
      faults' = g.O.Sink.faults c.args.out.now;
    } in
    let trace : TraceChange = record {
      told = g.T.Trace.journal c.args.trace.now;
      told' = g.T.Trace.journal c.start.new.trace;
      faults = g.T.Trace.faults c.args.trace.now;
      faults' = g.T.Trace.faults c.start.new.trace;
    } in
    ready_first c.args.search.now c.requires.searchable lists c.args.settings c.requires.some sink trace
    c.requires.new c.start.new.search (g.T.Trace.journal c.start.new.trace) c.in_ok-halt.field-0 c.in_default.is c.in_ok-halt.ensures.begins

pub rounds-requires-clause-stands : goal.rounds-requires-clause-stands
rounds-requires-clause-stands g c =
    let lists : Listed = record { book = c.args.book.now; sets = c.requires.lists.0; are = c.requires.lists.1 } in
    let sink : SinkChange = record {
      held = g.O.Sink.held c.args.out.now;
      held' = g.O.Sink.held c.args.out.now;
      faults = g.O.Sink.faults c.args.out.now;
      faults' = g.O.Sink.faults c.args.out.now;
    } in
    let trace : TraceChange = record {
      told = g.T.Trace.journal c.args.trace.now;
      told' = g.T.Trace.journal c.start.new.trace;
      faults = g.T.Trace.faults c.args.trace.now;
      faults' = g.T.Trace.faults c.start.new.trace;
    } in
    stands_begun c.args.search.now c.requires.searchable lists c.args.settings c.requires.some sink trace
    c.requires.new c.start.new.search (g.T.Trace.journal c.start.new.trace) c.in_ok-halt.field-0 c.in_default.is c.in_ok-halt.ensures.begins

pub returns-in_err-finish-clause-answer : goal.returns-in_err-finish-clause-answer
returns-in_err-finish-clause-answer g c A are =
    let lists : Listed = record { book = c.args.book.now; sets = A; are = are } in
    let sink : SinkChange = record {
      held = g.O.Sink.held c.args.out.now;
      held' = g.O.Sink.held c.rounds.new.out;
      faults = g.O.Sink.faults c.args.out.now;
      faults' = g.O.Sink.faults c.rounds.new.out;
    } in
    let trace : TraceChange = record {
      told = g.T.Trace.journal c.args.trace.now;
      told' = g.T.Trace.journal c.rounds.new.trace;
      faults = g.T.Trace.faults c.args.trace.now;
      faults' = g.T.Trace.faults c.rounds.new.trace;
    } in
    let p = err_from_is_err_and c.from_residual-in_err-finish.result c.from_residual-in_err-finish.ensures.1 in
    rw (p.1, p.2) (leaves_begun c.args.search.now c.requires.searchable lists c.args.settings c.requires.some sink trace
    c.requires.new c.start.new.search (g.T.Trace.journal c.start.new.trace) c.in_ok-halt.field-0 c.in_default.is c.in_ok-halt.ensures.begins
    (g.T.Trace.faults c.start.new.trace) _ c.start.ensures.later c.in_err-finish.ensures.err)

pub returns-clause-answer : goal.returns-clause-answer
returns-clause-answer g c A are =
    let lists : Listed = record { book = c.args.book.now; sets = A; are = are } in
    let sink : SinkChange = record {
      held = g.O.Sink.held c.args.out.now;
      held' = g.O.Sink.held c.rounds.new.out;
      faults = g.O.Sink.faults c.args.out.now;
      faults' = g.O.Sink.faults c.rounds.new.out;
    } in
    let trace : TraceChange = record {
      told = g.T.Trace.journal c.args.trace.now;
      told' = g.T.Trace.journal c.rounds.new.trace;
      faults = g.T.Trace.faults c.args.trace.now;
      faults' = g.T.Trace.faults c.rounds.new.trace;
    } in
    ends_begun c.args.search.now c.requires.searchable lists c.args.settings c.requires.some sink trace
    c.requires.new c.start.new.search (g.T.Trace.journal c.start.new.trace) c.in_ok-halt.field-0 c.in_default.is c.in_ok-halt.ensures.begins
    c.rounds.new.left c.rounds.new.rest c.in_ok-finish.finish c.rounds.ensures.fewer c.in_ok-finish.ensures.ok c.end_by-2.result
    c.end_by-2.ensures
