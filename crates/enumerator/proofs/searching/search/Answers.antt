use Rattle.std.proofs.Common.{refl, subst}
use Rattle.core_rules.specs.declared.rules.Core.{Core}
use Rattle.search_journals.specs.Standing.{Listed}
use Rattle.search_journals.specs.Search.{SinkChange, TraceChange, SearchAnswer}
use Rattle.search_journals.proofs.Beginning.{nothing_answers}
use Rattle.enumerator.proofs.Ends.{new_core, new_for, new_searchable}
use Rattle.enumerator.proofs.Books.{book_lists}
use Rattle.enumerator.proofs.searching.search.Goals as goal

pub returns-in_default-clause-answer : goal.returns-in_default-clause-answer
returns-in_default-clause-answer g c A are =
    let lists : Listed = record { book = c.args.book.now; sets = A; are = are } in
    let sink : SinkChange = record {
      held = g.O.Sink.held c.args.out.now;
      held' = g.O.Sink.held c.args.out.now;
      faults = g.O.Sink.faults c.args.out.now;
      faults' = g.O.Sink.faults c.args.out.now;
    } in
    let trace : TraceChange = record {
      told = g.T.Trace.journal c.args.trace.now;
      told' = g.T.Trace.journal c.args.trace.now;
      faults = g.T.Trace.faults c.args.trace.now;
      faults' = g.T.Trace.faults c.args.trace.now;
    } in
    nothing_answers c.args.core c.requires.searchable lists c.args.settings c.requires.some sink trace refl refl

pub whole-requires-clause-lists : goal.whole-requires-clause-lists
whole-requires-clause-lists g c = book_lists c.args.book.now c.len.ensures.canonical

pub whole-requires-clause-new : goal.whole-requires-clause-new
whole-requires-clause-new g c = new_for c.args.core c.args.settings c.in-Ok.search c.in-Ok.ensures.fresh

pub whole-requires-clause-searchable : goal.whole-requires-clause-searchable
whole-requires-clause-searchable g c = new_searchable c.args.core c.args.settings c.in-Ok.search c.in-Ok.ensures.fresh c.requires.searchable

pub returns-clause-answer : goal.returns-clause-answer
returns-clause-answer g c A are =
    let lists : Listed = record { book = c.args.book.now; sets = A; are = are } in
    let sink : SinkChange = record {
      held = g.O.Sink.held c.args.out.now;
      held' = g.O.Sink.held c.whole.new.out;
      faults = g.O.Sink.faults c.args.out.now;
      faults' = g.O.Sink.faults c.whole.new.out;
    } in
    let trace : TraceChange = record {
      told = g.T.Trace.journal c.args.trace.now;
      told' = g.T.Trace.journal c.whole.new.trace;
      faults = g.T.Trace.faults c.args.trace.now;
      faults' = g.T.Trace.faults c.whole.new.trace;
    } in
    subst (λ (core : Core). SearchAnswer core A c.args.settings sink trace c.whole.result)
    (new_core c.args.core c.args.settings c.in-Ok.search c.in-Ok.ensures.fresh) (c.whole.ensures.answer A are)
