use Rattle.std.proofs.Common.{◌≤◌, ◌<◌, ◌≡◌}
use Rattle.search_journals.specs.Standing.{IsReady, CarriesOver}
use Rattle.search_journals.specs.Measures.{still_open, rounds_left}
use Rattle.enumerator.proofs.searching.rounds.Given as goal

abbrev pub invariant-rounds : goal.invariant-rounds
invariant-rounds g l = record {
  ready : IsReady l.search;
  room : 0 < l.left;
  core : l.search.core ≡ l.fn.search.core;
  carries : CarriesOver l.fn.book l.fn.search l.search (g.T.Trace.journal l.fn.trace) (g.T.Trace.journal l.trace) (g.O.Sink.held l.fn.out)
      (g.O.Sink.held l.out) (l.fn.left, l.fn.rest) (l.left, l.rest);
  fewer : l.left ≤ l.fn.left;
  out_later : g.O.Sink.faults l.fn.out ≤ g.O.Sink.faults l.out;
  later : g.T.Trace.faults l.fn.trace ≤ g.T.Trace.faults l.trace;
}

abbrev pub decreases-rounds : goal.decreases-rounds
decreases-rounds g l = rounds_left l.rest (still_open l.search.nogoods)
