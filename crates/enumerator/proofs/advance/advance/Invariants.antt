use Rattle.std.proofs.Common.{◌≤◌}
use Rattle.search_journals.specs.Runs.{Runs}
use Rattle.search_journals.specs.Measures.{work_left}
use Rattle.enumerator.proofs.advance.advance.Given as goal

abbrev pub invariant-stepping : goal.invariant-stepping
invariant-stepping g l = record {
  runs : Runs l.fn.search l.search (g.T.Trace.journal l.fn.trace) (g.T.Trace.journal l.trace);
  later : g.T.Trace.faults l.fn.trace ≤ g.T.Trace.faults l.trace;
}

abbrev pub decreases-stepping : goal.decreases-stepping
decreases-stepping g l = work_left l.search
