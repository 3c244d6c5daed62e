use Rattle.closing.proofs.RoundLemmas.{Going}
use Rattle.closing.proofs.rounds.close_each.Given as goal

abbrev pub invariant-loop-place : goal.invariant-loop-place
invariant-loop-place g l = Going l.ground l.fn.store l.store l.fn.trail l.trail (g.T.Trace.journal l.fn.trace) (g.T.Trace.journal l.trace) l.place l.fn.steps l.steps (g.T.Trace.faults l.fn.trace) (g.T.Trace.faults l.trace)
