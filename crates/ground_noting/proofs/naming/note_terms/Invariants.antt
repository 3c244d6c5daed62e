use Rattle.std.proofs.Common.{◌≡◌, ◌≤◌, ◌-◌, length}
use Rattle.ground_noting.specs.Notings.{Noted}
use Rattle.ground_noting.proofs.naming.note_terms.Given as goal

abbrev pub invariant-loop-told : goal.invariant-loop-told
invariant-loop-told g l =
    Noted l.ground l.fn.told l.told (g.T.Trace.journal l.fn.trace) (g.T.Trace.journal l.trace) ×
    (g.T.Trace.faults l.fn.trace ≤ g.T.Trace.faults l.trace) × (l.told ≡ record l.fn.told { terms = l.told.terms })
    × (l.told.terms ≤ length l.ground.terms)

abbrev pub decreases-loop-told : goal.decreases-loop-told
decreases-loop-told g l = length l.ground.terms - l.told.terms
