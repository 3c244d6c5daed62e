use Rattle.std.proofs.Common.{◌≡◌, ◌≤◌, ◌-◌, length}
use Rattle.ground_noting.specs.Notings.{Adds}
use Rattle.ground_noting.proofs.Loops.{SoFar}
use Rattle.ground_noting.proofs.naming.note_atoms.Given as goal

abbrev pub invariant-loop-told : goal.invariant-loop-told
invariant-loop-told g l =
    SoFar l.ground l.trail l.fn.told l.told (g.T.Trace.journal l.fn.trace)
    (g.T.Trace.journal l.trace) l.fn.nogoods l.nogoods l.fn.choices l.choices (g.T.Trace.faults l.fn.trace) (g.T.Trace.faults l.trace)
    × (l.told ≡ record l.fn.told { atoms = l.told.atoms; instances = l.told.instances })
    × (l.told.atoms ≤ length l.ground.atoms.atoms)
    × Adds l.ground l.fn.nogoods l.nogoods l.fn.choices l.choices

abbrev pub decreases-loop-told : goal.decreases-loop-told
decreases-loop-told g l = length l.ground.atoms.atoms - l.told.atoms
