use Rattle.std.proofs.Common.{◌≤◌, length, map, reverse, take}
use Rattle.nogood_store.specs.Stored.{nogood_of}
use Rattle.journal_theory.specs.Events.{lits_at}
use Rattle.conflict_learning.proofs.Underway.{IsUnderWay}
use Rattle.conflict_learning.proofs.analysis.resolve.Given as goal

abbrev pub invariant-loop-left : goal.invariant-loop-left
invariant-loop-left l =
    IsUnderWay (map nogood_of l.store) l.trail.stack (lits_at (map nogood_of l.store) l.fn.struck) l.top
    (reverse (take l.left l.entries)) l.pending.marks.items l.pending.count l.lits l.back_to
    × (l.left ≤ length l.entries)

abbrev pub decreases-loop-left : goal.decreases-loop-left
decreases-loop-left l = l.left
