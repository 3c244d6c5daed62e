use Rattle.std.proofs.Common.{◌≤◌, ◌-◌, length, map}
use Rattle.nogood_store.specs.Stored.{nogood_of}
use Rattle.conflict_learning.specs.Choosing.{IsBest}
use Rattle.conflict_learning.proofs.choosing.first_struck.Given as goal

abbrev pub invariant-loop-next : goal.invariant-loop-next
invariant-loop-next l = IsBest (map nogood_of l.store) l.trail.stack l.next l.best × (l.next ≤ length l.store)

abbrev pub decreases-loop-next : goal.decreases-loop-next
decreases-loop-next l = length l.store - l.next
