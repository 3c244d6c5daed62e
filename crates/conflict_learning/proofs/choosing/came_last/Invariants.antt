use Rattle.std.proofs.Common.{◌≡◌, max, drop}
use Rattle.conflict_learning.specs.FirstValues.{came_with}
use Rattle.conflict_learning.proofs.choosing.came_last.Given as goal

abbrev pub invariant-loop-l : goal.invariant-loop-l
invariant-loop-l l = max l.came (came_with l.trail.stack (drop l.l-index l.lits)) ≡ came_with l.trail.stack l.lits
