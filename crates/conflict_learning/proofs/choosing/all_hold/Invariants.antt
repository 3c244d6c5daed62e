use Rattle.std.proofs.Common.{take}
use Rattle.lists.specs.Lists.{◌∈◌}
use Rattle.search_values.specs.Values.{Lit, Holds}
use Rattle.conflict_learning.proofs.choosing.all_hold.Given as goal

abbrev pub invariant-loop-l : goal.invariant-loop-l
invariant-loop-l l = (k : Lit) → k ∈ take l.l-index l.lits → Holds l.trail.stack k
