use Rattle.std.proofs.Common.{◌≡◌, drop}
use Rattle.search_values.specs.Values.{all_at_0}
use Rattle.search_state.proofs.search.are_at_0.Given as goal

abbrev pub invariant-loop-l : goal.invariant-loop-l
invariant-loop-l l = all_at_0 l.trail.stack l.lits ≡ all_at_0 l.trail.stack (drop l.l-index l.lits)
