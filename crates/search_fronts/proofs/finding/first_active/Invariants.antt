use Rattle.std.proofs.Common.{◌≡◌, ◌<◌, ◌≤◌, ℕ, Some, slice_get}
use Rattle.atom_pool.specs.declared.instances.Made.{Made}
use Rattle.choice_manager.specs.Active.{IsActiveBody}
use Rattle.search_fronts.proofs.finding.first_active.Given as goal

abbrev pub invariant-loop-i : goal.invariant-loop-i
invariant-loop-i l = (j : ℕ) → l.from ≤ j → j < l.i → (k : Made) → slice_get l.instances j ≡ Some k → (b : ℕ) → ¬ IsActiveBody l.trail.stack k b
