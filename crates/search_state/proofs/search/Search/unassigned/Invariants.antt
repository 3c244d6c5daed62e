use Rattle.std.proofs.Common.{◌≡◌, ◌<◌, ℕ, None}
use Rattle.search_values.specs.Values.{value_of}
use Rattle.search_state.specs.Moves.{IsNamed}
use Rattle.search_state.proofs.search.Search.unassigned.Given as goal

abbrev pub invariant-loop-x : goal.invariant-loop-x
invariant-loop-x l = (y : ℕ) → y < l.x → IsNamed l.self y → ¬ (value_of l.self.stack y ≡ None)
