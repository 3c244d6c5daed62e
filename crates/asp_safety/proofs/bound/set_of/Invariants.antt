use Rattle.std.proofs.Common.{◌⊎◌, ◌↔◌, length}
use Rattle.lists.specs.Lists.{◌∈◌}
use Rattle.asp_meaning.specs.Terms.{Variable}
use Rattle.asp_safety.proofs.bound.set_of.Given as goal

abbrev pub invariant-moving : goal.invariant-moving
invariant-moving l = (v : Variable) → ((v ∈ l.keys) ⊎ (v ∈ l.set.keys)) ↔ (v ∈ l.fn.keys)

abbrev pub decreases-moving : goal.decreases-moving
decreases-moving l = length l.keys
