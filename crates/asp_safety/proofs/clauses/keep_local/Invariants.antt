use Rattle.std.proofs.Common.{◌⊎◌, ◌↔◌, length}
use Rattle.lists.specs.Lists.{◌∈◌}
use Rattle.asp_safety.specs.declared.clause.Clause.{Clause}
use Rattle.asp_safety.proofs.clauses.keep_local.Given as goal

abbrev pub invariant-moving : goal.invariant-moving
invariant-moving l = (c : Clause) → ((c ∈ l.kept) ⊎ ((c ∈ l.clauses) × (¬ (c.gives ∈ l.globals.keys)))) ↔ ((c ∈ l.fn.clauses) × (¬ (c.gives ∈ l.globals.keys)))

abbrev pub decreases-moving : goal.decreases-moving
decreases-moving l = length l.clauses
