use Rattle.std.proofs.Common.{◌⊎◌, ◌↔◌, length}
use Rattle.lists.specs.Lists.{◌∈◌}
use Rattle.asp_strata.specs.declared.predicate.Predicate.{Predicate}
use Rattle.asp_strata.proofs.places.table_of.Given as goal

abbrev pub invariant-moving : goal.invariant-moving
invariant-moving l = (p : Predicate) → ((p ∈ l.predicates) ⊎ (p ∈ l.table)) ↔ (p ∈ l.fn.predicates)

abbrev pub decreases-moving : goal.decreases-moving
decreases-moving l = length l.predicates
