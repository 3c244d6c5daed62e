use Rattle.std.proofs.Common.{ℕ, ◌⊎◌, ◌↔◌, drop}
use Rattle.lists.specs.Lists.{◌∈◌}
use Rattle.asp_strata.specs.Graphs.{IsPlaceOf}
use Rattle.asp_strata.proofs.places.places_of.Given as goal

abbrev pub invariant-loop-predicate : goal.invariant-loop-predicate
invariant-loop-predicate l = (i : ℕ) → ((i ∈ l.places) ⊎ IsPlaceOf l.table (drop l.predicate-index l.predicates) i) ↔ IsPlaceOf l.table l.predicates i
