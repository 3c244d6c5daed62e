use Rattle.std.proofs.Common.{◌≡◌, ◌⊎◌, ◌↔◌, ◌++◌, ℕ, List, drop}
use Rattle.lists.specs.Lists.{◌∈◌}
use Rattle.asp_strata.proofs.place_set.PlaceSet.add_all.Given as goal

abbrev pub invariant-loop-place : goal.invariant-loop-place
invariant-loop-place l = record {
  members : (i : ℕ) → ((i ∈ l.self) ⊎ (i ∈ drop l.place-index l.places)) ↔ ((i ∈ l.initial.self) ⊎ (i ∈ l.places));
  grown : (more : List ℕ) × (l.self ≡ l.initial.self ++ more);
}
