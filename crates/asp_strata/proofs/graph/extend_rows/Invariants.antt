use Rattle.std.proofs.Common.{◌≡◌, ◌⊎◌, ◌↔◌, ℕ, length, drop}
use Rattle.lists.specs.Lists.{◌∈◌, ◌⊆◌}
use Rattle.asp_strata.specs.Graphs.{Leads}
use Rattle.asp_strata.proofs.graph.extend_rows.Given as goal

abbrev pub invariant-loop-place : goal.invariant-loop-place
invariant-loop-place l = record {
  rows : (j i : ℕ) → (Leads l.rows.items j i ⊎ ((j ∈ drop l.place-index l.needed) × (i ∈ l.heads))) ↔ (Leads l.initial.rows.items j i ⊎ ((j ∈ l.needed) × (i ∈ l.heads)));
  count : length l.rows.items ≡ length l.initial.rows.items;
  inside : drop l.place-index l.needed ⊆ l.needed;
}
