use Rattle.std.proofs.Common.{◌≡◌, ◌⊎◌, ◌↔◌, ℕ, length, drop}
use Rattle.asp_strata.specs.Graphs.{Leads, Linked}
use Rattle.asp_strata.proofs.graph.rows_of.Given as goal

abbrev pub invariant-loop-statement : goal.invariant-loop-statement
invariant-loop-statement l = record {
  rows : (j i : ℕ) → (Leads l.rows.items j i ⊎ Linked l.table (drop l.statement-index l.statements) j i) ↔ Linked l.table l.statements j i;
  count : length l.rows.items ≡ length l.table;
}
