use Rattle.std.proofs.Common.{◌≡◌, [], length}
use Rattle.lists.specs.Lists.{Each}
use Rattle.asp_strata.proofs.graph.empty_rows.Given as goal

abbrev pub invariant-loop : goal.invariant-loop
invariant-loop l = record {
  count : length l.rows.items ≡ l.counter;
  empty : Each (λ row. row ≡ []) l.rows.items;
}
