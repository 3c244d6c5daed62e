use Rattle.std.proofs.Common.{◌≡◌, length}
use Rattle.lists.specs.Lists.{Each}
use Rattle.asp_strata.proofs.strata.zeros.Given as goal

abbrev pub invariant-loop : goal.invariant-loop
invariant-loop l = record {
  count : length l.strata ≡ l.counter;
  zero : Each (λ n. n ≡ 0) l.strata;
}
