use Rattle.std.proofs.Common.{length, ◌-◌}
use Rattle.asp_strata.proofs.Searching.{IsSearch}
use Rattle.asp_strata.proofs.dependents.reach.Given as goal

abbrev pub invariant-searching : goal.invariant-searching
invariant-searching l = IsSearch l.rows.items l.fn.roots l.found l.next

abbrev pub decreases-searching : goal.decreases-searching
decreases-searching l = length l.rows.items - l.next
