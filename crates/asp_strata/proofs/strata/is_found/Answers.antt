use Rattle.std.proofs.Common.{sym, true≢false}
use Rattle.asp_strata.proofs.Members.{at_place}
use Rattle.asp_strata.proofs.strata.is_found.Goals as goal

pub returns-in-None : goal.returns-in-None
returns-in-None c = (
  λ t. absurd (true≢false (sym t)),
  λ (i, at, k). absurd (c.place_of.ensures.none c.in-None.is (at_place c.args.predicate.now c.args.table.now i at)),
)
