use Rattle.aggregate_laws.proofs.totals_of_tuples.Goals as goal
use Rattle.aggregate_laws.proofs.TotalsOfExtents.{totals_of_tuples_are_totals}

pub returns : goal.returns
returns c = record { totals_of_tuples_are_totals = totals_of_tuples_are_totals }
