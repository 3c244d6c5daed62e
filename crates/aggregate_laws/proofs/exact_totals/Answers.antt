use Rattle.aggregate_laws.proofs.exact_totals.Goals as goal
use Rattle.aggregate_laws.proofs.Totals.{totals_are_exact}
use Rattle.aggregate_laws.proofs.TotalsOfExtents.{totals_are_of_members}

pub returns-clause-totals_are_exact : goal.returns-clause-totals_are_exact
returns-clause-totals_are_exact g c = totals_are_exact

pub returns-clause-totals_are_of_members : goal.returns-clause-totals_are_of_members
returns-clause-totals_are_of_members g c = totals_are_of_members
