use Rattle.aggregate_laws.proofs.core_totals.Goals as goal
use Rattle.aggregate_laws.proofs.CoreSets.{core_totals_are_exact}

pub returns : goal.returns
returns c = record { core_totals_are_exact = core_totals_are_exact }
