use Rattle.aggregate_laws.proofs.later_core_numbers.Goals as goal
use Rattle.aggregate_laws.proofs.LaterNumbers.{later_core_numbers}

pub returns : goal.returns
returns c = record { later_core_numbers_change_nothing = later_core_numbers }
