use Rattle.aggregate_laws.proofs.later_numbers.Goals as goal
use Rattle.aggregate_laws.proofs.LaterNumbers.{later_numbers}
use Rattle.aggregate_laws.proofs.LaterInstances.{instances_stay, instances_were_made_before}

pub returns-clause-later_numbers_change_nothing : goal.returns-clause-later_numbers_change_nothing
returns-clause-later_numbers_change_nothing g c = later_numbers

pub returns-clause-instances_stay : goal.returns-clause-instances_stay
returns-clause-instances_stay g c = instances_stay

pub returns-clause-instances_were_made_before : goal.returns-clause-instances_were_made_before
returns-clause-instances_were_made_before g c = instances_were_made_before
