use Rattle.aggregate_laws.proofs.members_first.Goals as goal
use Rattle.aggregate_laws.proofs.MembersInOrder.{members_can_stand_first}

pub returns : goal.returns
returns g c = record { members_can_stand_first = members_can_stand_first }
