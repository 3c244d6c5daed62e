use Rattle.aggregate_laws.proofs.core_members_first.Goals as goal
use Rattle.aggregate_laws.proofs.MembersInOrder.{core_members_can_stand_first}

pub returns : goal.returns
returns c = record { core_members_can_stand_first = core_members_can_stand_first }
