use Rattle.conflict_learning.proofs.Opening.{highest_is_open}
use Rattle.conflict_learning.proofs.LawProofs.{is_unit_after_back, is_unit_no_lower}
use Rattle.conflict_learning.proofs.laws.learning_laws.Goals as goal

pub returns-clause-highest_is_open : goal.returns-clause-highest_is_open
returns-clause-highest_is_open c = highest_is_open

pub returns-clause-is_unit_after_back : goal.returns-clause-is_unit_after_back
returns-clause-is_unit_after_back c = is_unit_after_back

pub returns-clause-is_unit_no_lower : goal.returns-clause-is_unit_no_lower
returns-clause-is_unit_no_lower c = is_unit_no_lower
