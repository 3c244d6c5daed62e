use Rattle.asp_safety.proofs.Exclusion.{one_fault, no_fault}
use Rattle.asp_safety.proofs.laws.answers_exclude_one_another.Goals as goal

pub returns-clause-one_fault : goal.returns-clause-one_fault
returns-clause-one_fault c = one_fault

pub returns-clause-accepted : goal.returns-clause-accepted
returns-clause-accepted c = no_fault
