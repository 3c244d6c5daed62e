use Rattle.asp_laws.proofs.constraints_and_facts.Goals as goal
use Rattle.asp_laws.proofs.Constraints.{a_constraint_only_takes_away, a_fact_is_in_each}

pub returns-clause-a_constraint_only_takes_away : goal.returns-clause-a_constraint_only_takes_away
returns-clause-a_constraint_only_takes_away c = a_constraint_only_takes_away

pub returns-clause-a_fact_is_in_each_answer_set : goal.returns-clause-a_fact_is_in_each_answer_set
returns-clause-a_fact_is_in_each_answer_set c = a_fact_is_in_each
