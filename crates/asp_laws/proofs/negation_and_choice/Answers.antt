use Rattle.asp_laws.proofs.negation_and_choice.Goals as goal
use Rattle.asp_laws.proofs.Extents.{literal_never_beside_denial, literal_or_denial}
use Rattle.asp_laws.proofs.ChoiceLaw.{a_choice_is_a_fact_or_nothing}
use Rattle.asp_laws.proofs.Foundations.{a_positive_program_has_at_most_one}
use Rattle.asp_laws.proofs.Stable.{no_answer_set_lies_in_another}
use Rattle.asp_laws.proofs.Small.{strong_negation_contradicts}

pub returns-clause-strong_negation_contradicts : goal.returns-clause-strong_negation_contradicts
returns-clause-strong_negation_contradicts c = strong_negation_contradicts

pub returns-clause-no_answer_set_lies_in_another : goal.returns-clause-no_answer_set_lies_in_another
returns-clause-no_answer_set_lies_in_another c = no_answer_set_lies_in_another

pub returns-clause-a_positive_program_has_at_most_one_answer_set : goal.returns-clause-a_positive_program_has_at_most_one_answer_set
returns-clause-a_positive_program_has_at_most_one_answer_set c = a_positive_program_has_at_most_one

pub returns-clause-a_literal_is_never_beside_its_denial : goal.returns-clause-a_literal_is_never_beside_its_denial
returns-clause-a_literal_is_never_beside_its_denial c = literal_never_beside_denial

pub returns-clause-a_literal_or_its_denial_holds : goal.returns-clause-a_literal_or_its_denial_holds
returns-clause-a_literal_or_its_denial_holds c = literal_or_denial

pub returns-clause-a_choice_is_a_fact_or_nothing : goal.returns-clause-a_choice_is_a_fact_or_nothing
returns-clause-a_choice_is_a_fact_or_nothing c = a_choice_is_a_fact_or_nothing
