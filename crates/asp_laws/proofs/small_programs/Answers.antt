use Rattle.asp_laws.proofs.small_programs.Goals as goal
use Rattle.asp_laws.proofs.Counting.{counting_stops}
use Rattle.asp_laws.proofs.Small.{the_empty_program, a_choice_gives_both, two_rules, no_atom_from_its_absence}
use Rattle.asp_laws.proofs.Choices.{a_choice_of_one}
use Rattle.asp_laws.proofs.MoreLaws.{choices_in_a_loop}

pub returns-clause-the_empty_program_has_exactly_the_empty_set : goal.returns-clause-the_empty_program_has_exactly_the_empty_set
returns-clause-the_empty_program_has_exactly_the_empty_set c = the_empty_program

pub returns-clause-a_choice_gives_both : goal.returns-clause-a_choice_gives_both
returns-clause-a_choice_gives_both c = a_choice_gives_both

pub returns-clause-a_choice_of_one_gives_each : goal.returns-clause-a_choice_of_one_gives_each
returns-clause-a_choice_of_one_gives_each c = a_choice_of_one

pub returns-clause-choices_that_rest_on_one_another_choose_nothing : goal.returns-clause-choices_that_rest_on_one_another_choose_nothing
returns-clause-choices_that_rest_on_one_another_choose_nothing c = choices_in_a_loop

pub returns-clause-two_rules_without_each_other : goal.returns-clause-two_rules_without_each_other
returns-clause-two_rules_without_each_other c = two_rules

pub returns-clause-counting_stops : goal.returns-clause-counting_stops
returns-clause-counting_stops c = counting_stops

pub returns-clause-no_atom_follows_from_its_absence : goal.returns-clause-no_atom_follows_from_its_absence
returns-clause-no_atom_follows_from_its_absence c = no_atom_from_its_absence
