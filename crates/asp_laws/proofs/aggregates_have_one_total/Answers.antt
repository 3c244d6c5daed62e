use Rattle.asp_laws.proofs.aggregates_have_one_total.Goals as goal
use Rattle.asp_laws.proofs.Extents.{an_extent_is_one_set, one_total, never_beside_denial, aggregate_or_denial, one_number}
use Rattle.asp_laws.proofs.Weights.{equal_tuples, other_tuples}
use Rattle.asp_laws.proofs.MoreLaws.{two_guards_under_not, equal_local_names}

pub returns-clause-an_extent_is_one_set : goal.returns-clause-an_extent_is_one_set
returns-clause-an_extent_is_one_set c = an_extent_is_one_set

pub returns-clause-an_aggregate_has_one_total : goal.returns-clause-an_aggregate_has_one_total
returns-clause-an_aggregate_has_one_total c = one_total

pub returns-clause-equal_tuples_count_once : goal.returns-clause-equal_tuples_count_once
returns-clause-equal_tuples_count_once c = equal_tuples

pub returns-clause-other_tuples_count_each : goal.returns-clause-other_tuples_count_each
returns-clause-other_tuples_count_each c = other_tuples

pub returns-clause-never_beside_its_denial : goal.returns-clause-never_beside_its_denial
returns-clause-never_beside_its_denial c = never_beside_denial

pub returns-clause-an_aggregate_or_its_denial_holds : goal.returns-clause-an_aggregate_or_its_denial_holds
returns-clause-an_aggregate_or_its_denial_holds c = aggregate_or_denial

pub returns-clause-two_guards_under_not_are_not_both : goal.returns-clause-two_guards_under_not_are_not_both
returns-clause-two_guards_under_not_are_not_both c = two_guards_under_not

pub returns-clause-equal_local_names_are_two_variables : goal.returns-clause-equal_local_names_are_two_variables
returns-clause-equal_local_names_are_two_variables c = equal_local_names

pub returns-clause-a_choice_has_one_number : goal.returns-clause-a_choice_has_one_number
returns-clause-a_choice_has_one_number c = one_number
