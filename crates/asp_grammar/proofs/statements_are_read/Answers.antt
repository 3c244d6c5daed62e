use Rattle.asp_grammar.proofs.statements_are_read.Goals as goal
use Rattle.asp_grammar.proofs.ExampleLemmas.{no_arguments, compared_literal, empty_bodies, first_lines, no_bounds, bare_bounds, bounds, denied_aggregate, guards}

pub returns-clause-an_empty_list_of_arguments_is_none : goal.returns-clause-an_empty_list_of_arguments_is_none
returns-clause-an_empty_list_of_arguments_is_none c = no_arguments

pub returns-clause-a_literal_before_a_comparison_is_a_term : goal.returns-clause-a_literal_before_a_comparison_is_a_term
returns-clause-a_literal_before_a_comparison_is_a_term c = compared_literal

pub returns-clause-a_body_may_be_empty : goal.returns-clause-a_body_may_be_empty
returns-clause-a_body_may_be_empty c = empty_bodies

pub returns-clause-a_statement_has_the_line_of_its_first_token : goal.returns-clause-a_statement_has_the_line_of_its_first_token
returns-clause-a_statement_has_the_line_of_its_first_token c = first_lines

pub returns-clause-a_choice_may_have_no_bounds : goal.returns-clause-a_choice_may_have_no_bounds
returns-clause-a_choice_may_have_no_bounds c = no_bounds

pub returns-clause-a_bound_without_an_operator_is_at_most : goal.returns-clause-a_bound_without_an_operator_is_at_most
returns-clause-a_bound_without_an_operator_is_at_most c = bare_bounds

pub returns-clause-a_bound_has_its_operator : goal.returns-clause-a_bound_has_its_operator
returns-clause-a_bound_has_its_operator c = bounds

pub returns-clause-an_aggregate_may_be_denied : goal.returns-clause-an_aggregate_may_be_denied
returns-clause-an_aggregate_may_be_denied c = denied_aggregate

pub returns-clause-an_aggregate_has_a_guard : goal.returns-clause-an_aggregate_has_a_guard
returns-clause-an_aggregate_has_a_guard c = guards
