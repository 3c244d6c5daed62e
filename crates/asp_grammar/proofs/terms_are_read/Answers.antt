use Rattle.asp_grammar.proofs.terms_are_read.Goals as goal
use Rattle.asp_grammar.proofs.ExampleLemmas.{sums_left, not_right, products_left, products_tighter, not_tighter, parentheses_group, minus_number, no_operator, minus_symbol, two_minuses, operands}

pub returns-clause-sums_group_from_the_left : goal.returns-clause-sums_group_from_the_left
returns-clause-sums_group_from_the_left c = sums_left

pub returns-clause-sums_do_not_group_from_the_right : goal.returns-clause-sums_do_not_group_from_the_right
returns-clause-sums_do_not_group_from_the_right c = not_right

pub returns-clause-products_group_from_the_left : goal.returns-clause-products_group_from_the_left
returns-clause-products_group_from_the_left c = products_left

pub returns-clause-products_bind_tighter : goal.returns-clause-products_bind_tighter
returns-clause-products_bind_tighter c = products_tighter

pub returns-clause-sums_do_not_bind_tighter : goal.returns-clause-sums_do_not_bind_tighter
returns-clause-sums_do_not_bind_tighter c = not_tighter

pub returns-clause-parentheses_group : goal.returns-clause-parentheses_group
returns-clause-parentheses_group c = parentheses_group

pub returns-clause-a_minus_before_a_number_is_its_sign : goal.returns-clause-a_minus_before_a_number_is_its_sign
returns-clause-a_minus_before_a_number_is_its_sign c = minus_number

pub returns-clause-a_minus_before_a_number_is_no_operator : goal.returns-clause-a_minus_before_a_number_is_no_operator
returns-clause-a_minus_before_a_number_is_no_operator c = no_operator

pub returns-clause-a_minus_before_a_symbol_is_an_operator : goal.returns-clause-a_minus_before_a_symbol_is_an_operator
returns-clause-a_minus_before_a_symbol_is_an_operator c = minus_symbol

pub returns-clause-two_minuses_before_a_number : goal.returns-clause-two_minuses_before_a_number
returns-clause-two_minuses_before_a_number c = two_minuses

pub returns-clause-each_kind_of_operand : goal.returns-clause-each_kind_of_operand
returns-clause-each_kind_of_operand c = operands
