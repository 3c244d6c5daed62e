use Rattle.asp_grammar.proofs.nesting_and_numbers_have_limits.Goals as goal
use Rattle.asp_grammar.proofs.NestingLemmas.{sum_too_deep, parentheses_too_deep}
use Rattle.asp_grammar.proofs.ExampleLemmas.{needs_minus, largest_fits}

pub returns-clause-a_sum_may_be_too_deep : goal.returns-clause-a_sum_may_be_too_deep
returns-clause-a_sum_may_be_too_deep c = sum_too_deep

pub returns-clause-parentheses_may_be_too_deep : goal.returns-clause-parentheses_may_be_too_deep
returns-clause-parentheses_may_be_too_deep c = parentheses_too_deep

pub returns-clause-the_largest_number_needs_a_minus : goal.returns-clause-the_largest_number_needs_a_minus
returns-clause-the_largest_number_needs_a_minus c = needs_minus

pub returns-clause-a_minus_makes_the_largest_number_fit : goal.returns-clause-a_minus_makes_the_largest_number_fit
returns-clause-a_minus_makes_the_largest_number_fit c = largest_fits
