use Rattle.asp_grammar.proofs.others_are_refused.Goals as goal
use Rattle.asp_grammar.proofs.ExampleLemmas.{no_guard, denied_comparison, variable_head, disjunction, no_full_stop}

pub returns-clause-an_aggregate_needs_a_guard : goal.returns-clause-an_aggregate_needs_a_guard
returns-clause-an_aggregate_needs_a_guard c = no_guard

pub returns-clause-no_comparison_is_denied : goal.returns-clause-no_comparison_is_denied
returns-clause-no_comparison_is_denied c = denied_comparison

pub returns-clause-a_variable_is_no_head : goal.returns-clause-a_variable_is_no_head
returns-clause-a_variable_is_no_head c = variable_head

pub returns-clause-a_disjunction_is_unsupported : goal.returns-clause-a_disjunction_is_unsupported
returns-clause-a_disjunction_is_unsupported c = disjunction

pub returns-clause-a_statement_needs_its_full_stop : goal.returns-clause-a_statement_needs_its_full_stop
returns-clause-a_statement_needs_its_full_stop c = no_full_stop
