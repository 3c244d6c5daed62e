use Rattle.asp_grammar.proofs.nesting_is_counted_on_tokens.Goals as goal
use Rattle.asp_grammar.proofs.FaultLemmas.{nesting_more}
use Rattle.asp_grammar.proofs.NestingLemmas.{parentheses_count, operators_count, group_ends, separator_ends}

pub returns-clause-nesting_rises_by_one : goal.returns-clause-nesting_rises_by_one
returns-clause-nesting_rises_by_one c = nesting_more

pub returns-clause-each_parenthesis_counts : goal.returns-clause-each_parenthesis_counts
returns-clause-each_parenthesis_counts c = parentheses_count

pub returns-clause-each_operator_counts : goal.returns-clause-each_operator_counts
returns-clause-each_operator_counts c = operators_count

pub returns-clause-a_group_ends : goal.returns-clause-a_group_ends
returns-clause-a_group_ends c = group_ends

pub returns-clause-a_separator_ends_a_chain : goal.returns-clause-a_separator_ends_a_chain
returns-clause-a_separator_ends_a_chain c = separator_ends
