use Rattle.asp_grammar.proofs.what_may_go_on.Goals as goal
use Rattle.asp_grammar.proofs.StandingLemmas.{passed_viable, refused_none, tried, refused_breaks, breaks_refused, end_stops}

pub returns-clause-passed_tokens_begin_a_program : goal.returns-clause-passed_tokens_begin_a_program
returns-clause-passed_tokens_begin_a_program c = passed_viable

pub returns-clause-other_tokens_begin_none : goal.returns-clause-other_tokens_begin_none
returns-clause-other_tokens_begin_none c = refused_none

pub returns-clause-tokens_begin_a_program_or_none : goal.returns-clause-tokens_begin_a_program_or_none
returns-clause-tokens_begin_a_program_or_none c = tried

pub returns-clause-a_refused_token_breaks : goal.returns-clause-a_refused_token_breaks
returns-clause-a_refused_token_breaks c = refused_breaks

pub returns-clause-a_token_that_breaks_is_refused : goal.returns-clause-a_token_that_breaks_is_refused
returns-clause-a_token_that_breaks_is_refused c = breaks_refused

pub returns-clause-the_end_inside_a_statement_stops : goal.returns-clause-the_end_inside_a_statement_stops
returns-clause-the_end_inside_a_statement_stops c = end_stops
