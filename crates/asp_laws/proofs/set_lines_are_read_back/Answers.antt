use Rattle.asp_laws.proofs.set_lines_are_read_back.Goals as goal
use Rattle.asp_laws.proofs.Output.{a_line_ends, no_line, a_set_line_is_read_back}

pub returns-clause-a_line_ends_at_its_line_feed : goal.returns-clause-a_line_ends_at_its_line_feed
returns-clause-a_line_ends_at_its_line_feed c = a_line_ends

pub returns-clause-no_line_without_a_line_feed : goal.returns-clause-no_line_without_a_line_feed
returns-clause-no_line_without_a_line_feed c = no_line

pub returns-clause-a_set_line_is_read_back : goal.returns-clause-a_set_line_is_read_back
returns-clause-a_set_line_is_read_back c = a_set_line_is_read_back
