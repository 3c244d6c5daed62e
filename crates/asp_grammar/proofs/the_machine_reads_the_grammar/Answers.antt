use Rattle.asp_grammar.proofs.the_machine_reads_the_grammar.Goals as goal
use Rattle.asp_grammar.proofs.StandingLemmas.{reads_just, step_keeps, completed, signs_told}

pub returns-clause-the_machine_reads_just_the_programs : goal.returns-clause-the_machine_reads_just_the_programs
returns-clause-the_machine_reads_just_the_programs c = reads_just

pub returns-clause-a_step_keeps_what_may_come : goal.returns-clause-a_step_keeps_what_may_come
returns-clause-a_step_keeps_what_may_come c = step_keeps

pub returns-clause-each_state_can_be_completed : goal.returns-clause-each_state_can_be_completed
returns-clause-each_state_can_be_completed c = completed

pub returns-clause-the_machine_knows_unary_minuses : goal.returns-clause-the_machine_knows_unary_minuses
returns-clause-the_machine_knows_unary_minuses c = signs_told
