use Rattle.asp_grammar.proofs.there_is_one_answer.Goals as goal
use Rattle.asp_grammar.proofs.FaultLemmas.{answer_comes, apart, fault_once, deep_large_apart}
use Rattle.asp_grammar.proofs.StandingLemmas.{viable_before, named_unsupported}

pub returns-clause-an_answer_comes : goal.returns-clause-an_answer_comes
returns-clause-an_answer_comes c = answer_comes

pub returns-clause-a_program_has_no_fault : goal.returns-clause-a_program_has_no_fault
returns-clause-a_program_has_no_fault c = apart

pub returns-clause-one_fault : goal.returns-clause-one_fault
returns-clause-one_fault c = fault_once

pub returns-clause-a_program_begins_before_the_first_fault : goal.returns-clause-a_program_begins_before_the_first_fault
returns-clause-a_program_begins_before_the_first_fault c = viable_before

pub returns-clause-a_named_construct_is_unsupported : goal.returns-clause-a_named_construct_is_unsupported
returns-clause-a_named_construct_is_unsupported c = named_unsupported

pub returns-clause-deep_and_large_never_meet : goal.returns-clause-deep_and_large_never_meet
returns-clause-deep_and_large_never_meet c = deep_large_apart
