use Rattle.asp_laws.proofs.answer_sets_are_founded.Goals as goal
use Rattle.asp_laws.proofs.Foundations.{each_atom_is_licensed, unfounded_sets_are_out, self_support_is_no_foundation}
use Rattle.asp_laws.proofs.Small.{a_loop_has_the_empty_set, must_be_true_alone, must_be_true_in_a_loop}

pub returns-clause-each_atom_is_licensed : goal.returns-clause-each_atom_is_licensed
returns-clause-each_atom_is_licensed c = each_atom_is_licensed

pub returns-clause-unfounded_sets_are_out : goal.returns-clause-unfounded_sets_are_out
returns-clause-unfounded_sets_are_out c = unfounded_sets_are_out

pub returns-clause-self_support_is_no_foundation : goal.returns-clause-self_support_is_no_foundation
returns-clause-self_support_is_no_foundation c = self_support_is_no_foundation

pub returns-clause-a_loop_has_the_empty_set : goal.returns-clause-a_loop_has_the_empty_set
returns-clause-a_loop_has_the_empty_set c = a_loop_has_the_empty_set

pub returns-clause-must_be_true_alone_is_no_support : goal.returns-clause-must_be_true_alone_is_no_support
returns-clause-must_be_true_alone_is_no_support c = must_be_true_alone

pub returns-clause-must_be_true_in_a_loop_is_no_support : goal.returns-clause-must_be_true_in_a_loop_is_no_support
returns-clause-must_be_true_in_a_loop_is_no_support c = must_be_true_in_a_loop
