use Rattle.asp_laws.proofs.a_set_has_exactly_one_line.Goals as goal
use Rattle.asp_laws.proofs.Written.{each_kind_is_written, a_line_is_written}
use Rattle.asp_laws.proofs.Numerals.{integers_have_their_own_text}
use Rattle.asp_meaning.proofs.AtomOrder.{atom_cmp_total, atom_same}
use Rattle.asp_laws.proofs.Lines.{a_set_has_a_line, a_set_has_one_line}

pub returns-clause-the_order_of_atoms_is_total : goal.returns-clause-the_order_of_atoms_is_total
returns-clause-the_order_of_atoms_is_total c = atom_cmp_total

pub returns-clause-atoms_that_stand_level_are_the_same : goal.returns-clause-atoms_that_stand_level_are_the_same
returns-clause-atoms_that_stand_level_are_the_same c = atom_same

pub returns-clause-a_set_has_a_line : goal.returns-clause-a_set_has_a_line
returns-clause-a_set_has_a_line c = a_set_has_a_line

pub returns-clause-a_set_has_one_line : goal.returns-clause-a_set_has_one_line
returns-clause-a_set_has_one_line c = a_set_has_one_line

pub returns-clause-each_kind_is_written : goal.returns-clause-each_kind_is_written
returns-clause-each_kind_is_written c = each_kind_is_written

pub returns-clause-a_line_is_written : goal.returns-clause-a_line_is_written
returns-clause-a_line_is_written c = a_line_is_written

pub returns-clause-integers_of_any_size_have_their_own_text : goal.returns-clause-integers_of_any_size_have_their_own_text
returns-clause-integers_of_any_size_have_their_own_text c = integers_have_their_own_text
