use Rattle.asp_laws.proofs.lines_tell_their_sets.Goals as goal
use Rattle.asp_laws.proofs.Readable.{lines_tell_their_sets, one_line_for_the_same_set}
use Rattle.asp_laws.proofs.WholeLines.{lines_of_readable_atoms_are_whole}

pub returns-clause-lines_tell_their_sets : goal.returns-clause-lines_tell_their_sets
returns-clause-lines_tell_their_sets c = lines_tell_their_sets

pub returns-clause-one_line_for_the_same_set : goal.returns-clause-one_line_for_the_same_set
returns-clause-one_line_for_the_same_set c = one_line_for_the_same_set

pub returns-clause-lines_of_readable_atoms_are_whole : goal.returns-clause-lines_of_readable_atoms_are_whole
returns-clause-lines_of_readable_atoms_are_whole c = lines_of_readable_atoms_are_whole
