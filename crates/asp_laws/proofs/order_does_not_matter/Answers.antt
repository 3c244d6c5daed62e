use Rattle.asp_laws.proofs.order_does_not_matter.Goals as goal
use Rattle.asp_laws.proofs.Moves.{order_of_statements, order_of_atoms}

pub returns-clause-order_of_statements_does_not_matter : goal.returns-clause-order_of_statements_does_not_matter
returns-clause-order_of_statements_does_not_matter c = order_of_statements

pub returns-clause-order_of_atoms_does_not_matter : goal.returns-clause-order_of_atoms_does_not_matter
returns-clause-order_of_atoms_does_not_matter c = order_of_atoms
