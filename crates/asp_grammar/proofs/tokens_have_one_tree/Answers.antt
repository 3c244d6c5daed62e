use Rattle.asp_grammar.proofs.tokens_have_one_tree.Goals as goal
use Rattle.asp_grammar.proofs.StandingLemmas.{one_tree, one_clause}

pub returns-clause-one_program : goal.returns-clause-one_program
returns-clause-one_program c = one_tree

pub returns-clause-one_statement : goal.returns-clause-one_statement
returns-clause-one_statement c = one_clause
