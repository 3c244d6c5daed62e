use Rattle.aggregate_laws.proofs.totals_in_bodies.Goals as goal
use Rattle.aggregate_laws.proofs.Raising.{answer_sets_become_core_sets}
use Rattle.aggregate_laws.proofs.ToTotals.{core_sets_become_answer_sets}
use Rattle.aggregate_laws.proofs.OnlyOne.{user_atoms_determine_sets}

pub returns-clause-answer_sets_become_core_sets : goal.returns-clause-answer_sets_become_core_sets
returns-clause-answer_sets_become_core_sets g c = answer_sets_become_core_sets

pub returns-clause-core_sets_become_answer_sets : goal.returns-clause-core_sets_become_answer_sets
returns-clause-core_sets_become_answer_sets g c = core_sets_become_answer_sets

pub returns-clause-user_atoms_determine_sets : goal.returns-clause-user_atoms_determine_sets
returns-clause-user_atoms_determine_sets g c = user_atoms_determine_sets
