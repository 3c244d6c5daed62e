use Rattle.nogood_store.proofs.Matched.{new_match, given_keeps, opened_keeps, jumped_keeps, explained_keeps, added_keeps, reserved_keeps, forgotten_keeps, marked_match, is_met}
use Rattle.nogood_store.proofs.laws.matching_laws.Goals as goal

pub returns-clause-new_match : goal.returns-clause-new_match
returns-clause-new_match c = new_match

pub returns-clause-given_keeps : goal.returns-clause-given_keeps
returns-clause-given_keeps c = given_keeps

pub returns-clause-opened_keeps : goal.returns-clause-opened_keeps
returns-clause-opened_keeps c = opened_keeps

pub returns-clause-jumped_keeps : goal.returns-clause-jumped_keeps
returns-clause-jumped_keeps c = jumped_keeps

pub returns-clause-explained_keeps : goal.returns-clause-explained_keeps
returns-clause-explained_keeps c = explained_keeps

pub returns-clause-added_keeps : goal.returns-clause-added_keeps
returns-clause-added_keeps c = added_keeps

pub returns-clause-reserved_keeps : goal.returns-clause-reserved_keeps
returns-clause-reserved_keeps c = reserved_keeps

pub returns-clause-forgotten_keeps : goal.returns-clause-forgotten_keeps
returns-clause-forgotten_keeps c = forgotten_keeps

pub returns-clause-marked_match : goal.returns-clause-marked_match
returns-clause-marked_match c = marked_match

pub returns-clause-is_met : goal.returns-clause-is_met
returns-clause-is_met c = is_met
