use Rattle.journal_theory.proofs.laws.refusals.Goals as goal
use Rattle.journal_theory.proofs.Learning.{closed_is_not_learned, unimplied_is_not_learned}
use Rattle.journal_theory.proofs.Wide.{wide_is_asked, decisions_follow_wide}
use Rattle.journal_theory.proofs.LawProofs.{heads_stay_open, closed_is_no_proof, must_be_is_not_shown, back_restores, must_be_again, facts_are_not_covered, no_rule_is_left_out}

pub returns-clause-heads_stay_open : goal.returns-clause-heads_stay_open
returns-clause-heads_stay_open g c = heads_stay_open

pub returns-clause-closed_is_no_proof : goal.returns-clause-closed_is_no_proof
returns-clause-closed_is_no_proof g c = closed_is_no_proof

pub returns-clause-must_be_is_not_shown : goal.returns-clause-must_be_is_not_shown
returns-clause-must_be_is_not_shown g c = must_be_is_not_shown

pub returns-clause-back_restores : goal.returns-clause-back_restores
returns-clause-back_restores g c = back_restores

pub returns-clause-must_be_again : goal.returns-clause-must_be_again
returns-clause-must_be_again g c = must_be_again

pub returns-clause-facts_are_not_covered : goal.returns-clause-facts_are_not_covered
returns-clause-facts_are_not_covered g c = facts_are_not_covered

pub returns-clause-closed_is_not_learned : goal.returns-clause-closed_is_not_learned
returns-clause-closed_is_not_learned g c = closed_is_not_learned

pub returns-clause-unimplied_is_not_learned : goal.returns-clause-unimplied_is_not_learned
returns-clause-unimplied_is_not_learned g c = unimplied_is_not_learned

pub returns-clause-wide_is_asked : goal.returns-clause-wide_is_asked
returns-clause-wide_is_asked g c = wide_is_asked

pub returns-clause-no_rule_is_left_out : goal.returns-clause-no_rule_is_left_out
returns-clause-no_rule_is_left_out g c = no_rule_is_left_out

pub returns-clause-decisions_follow_wide : goal.returns-clause-decisions_follow_wide
returns-clause-decisions_follow_wide g c = decisions_follow_wide
