use Rattle.journal_theory.proofs.laws.search_laws.Goals as goal
use Rattle.journal_theory.proofs.Counting.{each_struck_is_answered, strikes_are_bounded, strikes_are_few}
use Rattle.journal_theory.proofs.Reasons.{each_entry_rests}
use Rattle.journal_theory.proofs.Keeping.{chosen_have_one_highest, kept_is_new}
use Rattle.journal_theory.proofs.Explaining.{justified_is_reason}
use Rattle.journal_theory.proofs.Above.{justified_is_new}
use Rattle.journal_theory.proofs.Openers.{highest_is_not_closed}
use Rattle.journal_theory.proofs.Highest.{one_highest_jumps}
use Rattle.journal_theory.proofs.Phases.{learned_is_new, kept_once, what_must_come_may}
use Rattle.journal_theory.proofs.FoundOnce.{found_is_new, found_are_answer_sets}
use Rattle.journal_theory.proofs.Since.{must_be_is_since_closed}
use Rattle.journal_theory.proofs.Missed.{none_is_missed}
use Rattle.journal_theory.proofs.LawProofs.{levels_are_told, values_follow, settled_is_all, closed_is_all, nogoods_are_sound, sound_stays, learned_is_sound, justified_is_sound, full_is_answer_set, shown_once, shown_is_not_listed}

pub returns-clause-values_follow : goal.returns-clause-values_follow
returns-clause-values_follow g c = values_follow

pub returns-clause-settled_is_all : goal.returns-clause-settled_is_all
returns-clause-settled_is_all g c = settled_is_all

pub returns-clause-closed_is_all : goal.returns-clause-closed_is_all
returns-clause-closed_is_all g c = closed_is_all

pub returns-clause-nogoods_are_sound : goal.returns-clause-nogoods_are_sound
returns-clause-nogoods_are_sound g c = nogoods_are_sound

pub returns-clause-sound_stays : goal.returns-clause-sound_stays
returns-clause-sound_stays g c = sound_stays

pub returns-clause-learned_is_sound : goal.returns-clause-learned_is_sound
returns-clause-learned_is_sound g c = learned_is_sound

pub returns-clause-full_is_answer_set : goal.returns-clause-full_is_answer_set
returns-clause-full_is_answer_set g c = full_is_answer_set

pub returns-clause-none_is_missed : goal.returns-clause-none_is_missed
returns-clause-none_is_missed g c = none_is_missed

pub returns-clause-shown_once : goal.returns-clause-shown_once
returns-clause-shown_once g c = shown_once

pub returns-clause-shown_is_not_listed : goal.returns-clause-shown_is_not_listed
returns-clause-shown_is_not_listed g c = shown_is_not_listed

pub returns-clause-learned_is_new : goal.returns-clause-learned_is_new
returns-clause-learned_is_new g c = learned_is_new

pub returns-clause-what_must_come_may : goal.returns-clause-what_must_come_may
returns-clause-what_must_come_may g c = what_must_come_may

pub returns-clause-found_is_new : goal.returns-clause-found_is_new
returns-clause-found_is_new g c = found_is_new

pub returns-clause-must_be_is_since_closed : goal.returns-clause-must_be_is_since_closed
returns-clause-must_be_is_since_closed g c = must_be_is_since_closed

pub returns-clause-levels_are_told : goal.returns-clause-levels_are_told
returns-clause-levels_are_told g c = levels_are_told

pub returns-clause-found_are_answer_sets : goal.returns-clause-found_are_answer_sets
returns-clause-found_are_answer_sets g c = found_are_answer_sets

pub returns-clause-justified_is_sound : goal.returns-clause-justified_is_sound
returns-clause-justified_is_sound g c = justified_is_sound

pub returns-clause-justified_is_new : goal.returns-clause-justified_is_new
returns-clause-justified_is_new g c = justified_is_new

pub returns-clause-kept_once : goal.returns-clause-kept_once
returns-clause-kept_once g c = kept_once

pub returns-clause-one_highest_jumps : goal.returns-clause-one_highest_jumps
returns-clause-one_highest_jumps g c = one_highest_jumps

pub returns-clause-each_struck_is_answered : goal.returns-clause-each_struck_is_answered
returns-clause-each_struck_is_answered g c = each_struck_is_answered

pub returns-clause-strikes_are_bounded : goal.returns-clause-strikes_are_bounded
returns-clause-strikes_are_bounded g c = strikes_are_bounded

pub returns-clause-each_entry_rests : goal.returns-clause-each_entry_rests
returns-clause-each_entry_rests g c = each_entry_rests

pub returns-clause-chosen_have_one_highest : goal.returns-clause-chosen_have_one_highest
returns-clause-chosen_have_one_highest g c = chosen_have_one_highest

pub returns-clause-kept_is_new : goal.returns-clause-kept_is_new
returns-clause-kept_is_new g c = kept_is_new

pub returns-clause-highest_is_not_closed : goal.returns-clause-highest_is_not_closed
returns-clause-highest_is_not_closed g c = highest_is_not_closed

pub returns-clause-justified_is_reason : goal.returns-clause-justified_is_reason
returns-clause-justified_is_reason g c = justified_is_reason

pub returns-clause-strikes_are_few : goal.returns-clause-strikes_are_few
returns-clause-strikes_are_few g c = strikes_are_few
