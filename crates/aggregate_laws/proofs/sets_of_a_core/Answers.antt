use Rattle.aggregate_laws.proofs.sets_of_a_core.Goals as goal
use Rattle.aggregate_laws.proofs.CoreSets.{are_core_rules, of_core}
use Rattle.aggregate_laws.proofs.CoreMembers.{sets_of_the_rules_are_core_sets}

pub returns-clause-core_form_gives_rules : goal.returns-clause-core_form_gives_rules
returns-clause-core_form_gives_rules c = are_core_rules

pub returns-clause-core_sets_are_of_the_rules : goal.returns-clause-core_sets_are_of_the_rules
returns-clause-core_sets_are_of_the_rules c = of_core

pub returns-clause-sets_of_the_rules_are_core_sets : goal.returns-clause-sets_of_the_rules_are_core_sets
returns-clause-sets_of_the_rules_are_core_sets c = sets_of_the_rules_are_core_sets
