use Rattle.single_rules.proofs.KeptPromises.{are_single_rules}
use Rattle.single_rules.proofs.KeptNames.{names_kept}
use Rattle.single_rules.proofs.single_rules_are_sound.Goals as goal

pub returns-clause-single : goal.returns-clause-single
returns-clause-single c = are_single_rules

pub returns-clause-names : goal.returns-clause-names
returns-clause-names c = names_kept
