use Rattle.asp_laws.proofs.instances_are_told_by_global_variables.Goals as goal
use Rattle.asp_laws.proofs.Globals.{only_global_variables_matter}

pub returns : goal.returns
returns c = record { only_global_variables_matter = only_global_variables_matter }
