use Rattle.single_rules.proofs.Chosen.{chosen_list}
use Rattle.single_rules.proofs.ListedExtents.{safe_extent}
use Rattle.single_rules.proofs.safe_statements_count_finitely.Goals as goal

pub returns-clause-extents : goal.returns-clause-extents
returns-clause-extents c = safe_extent

pub returns-clause-chosen : goal.returns-clause-chosen
returns-clause-chosen c = λ x safe formed left right elements is s I set instance body. chosen_list x safe formed left right elements is s I instance body set
