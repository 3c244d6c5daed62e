use Rattle.rewriting.proofs.ToCore.{core_sets_to}
use Rattle.rewriting.proofs.FromCore.{core_sets_back, users_determine}
use Rattle.rewriting.proofs.core_rules_keep_answer_sets.Goals as goal

pub returns-clause-answer_sets : goal.returns-clause-answer_sets
returns-clause-answer_sets c = λ rules single plain I once. (core_sets_to rules I single.heads plain, core_sets_back rules I single.heads plain once)

pub returns-clause-determined : goal.returns-clause-determined
returns-clause-determined c = λ rules single plain. users_determine rules
