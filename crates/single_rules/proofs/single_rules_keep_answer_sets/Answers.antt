use Rattle.lists.proofs.ListLemmas.{Each-at, Each-from}
use Rattle.asp_syntax.specs.Trees.{IsWellFormedStatement}
use Rattle.asp_safety.specs.Binding.{IsSafe}
use Rattle.single_rules.proofs.AnswerSetLemmas.{BoundsAreKept, same_answer_sets}
use Rattle.single_rules.proofs.Chosen.{bounds_are_kept}
use Rattle.single_rules.proofs.single_rules_keep_answer_sets.Goals as goal

pub returns : goal.returns
returns c = λ P safe formed I. same_answer_sets P safe I (λ set. Each-from (BoundsAreKept I) P (λ x k.
    bounds_are_kept I set x (Each-at IsSafe P x safe k) (Each-at IsWellFormedStatement P x formed k)))
