-- The law of the single rules, as `split` has its statements and rules.
use Rattle.std.proofs.Common.{◌≡◌, ◌↔◌, sym, ap, subst, ◌∙◌, List}
use Rattle.lists.specs.Lists.{Each}
use Rattle.asp_syntax.specs.declared.tree.Statement.{Statement}
use Rattle.asp_syntax.specs.Trees.{IsWellFormedStatement}
use Rattle.asp_meaning.specs.Atoms.{Atom}
use Rattle.asp_meaning.specs.Programs.{IsAnswerSet}
use Rattle.asp_safety.specs.Binding.{IsSafe}
use Rattle.single_rules.specs.declared.single.SingleRule.{SingleRule}
use Rattle.single_rules.specs.AnswerSets.{IsSingleAnswerSet}
use Rattle.single_rules.specs.Laws.{KeepsAnswerSets}
use Rattle.single_rules.specs.Splitting.{singles_of}

-- the rules that were made have the answer sets of the program that was given
pub answer_sets_given : (P given : List Statement) (rules : List SingleRule) → KeepsAnswerSets → given ≡ P → rules ≡ singles_of given
    → Each IsSafe P → Each IsWellFormedStatement P → (I : List Atom) → IsAnswerSet P I ↔ IsSingleAnswerSet rules I
answer_sets_given P given rules law e is safe formed I =
    subst (λ rs. IsAnswerSet P I ↔ IsSingleAnswerSet rs I) (sym (is ∙ ap singles_of e)) (law P safe formed I)
