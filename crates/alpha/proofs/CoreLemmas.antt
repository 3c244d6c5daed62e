-- What was split and rewritten of a built program.
use Rattle.std.proofs.Common.{◌≡◌, sym, ap, subst, ◌∙◌, List}
use Rattle.std.specs.Prelude.{◌↔◌, None}
use Rattle.lists.specs.Lists.{Each, HasNoRepeats}
use Rattle.asp_syntax.specs.declared.tree.Statement.{Statement}
use Rattle.asp_meaning.specs.Atoms.{Atom}
use Rattle.asp_meaning.specs.Programs.{IsAnswerSet}
use Rattle.core_rules.specs.declared.rules.Core.{Core}
use Rattle.core_rules.specs.CoreForm.{IsCoreForm}
use Rattle.core_rules.specs.Names.{IsNamedCore}
use Rattle.core_meaning.specs.AnswerSets.{HasCoreSets}
use Rattle.single_rules.specs.declared.single.SingleRule.{SingleRule}
use Rattle.single_rules.specs.AnswerSets.{IsSingleAnswerSet}
use Rattle.single_rules.specs.Splitting.{singles_of}
use Rattle.rewriting.specs.Parts.{HasNoAggregate}
use Rattle.rewriting.specs.CoreRules.{core_of}
use Rattle.search_rules.specs.Stage.{IsSearchable}
use Rattle.alpha.specs.Built.{unbuilt}
use Rattle.alpha.specs.Journals.{core_for}
use Rattle.alpha.proofs.BuiltLemmas.{built_no_aggregates}

module _ (P given : List Statement) (kept : given ≡ P) (built : unbuilt P ≡ None) where
  module _ (rules : List SingleRule) (split : rules ≡ singles_of given) where
    singles : rules ≡ singles_of P
    singles = split ∙ ap singles_of kept

    -- and its single rules rewritten
    pub can_rewrite : Each HasNoAggregate rules
    can_rewrite = subst (Each HasNoAggregate) (sym singles) (built_no_aggregates P built)

    module _ (core : Core) (rewritten : core ≡ core_of rules) where
      -- they give the core of the program
      pub its_core : core ≡ core_for P
      its_core = rewritten ∙ ap core_of singles

      -- which can be searched
      pub its_core_is_searchable : IsCoreForm core → IsNamedCore core → IsSearchable core
      its_core_is_searchable form names = record { form = form; names = names; no_aggregates = ap (λ (k : Core). k.aggregates) its_core }

      -- and has its answer sets
      pub its_answer_sets :
          ((I : List Atom) → IsAnswerSet given I ↔ IsSingleAnswerSet rules I) → ((I : List Atom) → HasNoRepeats I → IsSingleAnswerSet rules I ↔ HasCoreSets core I)
          → (I : List Atom) → HasNoRepeats I → IsAnswerSet P I ↔ HasCoreSets (core_for P) I
      its_answer_sets first second I once = (
        (λ h. subst (λ k. HasCoreSets k I) its_core ((second I once).0 ((first I).0 (subst (λ Q. IsAnswerSet Q I) (sym kept) h)))),
        (λ h. subst (λ Q. IsAnswerSet Q I) kept ((first I).1 ((second I once).1 (subst (λ k. HasCoreSets k I) (sym its_core) h)))),
      )
