use Rattle.std.proofs.Common.{◌≡◌, ◌↔◌, sym, ap, subst, ◌∙◌, List, [], map}
use Rattle.single_rules.specs.declared.single.SingleRule.{SingleRule}
use Rattle.core_rules.specs.declared.rules.CoreRule.{CoreRule}
use Rattle.core_rules.specs.declared.rules.CoreAggregate.{CoreAggregate}
use Rattle.core_rules.specs.CoreForm.{IsCoreForm}
use Rattle.core_rules.specs.Names.{IsNamedCore}
use Rattle.core_meaning.specs.AnswerSets.{HasCoreSets, AreDetermined}
use Rattle.single_rules.specs.AnswerSets.{IsSingleAnswerSet}
use Rattle.rewriting.specs.CoreRules.{core_rule_of, core_of}
use Rattle.aggregate_rewrite.proofs.rules.rewrite.Goals as goal

-- the core that was built is that of the rules
built : (rules : List SingleRule) (done : List CoreRule) (none : List CoreAggregate) → done ≡ map core_rule_of rules → none ≡ [] → core_of rules ≡ record { rules = done; aggregates = none }
built rules done none is empty = λ i. record { rules = sym is i; aggregates = sym empty i }

pub returns-clause-form : goal.returns-clause-form
returns-clause-form c =
    let is = built c.args.rules c.in_ok-rules.rules c.new.result (c.in_ok-rules.ensures ∙ ap (map core_rule_of) c.as_slice.ensures) c.new.ensures in
    subst IsCoreForm is (c.core_rules_have_core_form.ensures.form c.args.rules c.requires.single c.requires.built)

pub returns-clause-names : goal.returns-clause-names
returns-clause-names c =
    let is = built c.args.rules c.in_ok-rules.rules c.new.result (c.in_ok-rules.ensures ∙ ap (map core_rule_of) c.as_slice.ensures) c.new.ensures in
    subst IsNamedCore is (c.core_rules_have_core_form.ensures.names c.args.rules c.requires.well_formed c.requires.built)

pub returns-clause-answer_sets : goal.returns-clause-answer_sets
returns-clause-answer_sets c = λ I once.
    let is = built c.args.rules c.in_ok-rules.rules c.new.result (c.in_ok-rules.ensures ∙ ap (map core_rule_of) c.as_slice.ensures) c.new.ensures in
    subst (λ core. IsSingleAnswerSet c.args.rules I ↔ HasCoreSets core I) is (c.core_rules_keep_answer_sets.ensures.answer_sets c.args.rules c.requires.single c.requires.built I once)

pub returns-clause-determined : goal.returns-clause-determined
returns-clause-determined c =
    let is = built c.args.rules c.in_ok-rules.rules c.new.result (c.in_ok-rules.ensures ∙ ap (map core_rule_of) c.as_slice.ensures) c.new.ensures in
    subst AreDetermined is (c.core_rules_keep_answer_sets.ensures.determined c.args.rules c.requires.single c.requires.built)
