-- The laws of the rewriting of rules without aggregates. I is a set of atoms.
use Rattle.std.specs.Prelude.{◌↔◌, List}
use Rattle.lists.specs.Lists.{HasNoRepeats, Each}
use Rattle.core_rules.specs.CoreForm.{IsCoreForm}
use Rattle.core_rules.specs.Names.{IsNamedCore}
use Rattle.core_meaning.specs.AnswerSets.{HasCoreSets, AreDetermined}
use Rattle.asp_meaning.specs.Atoms.{Atom}
use Rattle.single_rules.specs.declared.single.SingleRule.{SingleRule}
use Rattle.single_rules.specs.SingleRules.{AreSingleRules, IsWellFormedRule}
use Rattle.single_rules.specs.AnswerSets.{IsSingleAnswerSet}
use Rattle.rewriting.specs.Parts.{HasNoAggregate}
use Rattle.rewriting.specs.CoreRules.{core_of}

-- I is an answer set exactly where for every numbering there is a core answer set with just the atoms of I under one that extends it
abbrev pub KeepsAnswerSets : Type 0
KeepsAnswerSets =
    (rules : List SingleRule) → AreSingleRules rules → Each HasNoAggregate rules
    → (I : List Atom) → HasNoRepeats I → IsSingleAnswerSet rules I ↔ HasCoreSets (core_of rules) I

-- the atoms of the program determine a core answer set under a numbering
abbrev pub IsDetermined : Type 0
IsDetermined = (rules : List SingleRule) → AreSingleRules rules → Each HasNoAggregate rules → AreDetermined (core_of rules)

abbrev pub HasCoreForm : Type 0
HasCoreForm = (rules : List SingleRule) → AreSingleRules rules → Each HasNoAggregate rules → IsCoreForm (core_of rules)

abbrev pub KeepsNames : Type 0
KeepsNames = (rules : List SingleRule) → Each IsWellFormedRule rules → Each HasNoAggregate rules → IsNamedCore (core_of rules)
