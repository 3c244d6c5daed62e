-- What the single rules of a program come to. Each law is a type, and a function of `src/lib.rt` ensures it.
use Rattle.std.specs.Prelude.{◌≡◌, ◌↔◌, Bool, List, Option}
use Rattle.lists.specs.Lists.{◌∈◌, HasNoRepeats, Each}
use Rattle.asp_syntax.specs.declared.tree.Aggregate.{Aggregate}
use Rattle.asp_syntax.specs.declared.tree.Guard.{Guard}
use Rattle.asp_syntax.specs.declared.tree.Item.TheVariants as item
use Rattle.asp_syntax.specs.declared.tree.ChoiceElement.{ChoiceElement}
use Rattle.asp_syntax.specs.declared.tree.Head.TheVariants as head
use Rattle.asp_syntax.specs.declared.tree.Statement.{Statement}
use Rattle.asp_meaning.specs.declared.value.Value.{Value}
use Rattle.asp_meaning.specs.Terms.{Substitution}
use Rattle.asp_meaning.specs.Variables.{global_variables}
use Rattle.asp_meaning.specs.Atoms.{Atom}
use Rattle.asp_meaning.specs.Bodies.{IsExtent}
use Rattle.asp_meaning.specs.Programs.{IsInstance, BodyHolds, AreChosen, IsAnswerSet}
use Rattle.asp_syntax.specs.Trees.{IsWellFormedStatement}
use Rattle.asp_strata.specs.Recursion.{HasNoRecursion}
use Rattle.asp_safety.specs.Binding.{IsSafe}
use Rattle.single_rules.specs.SingleRules.{AreSingleRules, IsWellFormedRule}
use Rattle.single_rules.specs.AnswerSets.{IsSingleAnswerSet}
use Rattle.single_rules.specs.Splitting.{singles_of}

-- a set is an answer set of the program exactly where it is one of its single rules
abbrev pub KeepsAnswerSets : Type 0
KeepsAnswerSets =
    (P : List Statement) → Each IsSafe P → Each IsWellFormedStatement P → (I : List Atom) → IsAnswerSet P I
    ↔ IsSingleAnswerSet (singles_of P) I

-- only the constraints among them have no head, they are safe and have no recursive aggregate, and what has to be defined is bound
abbrev pub GivesSingleRules : Type 0
GivesSingleRules = (P : List Statement) → Each IsSafe P → Each (HasNoRecursion P) P → AreSingleRules (singles_of P)

-- they are well-formed where the program is
abbrev pub KeepsNames : Type 0
KeepsNames = (P : List Statement) → Each IsWellFormedStatement P → Each IsWellFormedRule (singles_of P)

-- each aggregate in the body of a safe statement has an extent, under every substitution and in every set
abbrev pub AggregatesHaveExtents : Type 0
AggregatesHaveExtents =
    (x : Statement) → IsSafe x → (denied : Bool) (g : Aggregate) → item.Aggregate denied g ∈ x.body → (s : Substitution) (I : List Atom)
    → (tuples : List (List Value)) × IsExtent (global_variables x) s I g tuples

-- and the atoms of a set that an instance of a safe choice licenses can be listed, so that their number is there
abbrev pub ChosenAtomsCanBeListed : Type 0
ChosenAtomsCanBeListed =
    (x : Statement) → IsSafe x → IsWellFormedStatement x → (left right : Option Guard) (elements : List ChoiceElement)
    → x.head ≡ head.Choice left elements right → (s : Substitution) (I : List Atom) → HasNoRepeats I → IsInstance x s → BodyHolds x s I
    → (chosen : List Atom) × AreChosen x s I chosen
