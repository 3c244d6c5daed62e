-- Answer sets by the reduct. (Gelfond and Lifschitz, "The stable model semantics for logic programming", 1988; for choices
-- Simons, Niemelä and Soininen, "Extending and implementing the stable model semantics", 2002.)
use Rattle.std.specs.Prelude.{List}
use Rattle.lists.specs.Lists.{◌∈◌, HasNoRepeats, Each, AtLeastOne}
use Rattle.asp_syntax.specs.declared.tree.Literal.{Literal}
use Rattle.asp_syntax.specs.declared.tree.Literal.TheVariants as literal
use Rattle.asp_syntax.specs.declared.tree.Item.{Item}
use Rattle.asp_syntax.specs.declared.tree.Item.TheVariants as item
use Rattle.asp_syntax.specs.declared.tree.Head.{Head}
use Rattle.asp_syntax.specs.declared.tree.Head.TheVariants as head
use Rattle.asp_syntax.specs.declared.tree.Statement.{Statement}
use Rattle.asp_meaning.specs.Terms.{Variable, Substitution}
use Rattle.asp_meaning.specs.Variables.{global_variables}
use Rattle.asp_meaning.specs.Atoms.{Atom, Becomes, strong_negation}
use Rattle.asp_meaning.specs.Bodies.{LiteralHolds, ItemHolds, Extends}
use Rattle.asp_meaning.specs.Programs.{IsInstance, BodyHolds, Rests, ItemRests, HeadIsMet}

-- the reduct asks at once whether `not` and a comparison are true in I; a positive literal stays in the rule
abbrev pub LiteralIsKept : Substitution → List Atom → Literal → Type 0
LiteralIsKept s I (literal.Positive p) = Unit {0}
LiteralIsKept s I (literal.Negative p) = LiteralHolds s I (literal.Negative p)
LiteralIsKept s I (literal.Compare op l r) = LiteralHolds s I (literal.Compare op l r)

-- and whether an aggregate is true in I
abbrev pub ItemIsKept : List Variable → Substitution → List Atom → Item → Type 0
ItemIsKept globals s I (item.Plain l) = LiteralIsKept s I l
ItemIsKept globals s I (item.Aggregate denied g) = ItemHolds globals s I (item.Aggregate denied g)

-- the reduct has a rule for the atom; for a choice only where the atom is in I, with the element's condition in the rule's body
abbrev pub HeadIsKept : List Variable → Substitution → List Atom → List Atom → Atom → Head → Type 0
HeadIsKept globals s I given a head.Absent = ⊥
HeadIsKept globals s I given a (head.Single p) = Becomes s p a
HeadIsKept globals s I given a (head.Choice left elements right) =
    (t : Substitution) × (a ∈ I)
    × AtLeastOne (λ e. Extends globals s t × Becomes t e.atom a × Each (LiteralIsKept t I) e.condition × Each (Rests t given) e.condition) elements

-- the atom follows from the reduct of P in I: a rule of it gives the atom from others that follow
pub data Follows (P : List Statement) (I : List Atom) : Atom → Type 0 where
  by : {a : Atom} (r : Statement) → r ∈ P → (s : Substitution) → IsInstance r s → (given : List Atom) → ((b : Atom) → b ∈ given → Follows P I b)
      → Each (ItemIsKept (global_variables r) s I) r.body → Each (ItemRests s given) r.body → HeadIsKept (global_variables r) s I given a r.head
      → Follows P I a

-- no constraint is broken, and the bounds of choices are true
abbrev pub HeadIsAllowed : Statement → Substitution → List Atom → Head → Type 0
HeadIsAllowed r s I head.Absent = ⊥
HeadIsAllowed r s I (head.Single p) = Unit {0}
HeadIsAllowed r s I (head.Choice left elements right) = HeadIsMet r s I (head.Choice left elements right)

-- the set has what follows from its own reduct, and nothing else
pub record IsStable (P : List Statement) (I : List Atom) : Type 0 where
  pub set : HasNoRepeats I
  pub follows : (a : Atom) → a ∈ I → Follows P I a
  pub no_more : (a : Atom) → Follows P I a → a ∈ I
  pub allowed : (r : Statement) → r ∈ P → (s : Substitution) → IsInstance r s → BodyHolds r s I → HeadIsAllowed r s I r.head
  pub consistent : (a : Atom) → a ∈ I → ¬ (strong_negation a ∈ I)

-- J has each atom that a rule of the reduct of P in I gives from atoms of J
abbrev pub IsClosedUnderReduct : List Statement → List Atom → List Atom → Type 0
IsClosedUnderReduct P I J =
    (r : Statement) → r ∈ P → (s : Substitution) → IsInstance r s → (a : Atom) → Each (ItemIsKept (global_variables r) s I) r.body
    → Each (ItemRests s J) r.body → HeadIsKept (global_variables r) s I J a r.head → a ∈ J
