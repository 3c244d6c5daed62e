-- Answer sets of a program with variables.
-- (Gelfond and Lifschitz, "The stable model semantics for logic programming", 1988, and "Classical negation in logic programs and
-- disjunctive databases", 1991; ASP-Core-2, "Answer sets" and "Choice rules". They speak of the reduct; here a set is founded
-- where its atoms can be listed so that each is licensed by atoms before it.)
use Rattle.std.specs.Prelude.{◌≡◌, ℤ, pos, List, [], ◌∷◌, length, Option, Some, None}
use Rattle.lists.specs.Lists.{◌∈◌, HasNoRepeats, Each, AtLeastOne, SameSet}
use Rattle.asp_syntax.specs.declared.tree.Term.{Term}
use Rattle.asp_syntax.specs.declared.tree.Literal.{Literal}
use Rattle.asp_syntax.specs.declared.tree.Literal.TheVariants as literal
use Rattle.asp_syntax.specs.declared.tree.Guard.{Guard}
use Rattle.asp_syntax.specs.declared.tree.ChoiceElement.{ChoiceElement}
use Rattle.asp_syntax.specs.declared.tree.Item.{Item}
use Rattle.asp_syntax.specs.declared.tree.Item.TheVariants as item
use Rattle.asp_syntax.specs.declared.tree.Head.{Head}
use Rattle.asp_syntax.specs.declared.tree.Head.TheVariants as head
use Rattle.asp_syntax.specs.declared.tree.Statement.{Statement}
use Rattle.asp_meaning.specs.declared.value.Value.{Value}
use Rattle.asp_meaning.specs.Terms.{Variable, Substitution, eval}
use Rattle.asp_meaning.specs.Variables.{global_terms, global_variables}
use Rattle.asp_meaning.specs.Atoms.{Atom, Becomes, strong_negation}
use Rattle.asp_meaning.specs.Bodies.{LiteralHolds, ItemHolds, Extends, LeftHolds, RightHolds}

-- ---- instances

abbrev pub HasValue : Substitution → Term → Type 0
HasValue s t = (x : Value) × (eval s t ≡ Some x)

-- an instance of a statement: a substitution under which each of its terms outside aggregate and choice elements has a value
abbrev pub IsInstance : Statement → Substitution → Type 0
IsInstance r s = Each (HasValue s) (global_terms r)

-- the body of the instance holds
abbrev pub BodyHolds : Statement → Substitution → List Atom → Type 0
BodyHolds r s I = Each (ItemHolds (global_variables r) s I) r.body

-- ---- which atoms an instance gives

-- the choice element gives the atom under this extension of s: its terms have values and its condition holds
abbrev pub Offers : List Variable → Substitution → List Atom → Atom → Substitution → ChoiceElement → Type 0
Offers globals s I a t e = Extends globals s t × Becomes t e.atom a × Each (LiteralHolds t I) e.condition

-- the literal, where it is positive, has its atom among these
abbrev pub Rests : Substitution → List Atom → Literal → Type 0
Rests s earlier (literal.Positive p) = (a : Atom) × Becomes s p a × (a ∈ earlier)
Rests s earlier (literal.Negative p) = Unit {0}
Rests s earlier (literal.Compare op l r) = Unit {0}

-- an aggregate rests on nothing, since it is not recursive
abbrev pub ItemRests : Substitution → List Atom → Item → Type 0
ItemRests s earlier (item.Plain l) = Rests s earlier l
ItemRests s earlier (item.Aggregate denied g) = Unit {0}

-- the head gives the atom in I; for a choice, the positive literals of the element's condition are among `earlier`
abbrev pub HeadGives : List Variable → Substitution → List Atom → List Atom → Atom → Head → Type 0
HeadGives globals s I earlier a head.Absent = ⊥
HeadGives globals s I earlier a (head.Single p) = Becomes s p a
HeadGives globals s I earlier a (head.Choice left elements right) =
    (t : Substitution) × AtLeastOne (λ e. Offers globals s I a t e × Each (Rests t earlier) e.condition) elements

-- the instance licenses the atom in I: its body holds and its head gives the atom; and what this rests on is among `earlier`
pub record LicensesFrom (r : Statement) (s : Substitution) (a : Atom) (I earlier : List Atom) : Type 0 where
  pub instance : IsInstance r s
  pub body : BodyHolds r s I
  pub head : HeadGives (global_variables r) s I earlier a r.head
  pub rests : Each (ItemRests s earlier) r.body

-- the instance licenses the atom in I. What holds in I rests on I, so nothing more is asked.
abbrev pub Licenses : Statement → Substitution → Atom → List Atom → Type 0
Licenses r s a I = LicensesFrom r s a I I

-- ---- closed

-- the atoms of I that the instance licenses, each once
pub record AreChosen (r : Statement) (s : Substitution) (I chosen : List Atom) : Type 0 where
  pub once : HasNoRepeats chosen
  pub sound : (a : Atom) → a ∈ chosen → (a ∈ I) × Licenses r s a I
  pub complete : (a : Atom) → a ∈ I → Licenses r s a I → a ∈ chosen

-- the bound, where there is one, is true of the number of these atoms
abbrev pub BoundHolds : Statement → Substitution → List Atom → (ℤ → Option Guard → Type 0) → Option Guard → Type 0
BoundHolds r s I Holds None = Unit {0}
BoundHolds r s I Holds (Some g) = (chosen : List Atom) × AreChosen r s I chosen × Holds (pos (length chosen)) (Some g)

-- what must follow where the body holds: nothing may, the head is in I, or the bounds are true
abbrev pub HeadIsMet : Statement → Substitution → List Atom → Head → Type 0
HeadIsMet r s I head.Absent = ⊥
HeadIsMet r s I (head.Single p) = (a : Atom) → Becomes s p a → a ∈ I
HeadIsMet r s I (head.Choice left elements right) = BoundHolds r s I (LeftHolds s) left × BoundHolds r s I (RightHolds s) right

-- nothing that must follow is missing, and no atom is in I beside its strong negation
pub record IsClosed (P : List Statement) (I : List Atom) : Type 0 where
  pub met : (r : Statement) → r ∈ P → (s : Substitution) → IsInstance r s → BodyHolds r s I → HeadIsMet r s I r.head
  pub consistent : (a : Atom) → a ∈ I → ¬ (strong_negation a ∈ I)

-- ---- founded

-- each atom is licensed in I by an instance that rests on the atoms after it: the newest atom comes first
abbrev pub IsFoundedList : List Statement → List Atom → List Atom → Type 0
IsFoundedList P I [] = Unit {0}
IsFoundedList P I (a ∷ earlier) =
    AtLeastOne (λ r. (s : Substitution) × LicensesFrom r s a I earlier) P × IsFoundedList P I earlier

-- the atoms of I can be listed without repeats so that each is licensed by an instance that rests on earlier ones
pub record IsFounded (P : List Statement) (I : List Atom) : Type 0 where
  pub order : List Atom
  pub once : HasNoRepeats order
  pub same : SameSet I order
  pub founded : IsFoundedList P I order

-- ---- answer sets

-- a finite set of atoms, as a list without repeats in any order, that is closed and founded
pub record IsAnswerSet (P : List Statement) (I : List Atom) : Type 0 where
  pub set : HasNoRepeats I
  pub closed : IsClosed P I
  pub founded : IsFounded P I
