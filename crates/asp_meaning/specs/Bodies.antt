-- When a body holds in a set of atoms (ASP-Core-2, "Satisfaction", and "Aggregate literals").
use Rattle.std.specs.Prelude.{◌≡◌, ℤ, pos, ◌+ℤ◌, true, false, List, [], ◌∷◌, map, length, Option, Some, None}
use Rattle.lists.specs.Lists.{◌∈◌, HasNoRepeats, Each, AtLeastOne}
use Rattle.asp_syntax.specs.declared.tree.Literal.{Literal}
use Rattle.asp_syntax.specs.declared.tree.Literal.TheVariants as literal
use Rattle.asp_syntax.specs.declared.tree.Guard.{Guard}
use Rattle.asp_syntax.specs.declared.tree.Element.{Element}
use Rattle.asp_syntax.specs.declared.tree.AggKind.{AggKind}
use Rattle.asp_syntax.specs.declared.tree.AggKind.TheVariants as kind
use Rattle.asp_syntax.specs.declared.tree.Aggregate.{Aggregate}
use Rattle.asp_syntax.specs.declared.tree.Item.{Item}
use Rattle.asp_syntax.specs.declared.tree.Item.TheVariants as item
use Rattle.asp_meaning.specs.declared.value.Value.{Value}
use Rattle.asp_meaning.specs.declared.value.Value.TheVariants as value
use Rattle.asp_meaning.specs.declared.value.Value.TheOpen as layer
use Rattle.asp_meaning.specs.declared.value.Value.TheViews.{out-Value}
use Rattle.asp_meaning.specs.Terms.{Variable, Substitution, eval, eval_all}
use Rattle.asp_meaning.specs.Orders.{value_cmp, passes}
use Rattle.asp_meaning.specs.Atoms.{Atom, Becomes}

-- a positive literal's atom is in the set; one under `not` isn't; a comparison is true. All terms have values.
abbrev pub LiteralHolds : Substitution → List Atom → Literal → Type 0
LiteralHolds s I (literal.Positive p) = (a : Atom) × Becomes s p a × (a ∈ I)
LiteralHolds s I (literal.Negative p) = (a : Atom) × Becomes s p a × (¬ (a ∈ I))
LiteralHolds s I (literal.Compare op l r) =
    (x : Value) × (y : Value) × (eval s l ≡ Some x) × (eval s r ≡ Some y) × (passes op (value_cmp x y) ≡ true)

-- t extends s: it agrees with s on the global variables
abbrev pub Extends : List Variable → Substitution → Substitution → Type 0
Extends globals s t = Each (λ v. t v ≡ s v) globals

-- the element gives the tuple under an extension of s under which all its terms have values and its condition holds
abbrev pub Gives : List Variable → Substitution → List Atom → List Value → Element → Type 0
Gives globals s I tuple e =
    (t : Substitution) × Extends globals s t × (eval_all t e.terms ≡ Some tuple) × Each (LiteralHolds t I) e.condition

-- the extent of an aggregate: the tuples that its elements give, each once
pub record IsExtent (globals : List Variable) (s : Substitution) (I : List Atom) (g : Aggregate) (tuples : List (List Value)) : Type 0 where
  pub once : HasNoRepeats tuples
  pub given : (tuple : List Value) → tuple ∈ tuples → AtLeastOne (Gives globals s I tuple) g.elements
  pub all_given : (tuple : List Value) → AtLeastOne (Gives globals s I tuple) g.elements → tuple ∈ tuples

-- what a tuple adds to a sum: its first member, where it is an integer
abbrev pub weight : List Value → ℤ
weight [] = pos 0
weight (x ∷ xs) = elim (out-Value x) [ layer.Int n ↦ n | _ ↦ pos 0 ]

abbrev pub sum_of : List ℤ → ℤ
sum_of [] = pos 0
sum_of (z ∷ zs) = z +ℤ sum_of zs

-- the total of an extent: how many tuples there are, or the sum of their weights
abbrev pub total : AggKind → List (List Value) → ℤ
total kind.Count tuples = pos (length tuples)
total kind.Sum tuples = sum_of (map weight tuples)

-- a guard on the left, which stands before the number, is true of it
abbrev pub LeftHolds : Substitution → ℤ → Option Guard → Type 0
LeftHolds s n None = Unit {0}
LeftHolds s n (Some g) = (x : Value) × (eval s g.term ≡ Some x) × (passes g.op (value_cmp x (value.Int n)) ≡ true)

-- a guard on the right, which stands after the number, is true of it
abbrev pub RightHolds : Substitution → ℤ → Option Guard → Type 0
RightHolds s n None = Unit {0}
RightHolds s n (Some g) = (x : Value) × (eval s g.term ≡ Some x) × (passes g.op (value_cmp (value.Int n) x) ≡ true)

-- all guards of the aggregate are true of the number
abbrev pub GuardsHold : Substitution → ℤ → Aggregate → Type 0
GuardsHold s n g = LeftHolds s n g.left × RightHolds s n g.right

-- an aggregate's guards are true of its total, or, under `not`, they aren't all true
abbrev pub ItemHolds : List Variable → Substitution → List Atom → Item → Type 0
ItemHolds globals s I (item.Plain l) = LiteralHolds s I l
ItemHolds globals s I (item.Aggregate false g) =
    (tuples : List (List Value)) × IsExtent globals s I g tuples × GuardsHold s (total g.kind tuples) g
ItemHolds globals s I (item.Aggregate true g) =
    (tuples : List (List Value)) × IsExtent globals s I g tuples × (¬ GuardsHold s (total g.kind tuples) g)
