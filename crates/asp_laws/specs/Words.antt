-- Words that the laws use beside those of the definitions.
use Rattle.std.specs.Prelude.{List}
use Rattle.lists.specs.Lists.{◌∈◌, Each}
use Rattle.asp_syntax.specs.declared.tree.Literal.TheVariants as literal
use Rattle.asp_syntax.specs.declared.tree.Item.{Item}
use Rattle.asp_syntax.specs.declared.tree.Item.TheVariants as item
use Rattle.asp_syntax.specs.declared.tree.Head.{Head}
use Rattle.asp_syntax.specs.declared.tree.Head.TheVariants as head
use Rattle.asp_syntax.specs.declared.tree.Statement.{Statement}
use Rattle.asp_meaning.specs.Terms.{Substitution}
use Rattle.asp_meaning.specs.Atoms.{Atom, Becomes}
use Rattle.asp_meaning.specs.Programs.{LicensesFrom}

-- the item is a positive literal whose atom under the substitution is one of these
abbrev pub HasAtomIn : Substitution → List Atom → Item → Type 0
HasAtomIn s U (item.Plain (literal.Positive p)) = (a : Atom) × Becomes s p a × (a ∈ U)
HasAtomIn s U (item.Plain (literal.Negative p)) = ⊥
HasAtomIn s U (item.Plain (literal.Compare op l r)) = ⊥
HasAtomIn s U (item.Aggregate denied g) = ⊥

-- no instance licenses an atom of U in I from atoms outside U
abbrev pub IsUnfounded : List Statement → List Atom → List Atom → Type 0
IsUnfounded P I U =
    (r : Statement) → r ∈ P → (s : Substitution) (a : Atom) → a ∈ U → (earlier : List Atom) → LicensesFrom r s a I earlier
    → ¬ Each (λ b. ¬ (b ∈ U)) earlier

-- a positive literal or a comparison
abbrev pub IsPositiveItem : Item → Type 0
IsPositiveItem (item.Plain (literal.Positive p)) = Unit {0}
IsPositiveItem (item.Plain (literal.Negative p)) = ⊥
IsPositiveItem (item.Plain (literal.Compare op l r)) = Unit {0}
IsPositiveItem (item.Aggregate denied g) = ⊥

-- no head, or one atom
abbrev pub IsPlainHead : Head → Type 0
IsPlainHead head.Absent = Unit {0}
IsPlainHead (head.Single p) = Unit {0}
IsPlainHead (head.Choice left elements right) = ⊥

-- a fact, a rule or a constraint without choice, `not` and aggregates
pub record IsPositive (r : Statement) : Type 0 where
  pub head : IsPlainHead r.head
  pub body : Each IsPositiveItem r.body

-- any literal, and no aggregate
abbrev pub IsNormalItem : Item → Type 0
IsNormalItem (item.Plain l) = Unit {0}
IsNormalItem (item.Aggregate denied g) = ⊥

-- a fact, a rule or a constraint without choice and aggregates
pub record IsNormal (r : Statement) : Type 0 where
  pub head : IsPlainHead r.head
  pub body : Each IsNormalItem r.body
