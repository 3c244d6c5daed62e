-- A body without aggregates, taken apart.
use Rattle.std.specs.Prelude.{List, [], ◌∷◌, map}
use Rattle.lists.specs.Lists.{Each, concat}
use Rattle.asp_syntax.specs.declared.tree.CompareOp.{CompareOp}
use Rattle.asp_syntax.specs.declared.tree.Term.{Term}
use Rattle.asp_syntax.specs.declared.tree.Atom as syntax
use Rattle.asp_syntax.specs.declared.tree.Literal.{Literal}
use Rattle.asp_syntax.specs.declared.tree.Literal.TheVariants as literal
use Rattle.asp_syntax.specs.declared.tree.Item.{Item}
use Rattle.asp_syntax.specs.declared.tree.Item.TheVariants as item
use Rattle.single_rules.specs.declared.single.SingleRule.{SingleRule}

abbrev pub IsLiteral : Item → Type 0
IsLiteral (item.Plain l) = Unit {0}
IsLiteral (item.Aggregate denied g) = ⊥

-- no aggregate stands in the rule
abbrev pub HasNoAggregate : SingleRule → Type 0
HasNoAggregate r = Each IsLiteral r.body

pub record Comparison : Type 0 where
  pub op : CompareOp
  pub left : Term
  pub right : Term

abbrev pub literal_positives : Literal → List syntax.Atom
literal_positives (literal.Positive a) = a ∷ []
literal_positives _ = []

abbrev pub literal_negatives : Literal → List syntax.Atom
literal_negatives (literal.Negative a) = a ∷ []
literal_negatives _ = []

abbrev pub literal_comparisons : Literal → List Comparison
literal_comparisons (literal.Compare op l r) = record { op = op; left = l; right = r } ∷ []
literal_comparisons _ = []

-- what the function gives of each literal of a body
abbrev pub of_item : {A : Type 0} → (Literal → List A) → Item → List A
of_item f (item.Plain l) = f l
of_item f (item.Aggregate denied g) = []

-- the atoms of the positive literals, in order
abbrev pub positives : List Item → List syntax.Atom
positives body = concat (map (of_item literal_positives) body)

-- the atoms under `not`
abbrev pub negatives : List Item → List syntax.Atom
negatives body = concat (map (of_item literal_negatives) body)

abbrev pub comparisons : List Item → List Comparison
comparisons body = concat (map (of_item literal_comparisons) body)
