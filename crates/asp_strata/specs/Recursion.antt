-- Which predicates depend on which, and which aggregates are recursive (ASP-Core-2, "Restriction to aggregates").
-- A predicate is a sign, a name and a number of arguments: `p(1)`, `p(1,2)` and `-p(1)` have three.
use Rattle.std.specs.Prelude.{◌≡◌, ◌⊎◌, ℕ, List, [], ◌∷◌, ◌++◌, map, length, if◌then◌else◌}
use Rattle.lists.specs.Lists.{◌∈◌, Each, concat}
use Rattle.asp_syntax.specs.declared.tree.Atom as syntax
use Rattle.asp_syntax.specs.declared.tree.Literal.{Literal}
use Rattle.asp_syntax.specs.declared.tree.Literal.TheVariants as literal
use Rattle.asp_syntax.specs.declared.tree.Element.{Element}
use Rattle.asp_syntax.specs.declared.tree.Item.{Item}
use Rattle.asp_syntax.specs.declared.tree.Item.TheVariants as item
use Rattle.asp_syntax.specs.declared.tree.ChoiceElement.{ChoiceElement}
use Rattle.asp_syntax.specs.declared.tree.Head.{Head}
use Rattle.asp_syntax.specs.declared.tree.Head.TheVariants as head
use Rattle.asp_syntax.specs.declared.tree.Statement.{Statement}
use Rattle.asp_strata.specs.declared.predicate.Predicate.{Predicate}

-- how a fault writes a predicate: `-` before a negated one
abbrev pub written : Predicate → List ℕ
written p = if p.negated then 45 ∷ p.name else p.name

abbrev pub predicate_of : syntax.Atom → Predicate
predicate_of a = record { negated = a.negated; name = a.name; arity = length a.args }

-- ---- the predicates in the parts of a statement, from the left

abbrev pub literal_predicates : Literal → List Predicate
literal_predicates (literal.Positive a) = predicate_of a ∷ []
literal_predicates (literal.Negative a) = predicate_of a ∷ []
literal_predicates (literal.Compare op l r) = []

abbrev pub condition_predicates : List Literal → List Predicate
condition_predicates ls = concat (map literal_predicates ls)

-- an element's predicates are those of its condition: its tuple has terms alone
abbrev pub element_of : Element → List Predicate
element_of e = condition_predicates e.condition

-- those of an item that stand in elements of an aggregate
abbrev pub item_element_predicates : Item → List Predicate
item_element_predicates (item.Plain l) = []
item_element_predicates (item.Aggregate denied g) = concat (map element_of g.elements)

-- those of an item that don't
abbrev pub item_predicates : Item → List Predicate
item_predicates (item.Plain l) = literal_predicates l
item_predicates (item.Aggregate denied g) = []

-- the predicates in the elements of the statement's aggregates
abbrev pub element_predicates : Statement → List Predicate
element_predicates s = concat (map item_element_predicates s.body)

-- the predicates of the statement's body outside aggregates
abbrev pub body_predicates : Statement → List Predicate
body_predicates s = concat (map item_predicates s.body)

abbrev pub choice_predicate : ChoiceElement → Predicate
choice_predicate e = predicate_of e.atom

abbrev pub choice_condition : ChoiceElement → List Predicate
choice_condition e = condition_predicates e.condition

-- the head predicates of a statement; a constraint has none
abbrev pub head_predicates : Head → List Predicate
head_predicates head.Absent = []
head_predicates (head.Single a) = predicate_of a ∷ []
head_predicates (head.Choice left elements right) = map choice_predicate elements

-- the predicates in the conditions of choice elements
abbrev pub condition_of_head : Head → List Predicate
condition_of_head head.Absent = []
condition_of_head (head.Single a) = []
condition_of_head (head.Choice left elements right) = concat (map choice_condition elements)

-- what the head predicates of a statement depend on at once
abbrev pub needed_predicates : Statement → List Predicate
needed_predicates s = condition_of_head s.head ++ (body_predicates s ++ element_predicates s)

-- all predicates of a statement
abbrev pub statement_predicates : Statement → List Predicate
statement_predicates s = head_predicates s.head ++ needed_predicates s

-- the predicates that occur in the program
abbrev pub occurring : List Statement → List Predicate
occurring P = concat (map statement_predicates P)

-- ---- depending

-- p depends on q in the program: at once, through a statement, or by way of another predicate
pub data DependsOn (P : List Statement) : Predicate → Predicate → Type 0 where
  at_once : (p q : Predicate) (s : Statement) → s ∈ P → p ∈ head_predicates s.head → q ∈ needed_predicates s → DependsOn P p q
  carried_on : (p q r : Predicate) → DependsOn P p q → DependsOn P q r → DependsOn P p r

-- p is a head predicate of the statement, or depends on one
abbrev pub DependsOnHead : List Statement → Statement → Predicate → Type 0
DependsOnHead P s p = (h : Predicate) × (h ∈ head_predicates s.head) × ((p ≡ h) ⊎ DependsOn P p h)

-- no aggregate of the statement is recursive: no predicate in its elements depends on the head
abbrev pub HasNoRecursion : List Statement → Statement → Type 0
HasNoRecursion P s = Each (λ p. ¬ DependsOnHead P s p) (element_predicates s)
