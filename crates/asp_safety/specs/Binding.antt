-- When the variables of a statement are bound, and when the statement is safe (ASP-Core-2, "Safety").
-- A variable is global where it stands outside aggregate and choice elements; all others are local to their element.
use Rattle.std.specs.Prelude.{◌≡◌, ◌⊎◌, false, List, [], ◌∷◌, ◌++◌, map, Option, Some, None}
use Rattle.lists.specs.Lists.{◌∈◌, Each, concat}
use Rattle.asp_syntax.specs.declared.tree.CompareOp.TheVariants.{Equal}
use Rattle.asp_syntax.specs.declared.tree.Term.{Term}
use Rattle.asp_syntax.specs.declared.tree.Term.TheVariants as tree
use Rattle.asp_syntax.specs.declared.tree.Term.TheOpen.{Term-F}
use Rattle.asp_syntax.specs.declared.tree.Term.TheOpen as term
use Rattle.asp_syntax.specs.declared.tree.Term.TheFolds.{fold-Term}
use Rattle.asp_syntax.specs.declared.tree.Atom as syntax
use Rattle.asp_syntax.specs.declared.tree.Literal.{Literal}
use Rattle.asp_syntax.specs.declared.tree.Literal.TheVariants as literal
use Rattle.asp_syntax.specs.declared.tree.Guard.{Guard}
use Rattle.asp_syntax.specs.declared.tree.Element.{Element}
use Rattle.asp_syntax.specs.declared.tree.Aggregate.{Aggregate}
use Rattle.asp_syntax.specs.declared.tree.Item.{Item}
use Rattle.asp_syntax.specs.declared.tree.Item.TheVariants as item
use Rattle.asp_syntax.specs.declared.tree.ChoiceElement.{ChoiceElement}
use Rattle.asp_syntax.specs.declared.tree.Head.{Head}
use Rattle.asp_syntax.specs.declared.tree.Head.TheVariants as head
use Rattle.asp_syntax.specs.declared.tree.Statement.{Statement}
use Rattle.asp_meaning.specs.Terms.{Variable, named, anonymous}
use Rattle.asp_meaning.specs.Variables.{variables, literal_terms, guard_terms, item_terms, global_variables}

-- ---- where variables stand

abbrev pub variables_of : List Term → List Variable
variables_of ts = concat (map variables ts)

abbrev pub literal_variables : Literal → List Variable
literal_variables l = variables_of (literal_terms l)

abbrev pub condition_variables : List Literal → List Variable
condition_variables ls = concat (map literal_variables ls)

abbrev pub element_variables : Element → List Variable
element_variables e = variables_of e.terms ++ condition_variables e.condition

-- the variables in the elements of an aggregate
abbrev pub aggregate_variables : Aggregate → List Variable
aggregate_variables g = concat (map element_variables g.elements)

-- the global variables of an item and of a body
abbrev pub item_variables : Item → List Variable
item_variables i = variables_of (item_terms i)

abbrev pub body_variables : List Item → List Variable
body_variables body = concat (map item_variables body)

abbrev pub outside_step : Term-F (List Variable) → List Variable
outside_step (term.Int n) = []
outside_step (term.Variable x) = named x ∷ []
outside_step (term.Anonymous k) = anonymous k ∷ []
outside_step (term.Symbol x) = []
outside_step (term.Text x) = []
outside_step (term.Fun f args) = concat args
outside_step (term.Minus t) = []
outside_step (term.Arith op l r) = []

-- the variables of a term that stand outside arithmetic
abbrev pub outside_arithmetic : Term → List Variable
outside_arithmetic = fold-Term (List Variable) outside_step

abbrev pub outside_of : List Term → List Variable
outside_of ts = concat (map outside_arithmetic ts)

-- the variable as a term
abbrev pub term_of : Variable → Term
term_of (named x) = tree.Variable x
term_of (anonymous k) = tree.Anonymous k

-- the literal is `v = t` or `t = v`
abbrev pub IsEquation : Literal → Variable → Term → Type 0
IsEquation l v t = (l ≡ literal.Compare Equal (term_of v) t) ⊎ (l ≡ literal.Compare Equal t (term_of v))

-- the guard, on either side, is that the number equals v
abbrev pub IsEqualTo : Option Guard → Variable → Type 0
IsEqualTo guard v = guard ≡ Some (record { op = Equal; term = term_of v })

-- the aggregate is `v = #agg` or `#agg = v`
abbrev pub IsNumberOf : Variable → Aggregate → Type 0
IsNumberOf v g = IsEqualTo g.left v ⊎ IsEqualTo g.right v

-- ---- being bound

-- the global variable v of the statement is bound
pub data IsBound (s : Statement) : Variable → Type 0 where
  in_atom : (v : Variable) (p : syntax.Atom) → item.Plain (literal.Positive p) ∈ s.body → v ∈ outside_of p.args → IsBound s v
  by_equation : (v : Variable) (t : Term) (l : Literal) → item.Plain l ∈ s.body → IsEquation l v t
      → ((w : Variable) → w ∈ variables t → IsBound s w) → IsBound s v
  by_aggregate : (v : Variable) (g : Aggregate) → item.Aggregate false g ∈ s.body → IsNumberOf v g
      → ((w : Variable) → w ∈ aggregate_variables g → w ∈ global_variables s → IsBound s w) → IsBound s v

-- v counts as bound in an element of the statement with this condition: it is global and bound, or local and bound there
pub data IsBoundInside (s : Statement) (condition : List Literal) : Variable → Type 0 where
  global : (v : Variable) → IsBound s v → IsBoundInside s condition v
  in_condition : (v : Variable) (p : syntax.Atom) → ¬ (v ∈ global_variables s) → literal.Positive p ∈ condition → v ∈ outside_of p.args
      → IsBoundInside s condition v
  by_equality : (v : Variable) (t : Term) (l : Literal) → ¬ (v ∈ global_variables s) → l ∈ condition → IsEquation l v t
      → ((w : Variable) → w ∈ variables t → IsBoundInside s condition w) → IsBoundInside s condition v

-- ---- occurrences, from left to right

-- an occurrence of a variable: outside elements, or in an element with this condition
pub record Occurrence : Type 0 where
  pub within : Option (List Literal)
  pub variable : Variable

abbrev pub occur : Option (List Literal) → List Variable → List Occurrence
occur within vs = map (λ v. record { within = within; variable = v }) vs

abbrev pub element_occurrences : Element → List Occurrence
element_occurrences e = occur (Some e.condition) (element_variables e)

abbrev pub choice_occurrences : ChoiceElement → List Occurrence
choice_occurrences e = occur (Some e.condition) (variables_of e.atom.args ++ condition_variables e.condition)

abbrev pub guard_occurrences : Option Guard → List Occurrence
guard_occurrences g = occur None (variables_of (guard_terms g))

abbrev pub item_occurrences : Item → List Occurrence
item_occurrences (item.Plain l) = occur None (literal_variables l)
item_occurrences (item.Aggregate denied g) =
    guard_occurrences g.left ++ (concat (map element_occurrences g.elements) ++ guard_occurrences g.right)

abbrev pub head_occurrences : Head → List Occurrence
head_occurrences head.Absent = []
head_occurrences (head.Single p) = occur None (variables_of p.args)
head_occurrences (head.Choice left elements right) =
    guard_occurrences left ++ (concat (map choice_occurrences elements) ++ guard_occurrences right)

-- the occurrences of variables in a statement, in the order of its text
abbrev pub occurrences : Statement → List Occurrence
occurrences s = head_occurrences s.head ++ concat (map item_occurrences s.body)

-- ---- safety

abbrev pub IsBoundAt : Statement → Option (List Literal) → Variable → Type 0
IsBoundAt s None v = IsBound s v
IsBoundAt s (Some condition) v = IsBoundInside s condition v

-- the variable is bound where it occurs
abbrev pub IsBoundThere : Statement → Occurrence → Type 0
IsBoundThere s o = IsBoundAt s o.within o.variable

-- all variables of the statement are bound
abbrev pub IsSafe : Statement → Type 0
IsSafe s = Each (IsBoundThere s) (occurrences s)
