-- The clauses that a statement's literals and aggregates make for its variables.
use Rattle.std.specs.Prelude.{Bool, true, false, not, List, [], ◌∷◌, ◌++◌, map, filter, Option, Some, None}
use Rattle.std.specs.List.{list_any}
use Rattle.lists.specs.Lists.{concat}
use Rattle.asp_syntax.specs.declared.tree.CompareOp.{CompareOp}
use Rattle.asp_syntax.specs.declared.tree.CompareOp.TheVariants as compare
use Rattle.asp_syntax.specs.declared.tree.Term.{Term}
use Rattle.asp_syntax.specs.declared.tree.Term.TheOpen as term
use Rattle.asp_syntax.specs.declared.tree.Term.TheViews.{out-Term}
use Rattle.asp_syntax.specs.declared.tree.Literal.{Literal}
use Rattle.asp_syntax.specs.declared.tree.Literal.TheVariants as literal
use Rattle.asp_syntax.specs.declared.tree.Guard.{Guard}
use Rattle.asp_syntax.specs.declared.tree.Aggregate.{Aggregate}
use Rattle.asp_syntax.specs.declared.tree.Item.{Item}
use Rattle.asp_syntax.specs.declared.tree.Item.TheVariants as item
use Rattle.asp_meaning.specs.Terms.{Variable, named, anonymous}
use Rattle.asp_meaning.specs.Variables.{variables}
use Rattle.asp_safety.specs.declared.clause.Clause.{Clause}
use Rattle.asp_safety.specs.Keys.{variable_eq}
use Rattle.asp_safety.specs.Binding.{outside_of, aggregate_variables}

-- the test for membership
abbrev pub is_among : List Variable → Variable → Bool
is_among vs v = list_any (variable_eq v) vs

-- the variable that a term is
abbrev pub variable_of : Term → Option Variable
variable_of t = elim (out-Term t) [ term.Variable x ↦ Some (named x) | term.Anonymous k ↦ Some (anonymous k) | _ ↦ None ]

abbrev pub fact : Variable → Clause
fact v = record { needs = []; gives = v }

abbrev pub clause_for : Option Variable → List Variable → List Clause
clause_for None needs = []
clause_for (Some v) needs = record { needs = needs; gives = v } ∷ []

-- where both sides are equal: one that is a variable is bound by the variables of the other
abbrev pub equation_clauses : CompareOp → Term → Term → List Clause
equation_clauses compare.Equal l r = clause_for (variable_of l) (variables r) ++ clause_for (variable_of r) (variables l)
equation_clauses _ l r = []

abbrev pub literal_clauses : Literal → List Clause
literal_clauses (literal.Positive p) = map fact (outside_of p.args)
literal_clauses (literal.Negative p) = []
literal_clauses (literal.Compare op l r) = equation_clauses op l r

abbrev pub equal_clauses : CompareOp → Term → List Variable → List Clause
equal_clauses compare.Equal t needs = clause_for (variable_of t) needs
equal_clauses _ t needs = []

abbrev pub guard_clauses : Option Guard → List Variable → List Clause
guard_clauses None needs = []
guard_clauses (Some g) needs = equal_clauses g.op g.term needs

abbrev pub aggregate_needs : List Variable → Aggregate → List Variable
aggregate_needs globals g = filter (is_among globals) (aggregate_variables g)

abbrev pub item_clauses : List Variable → Item → List Clause
item_clauses globals (item.Plain l) = literal_clauses l
item_clauses globals (item.Aggregate true g) = []
item_clauses globals (item.Aggregate false g) = guard_clauses g.left (aggregate_needs globals g) ++ guard_clauses g.right (aggregate_needs globals g)

-- the clauses of a body, for global variables
abbrev pub body_clauses : List Variable → List Item → List Clause
body_clauses globals body = concat (map (item_clauses globals) body)

-- whether a clause is for a local variable
abbrev pub is_local : List Variable → Clause → Bool
is_local globals c = not (is_among globals c.gives)

-- the clauses of a condition, for local variables
abbrev pub condition_clauses : List Variable → List Literal → List Clause
condition_clauses globals ls = filter (is_local globals) (concat (map literal_clauses ls))

abbrev pub binds : List Variable → Variable → Clause
binds needs v = record { needs = needs; gives = v }
