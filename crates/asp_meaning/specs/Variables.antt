-- Which variables are global in a statement: those outside aggregate and choice elements. Guards and bounds are outside.
-- (ASP-Core-2, "Rules": global and local variables.)
use Rattle.std.specs.Prelude.{List, [], ◌∷◌, ◌++◌, map, Option, Some, None}
use Rattle.lists.specs.Lists.{concat}
use Rattle.asp_syntax.specs.declared.tree.Term.{Term}
use Rattle.asp_syntax.specs.declared.tree.Term.TheOpen.{Term-F}
use Rattle.asp_syntax.specs.declared.tree.Term.TheOpen as term
use Rattle.asp_syntax.specs.declared.tree.Term.TheFolds.{fold-Term}
use Rattle.asp_syntax.specs.declared.tree.Literal.{Literal}
use Rattle.asp_syntax.specs.declared.tree.Literal.TheVariants as literal
use Rattle.asp_syntax.specs.declared.tree.Guard.{Guard}
use Rattle.asp_syntax.specs.declared.tree.Item.{Item}
use Rattle.asp_syntax.specs.declared.tree.Item.TheVariants as item
use Rattle.asp_syntax.specs.declared.tree.Head.{Head}
use Rattle.asp_syntax.specs.declared.tree.Head.TheVariants as head
use Rattle.asp_syntax.specs.declared.tree.Statement.{Statement}
use Rattle.asp_meaning.specs.Terms.{Variable, named, anonymous}

abbrev pub variables_step : Term-F (List Variable) → List Variable
variables_step (term.Int n) = []
variables_step (term.Variable x) = named x ∷ []
variables_step (term.Anonymous k) = anonymous k ∷ []
variables_step (term.Symbol x) = []
variables_step (term.Text x) = []
variables_step (term.Fun f args) = concat args
variables_step (term.Minus t) = t
variables_step (term.Arith op l r) = l ++ r

-- the variables of a term, from the left
abbrev pub variables : Term → List Variable
variables = fold-Term (List Variable) variables_step

-- the terms of a literal
abbrev pub literal_terms : Literal → List Term
literal_terms (literal.Positive p) = p.args
literal_terms (literal.Negative p) = p.args
literal_terms (literal.Compare op l r) = l ∷ r ∷ []

abbrev pub guard_terms : Option Guard → List Term
guard_terms None = []
guard_terms (Some g) = g.term ∷ []

-- the terms of an item of a body, outside the elements of an aggregate
abbrev pub item_terms : Item → List Term
item_terms (item.Plain l) = literal_terms l
item_terms (item.Aggregate denied g) = guard_terms g.left ++ guard_terms g.right

-- the terms of a head, outside the elements of a choice
abbrev pub head_terms : Head → List Term
head_terms head.Absent = []
head_terms (head.Single p) = p.args
head_terms (head.Choice left elements right) = guard_terms left ++ guard_terms right

-- the terms of a statement outside aggregate and choice elements
abbrev pub global_terms : Statement → List Term
global_terms r = head_terms r.head ++ concat (map item_terms r.body)

-- the global variables of a statement
abbrev pub global_variables : Statement → List Variable
global_variables r = concat (map variables (global_terms r))
