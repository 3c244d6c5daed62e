-- Names for the local variables of a choice element that occur nowhere else in its statement.
use Rattle.std.specs.Prelude.{ℕ, zero, suc, max, ◌+◌, ◌==◌, cond, List, [], ◌∷◌, ◌++◌, map}
use Rattle.lists.specs.Lists.{concat}
use Rattle.asp_syntax.specs.declared.tree.Term.{Term}
use Rattle.asp_syntax.specs.declared.tree.Term.TheVariants as tree
use Rattle.asp_syntax.specs.declared.tree.Term.TheOpen.{Term-F}
use Rattle.asp_syntax.specs.declared.tree.Term.TheOpen as term
use Rattle.asp_syntax.specs.declared.tree.Term.TheFolds.{fold-Term}
use Rattle.asp_syntax.specs.declared.tree.Atom as syntax
use Rattle.asp_syntax.specs.declared.tree.Literal.{Literal}
use Rattle.asp_syntax.specs.declared.tree.Literal.TheVariants as literal
use Rattle.asp_syntax.specs.declared.tree.Element.{Element}
use Rattle.asp_syntax.specs.declared.tree.Item.{Item}
use Rattle.asp_syntax.specs.declared.tree.Item.TheVariants as item
use Rattle.asp_syntax.specs.declared.tree.ChoiceElement.{ChoiceElement}
use Rattle.asp_syntax.specs.declared.tree.Head.{Head}
use Rattle.asp_syntax.specs.declared.tree.Head.TheVariants as head
use Rattle.asp_syntax.specs.declared.tree.Statement.{Statement}
use Rattle.asp_meaning.specs.Terms.{Variable, named, anonymous}
use Rattle.asp_meaning.specs.Variables.{literal_terms, guard_terms, global_variables}
use Rattle.asp_safety.specs.ClauseLists.{is_among}
use Rattle.asp_safety.specs.Binding.{variables_of, term_of}

-- ---- fresh names

-- the mark that is put before names: a prime, which no name in a text has
abbrev pub mark : ℕ
mark = 39

-- how many marks a name begins with
abbrev pub marks_of : List ℕ → ℕ
marks_of [] = 0
marks_of (b ∷ bytes) = cond (b == mark) (suc (marks_of bytes)) 0

-- the name with so many marks before it
abbrev pub marked : ℕ → List ℕ → List ℕ
marked zero name = name
marked (suc n) name = mark ∷ marked n name

-- more marks than any of these names begins with
abbrev pub marks_above : List Variable → ℕ
marks_above [] = 0
marks_above (named x ∷ vs) = max (suc (marks_of x)) (marks_above vs)
marks_above (anonymous k ∷ vs) = marks_above vs

-- a number above that of each anonymous one of these variables
abbrev pub numbers_above : List Variable → ℕ
numbers_above [] = 0
numbers_above (named x ∷ vs) = numbers_above vs
numbers_above (anonymous k ∷ vs) = max (suc k) (numbers_above vs)

-- ---- the variables of a statement

-- the terms of the literals of a condition
abbrev pub condition_terms : List Literal → List Term
condition_terms ls = concat (map literal_terms ls)

-- those of an element of an aggregate: its tuple, and then its condition
abbrev pub element_terms : Element → List Term
element_terms e = e.terms ++ condition_terms e.condition

-- those of an element of a choice: its atom, and then its condition
abbrev pub choice_terms : ChoiceElement → List Term
choice_terms e = e.atom.args ++ condition_terms e.condition

-- those of an item, in elements too
abbrev pub all_item_terms : Item → List Term
all_item_terms (item.Plain l) = literal_terms l
all_item_terms (item.Aggregate denied g) = guard_terms g.left ++ (concat (map element_terms g.elements) ++ guard_terms g.right)

-- those of a head, in elements too
abbrev pub all_head_terms : Head → List Term
all_head_terms head.Absent = []
all_head_terms (head.Single a) = a.args
all_head_terms (head.Choice left elements right) = guard_terms left ++ (concat (map choice_terms elements) ++ guard_terms right)

-- the terms of a statement, in elements too, as they stand in its text
abbrev pub all_terms : Statement → List Term
all_terms s = all_head_terms s.head ++ concat (map all_item_terms s.body)

-- the variables of a statement, in elements too
abbrev pub all_variables : Statement → List Variable
all_variables s = variables_of (all_terms s)

-- ---- new names

-- with so many marks more, or a number that is so much higher
abbrev pub fresh_by : ℕ → ℕ → Variable → Variable
fresh_by marks numbers (named x) = named (marked marks x)
fresh_by marks numbers (anonymous k) = anonymous (numbers + k)

-- a variable that is one of these stays, and others get such a name
abbrev pub name_by : List Variable → ℕ → ℕ → Variable → Variable
name_by globals marks numbers v = cond (is_among globals v) v (fresh_by marks numbers v)

-- what a variable of a choice element becomes: a global one stays, and a local one gets a name that no variable of the statement has
abbrev pub new_name : Statement → Variable → Variable
new_name s = name_by (global_variables s) (marks_above (all_variables s)) (numbers_above (all_variables s))

-- ---- trees with other names

-- a term with other names, from the terms in it with other names
abbrev pub rename_step : (Variable → Variable) → Term-F Term → Term
rename_step r (term.Int n) = tree.Int n
rename_step r (term.Variable x) = term_of (r (named x))
rename_step r (term.Anonymous k) = term_of (r (anonymous k))
rename_step r (term.Symbol x) = tree.Symbol x
rename_step r (term.Text x) = tree.Text x
rename_step r (term.Fun f args) = tree.Fun f args
rename_step r (term.Minus t) = tree.Minus t
rename_step r (term.Arith op x y) = tree.Arith op x y

-- the term with other names for its variables
abbrev pub renamed : (Variable → Variable) → Term → Term
renamed r = fold-Term Term (rename_step r)

-- the atom with other names for its variables
abbrev pub renamed_atom : (Variable → Variable) → syntax.Atom → syntax.Atom
renamed_atom r a = record a { args = map (renamed r) a.args }

-- the literal with other names for its variables
abbrev pub renamed_literal : (Variable → Variable) → Literal → Literal
renamed_literal r (literal.Positive a) = literal.Positive (renamed_atom r a)
renamed_literal r (literal.Negative a) = literal.Negative (renamed_atom r a)
renamed_literal r (literal.Compare op x y) = literal.Compare op (renamed r x) (renamed r y)
