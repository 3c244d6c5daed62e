-- Which names, texts and numbers of arguments a tree may have. A tree that is read from tokens is so, and what takes a tree asks for it.
use Rattle.std.specs.Prelude.{List, [], ◌∷◌, ◌++◌, ℕ, Option, Some, None}
use Rattle.lists.specs.Lists.{Each, concat}
use Rattle.asp_syntax.specs.declared.tree.Term.{Term}
use Rattle.asp_syntax.specs.declared.tree.Term.TheOpen.{Term-F}
use Rattle.asp_syntax.specs.declared.tree.Term.TheOpen as term
use Rattle.asp_syntax.specs.declared.tree.Term.TheFolds.{fold-Term}
use Rattle.asp_syntax.specs.declared.tree.Atom.{Atom}
use Rattle.asp_syntax.specs.declared.tree.Literal.{Literal}
use Rattle.asp_syntax.specs.declared.tree.Literal.TheVariants as literal
use Rattle.asp_syntax.specs.declared.tree.Element.{Element}
use Rattle.asp_syntax.specs.declared.tree.Guard.{Guard}
use Rattle.asp_syntax.specs.declared.tree.Aggregate.{Aggregate}
use Rattle.asp_syntax.specs.declared.tree.Item.{Item}
use Rattle.asp_syntax.specs.declared.tree.Item.TheVariants as item
use Rattle.asp_syntax.specs.declared.tree.ChoiceElement.{ChoiceElement}
use Rattle.asp_syntax.specs.declared.tree.Head.{Head}
use Rattle.asp_syntax.specs.declared.tree.Head.TheVariants as head
use Rattle.asp_syntax.specs.declared.tree.Statement.{Statement}
use Rattle.asp_syntax.specs.declared.tree.Program.{Program}
use Rattle.asp_syntax.specs.WellFormed.{IsId, IsText}

-- what a term has in it of which something is asked: a name other than a variable's, a text, a functional term without arguments
pub data Part : Type 0 where
  name : List ℕ → Part
  text : List ℕ → Part
  no_arguments : Part

-- each name is an ID other than `not`, each text may stand between quotes, and each functional term has an argument
abbrev pub IsAllowed : Part → Type 0
IsAllowed (name n) = IsId n
IsAllowed (text t) = IsText t
IsAllowed no_arguments = ⊥

-- the parts of a functional term, from those of its arguments
abbrev pub call_parts : List ℕ → List (List Part) → List Part
call_parts n [] = no_arguments ∷ []
call_parts n (first ∷ others) = name n ∷ (first ++ concat others)

-- the parts of a term, from those of the terms in it
abbrev pub parts_step : Term-F (List Part) → List Part
parts_step (term.Int n) = []
parts_step (term.Variable n) = []
parts_step (term.Anonymous k) = []
parts_step (term.Symbol n) = name n ∷ []
parts_step (term.Text t) = text t ∷ []
parts_step (term.Fun n arguments) = call_parts n arguments
parts_step (term.Minus x) = x
parts_step (term.Arith op x y) = x ++ y

-- the parts of a term, from the left
abbrev pub parts : Term → List Part
parts = fold-Term (List Part) parts_step

abbrev pub IsWellFormedTerm : Term → Type 0
IsWellFormedTerm x = Each IsAllowed (parts x)

abbrev pub IsWellFormedAtom : Atom → Type 0
IsWellFormedAtom a = IsId a.name × Each IsWellFormedTerm a.args

abbrev pub IsWellFormedLiteral : Literal → Type 0
IsWellFormedLiteral (literal.Positive a) = IsWellFormedAtom a
IsWellFormedLiteral (literal.Negative a) = IsWellFormedAtom a
IsWellFormedLiteral (literal.Compare op x y) = IsWellFormedTerm x × IsWellFormedTerm y

abbrev pub IsWellFormedElement : Element → Type 0
IsWellFormedElement e = Each IsWellFormedTerm e.terms × Each IsWellFormedLiteral e.condition

-- of a bound, where there is one
abbrev pub IsWellFormedGuard : Option Guard → Type 0
IsWellFormedGuard None = Unit {0}
IsWellFormedGuard (Some g) = IsWellFormedTerm g.term

-- at least one of the two is there
abbrev pub HasGuard : Option Guard → Option Guard → Type 0
HasGuard None None = ⊥
HasGuard None (Some right) = Unit {0}
HasGuard (Some left) right = Unit {0}

pub record IsWellFormedAggregate (a : Aggregate) : Type 0 where
  pub elements : Each IsWellFormedElement a.elements
  pub left : IsWellFormedGuard a.left
  pub right : IsWellFormedGuard a.right
  pub guarded : HasGuard a.left a.right

abbrev pub IsWellFormedItem : Item → Type 0
IsWellFormedItem (item.Plain l) = IsWellFormedLiteral l
IsWellFormedItem (item.Aggregate denied a) = IsWellFormedAggregate a

abbrev pub IsWellFormedChoice : ChoiceElement → Type 0
IsWellFormedChoice e = IsWellFormedAtom e.atom × Each IsWellFormedLiteral e.condition

abbrev pub IsWellFormedHead : Head → Type 0
IsWellFormedHead head.Absent = Unit {0}
IsWellFormedHead (head.Single a) = IsWellFormedAtom a
IsWellFormedHead (head.Choice left elements right) = IsWellFormedGuard left × Each IsWellFormedChoice elements × IsWellFormedGuard right

abbrev pub IsWellFormedStatement : Statement → Type 0
IsWellFormedStatement s = IsWellFormedHead s.head × Each IsWellFormedItem s.body

abbrev pub IsWellFormedProgram : Program → Type 0
IsWellFormedProgram p = Each IsWellFormedStatement p.statements
