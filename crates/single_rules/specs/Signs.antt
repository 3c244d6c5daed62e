-- Predicates that occur both with and without strong negation: an atom and its strong negation must not hold together.
use Rattle.std.specs.Prelude.{ℕ, zero, suc, Bool, true, false, not, cond, List, [], ◌∷◌, ◌++◌, map, None}
use Rattle.std.specs.List.{list_any}
use Rattle.lists.specs.Lists.{concat}
use Rattle.alpha_outside.specs.declared.kinds.RuleKind.TheVariants as rule
use Rattle.asp_syntax.specs.declared.tree.Term.{Term}
use Rattle.asp_syntax.specs.declared.tree.Term.TheVariants as tree
use Rattle.asp_syntax.specs.declared.tree.Atom as syntax
use Rattle.asp_syntax.specs.declared.tree.Literal.TheVariants as literal
use Rattle.asp_syntax.specs.declared.tree.Item.{Item}
use Rattle.asp_syntax.specs.declared.tree.Item.TheVariants as item
use Rattle.asp_syntax.specs.declared.tree.ChoiceElement.{ChoiceElement}
use Rattle.asp_syntax.specs.declared.tree.Head.{Head}
use Rattle.asp_syntax.specs.declared.tree.Head.TheVariants as head
use Rattle.asp_syntax.specs.declared.tree.Statement.{Statement}
use Rattle.asp_strata.specs.declared.predicate.Predicate.{Predicate}
use Rattle.asp_strata.specs.Predicates.{predicate_eq}
use Rattle.asp_strata.specs.Recursion.{predicate_of, literal_predicates, condition_predicates, element_of}
use Rattle.single_rules.specs.declared.single.SingleRule.{SingleRule}

-- the predicate with the other sign
abbrev pub opposite : Predicate → Predicate
opposite p = record p { negated = not p.negated }

-- whether the predicate is one of these
abbrev pub has_predicate : List Predicate → Predicate → Bool
has_predicate ps p = list_any (predicate_eq p) ps

-- ---- the predicates of a program, as they stand in its text

-- those of an element of a choice: its atom, and then its condition
abbrev pub choice_in_text : ChoiceElement → List Predicate
choice_in_text e = predicate_of e.atom ∷ condition_predicates e.condition

-- those of a head
abbrev pub head_in_text : Head → List Predicate
head_in_text head.Absent = []
head_in_text (head.Single a) = predicate_of a ∷ []
head_in_text (head.Choice left elements right) = concat (map choice_in_text elements)

-- those of an item of a body
abbrev pub item_in_text : Item → List Predicate
item_in_text (item.Plain l) = literal_predicates l
item_in_text (item.Aggregate denied g) = concat (map element_of g.elements)

-- those of a statement: its head, and then its body
abbrev pub statement_in_text : Statement → List Predicate
statement_in_text s = head_in_text s.head ++ concat (map item_in_text s.body)

-- those of all statements
abbrev pub predicates_in_text : List Statement → List Predicate
predicates_in_text P = concat (map statement_in_text P)

-- ---- later signs

-- of predicates that come after those that were seen: each whose other sign came before it, where it comes first
abbrev pub later_signs : List Predicate → List Predicate → List Predicate
later_signs seen [] = []
later_signs seen (p ∷ ps) =
    cond (has_predicate seen p) (later_signs seen ps)
    (cond (has_predicate seen (opposite p)) (p ∷ later_signs (p ∷ seen) ps) (later_signs (p ∷ seen) ps))

-- so many variables, with numbers from k on
abbrev pub variables_from : ℕ → ℕ → List Term
variables_from k zero = []
variables_from k (suc n) = tree.Anonymous k ∷ variables_from (suc k) n

-- an atom of this name over so many variables
abbrev pub atom_over : Bool → List ℕ → ℕ → syntax.Atom
atom_over negated name arity = record { negated = negated; name = name; args = variables_from 0 arity }

-- an atom of this name over so many variables and its strong negation hold both
abbrev pub both_signs : List ℕ → ℕ → List Item
both_signs name arity =
    item.Plain (literal.Positive (atom_over false name arity)) ∷ item.Plain (literal.Positive (atom_over true name arity)) ∷ []

-- the constraint that an atom of this name and number of arguments does not hold together with its strong negation. It comes from no line.
abbrev pub sign_rule : Predicate → SingleRule
sign_rule p = record { kind = rule.Constraint; head = None; body = both_signs p.name p.arity; defined = []; line = 0 }

-- these constraints of a program, in the order in which the later of the two signs comes first
abbrev pub sign_rules : List Statement → List SingleRule
sign_rules P = map sign_rule (later_signs [] (predicates_in_text P))
