-- The single rules of a program, in the order of its statements; then those for strong negation.
use Rattle.std.specs.Prelude.{true, List, [], ◌∷◌, ◌++◌, map, Option, Some, None}
use Rattle.lists.specs.Lists.{concat}
use Rattle.alpha_outside.specs.declared.kinds.RuleKind.TheVariants as rule
use Rattle.asp_syntax.specs.declared.tree.Term.TheVariants as tree
use Rattle.asp_syntax.specs.declared.tree.Literal.{Literal}
use Rattle.asp_syntax.specs.declared.tree.Literal.TheVariants as literal
use Rattle.asp_syntax.specs.declared.tree.Guard.{Guard}
use Rattle.asp_syntax.specs.declared.tree.Element.{Element}
use Rattle.asp_syntax.specs.declared.tree.AggKind.TheVariants as kind
use Rattle.asp_syntax.specs.declared.tree.Aggregate.{Aggregate}
use Rattle.asp_syntax.specs.declared.tree.Item.{Item}
use Rattle.asp_syntax.specs.declared.tree.Item.TheVariants as item
use Rattle.asp_syntax.specs.declared.tree.ChoiceElement.{ChoiceElement}
use Rattle.asp_syntax.specs.declared.tree.Head.{Head}
use Rattle.asp_syntax.specs.declared.tree.Head.TheVariants as head
use Rattle.asp_syntax.specs.declared.tree.Atom as syntax
use Rattle.asp_syntax.specs.declared.tree.Statement.{Statement}
use Rattle.asp_meaning.specs.Variables.{global_terms}
use Rattle.asp_strata.specs.Recursion.{predicate_of, written}
use Rattle.single_rules.specs.declared.single.SingleRule.{SingleRule}
use Rattle.single_rules.specs.Renaming.{new_name, renamed_atom, renamed_literal}
use Rattle.single_rules.specs.Signs.{sign_rules}

-- ---- one head, or none

-- the body must not hold
abbrev pub constraint_rule : Statement → SingleRule
constraint_rule s = record { kind = rule.Constraint; head = None; body = s.body; defined = global_terms s; line = s.line }

-- the head follows
abbrev pub plain_rule : Statement → syntax.Atom → SingleRule
plain_rule s a = record { kind = rule.Plain; head = Some a; body = s.body; defined = global_terms s; line = s.line }

-- ---- choices

-- a literal of an element's condition as an item of a body
abbrev pub condition_item : Statement → Literal → Item
condition_item s l = item.Plain (renamed_literal (new_name s) l)

-- the atom of the element may be chosen where the body and the element's condition hold
abbrev pub element_rule : Statement → ChoiceElement → SingleRule
element_rule s e = record {
  kind = rule.Choice;
  head = Some (renamed_atom (new_name s) e.atom);
  body = s.body ++ map (condition_item s) e.condition;
  defined = global_terms s;
  line = s.line;
}

-- the tuple of an atom that may be chosen: its name with its sign, as a string, and its arguments; it counts where the atom and the
-- condition hold
abbrev pub counted : ChoiceElement → Element
counted e = record { terms = tree.Text (written (predicate_of e.atom)) ∷ e.atom.args; condition = literal.Positive e.atom ∷ e.condition }

-- the number of atoms that are chosen
abbrev pub count_of : Option Guard → List ChoiceElement → Option Guard → Aggregate
count_of left elements right = record { kind = kind.Count; elements = map counted elements; left = left; right = right }

-- the bounds must not fail where the body holds
abbrev pub bound_rule : Statement → Aggregate → SingleRule
bound_rule s count = record {
  kind = rule.Constraint;
  head = None;
  body = s.body ++ item.Aggregate true count ∷ [];
  defined = global_terms s;
  line = s.line;
}

-- the constraint for the bounds, where there is one
abbrev pub bound_rules : Statement → Option Guard → List ChoiceElement → Option Guard → List SingleRule
bound_rules s None elements None = []
bound_rules s None elements (Some right) = bound_rule s (count_of None elements (Some right)) ∷ []
bound_rules s (Some left) elements right = bound_rule s (count_of (Some left) elements right) ∷ []

-- ---- programs

-- the rules of a statement with this head: for a choice one an element, and then the constraint for its bounds
abbrev pub rules_with : Statement → Head → List SingleRule
rules_with s head.Absent = constraint_rule s ∷ []
rules_with s (head.Single a) = plain_rule s a ∷ []
rules_with s (head.Choice left elements right) = map (element_rule s) elements ++ bound_rules s left elements right

-- the rules of a statement
abbrev pub rules_of : Statement → List SingleRule
rules_of s = rules_with s s.head

-- the rules of all statements, and then the constraints for strong negation
abbrev pub singles_of : List Statement → List SingleRule
singles_of P = concat (map rules_of P) ++ sign_rules P
