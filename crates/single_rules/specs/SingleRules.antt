-- Single rules as statements, and what all that takes single rules relies on.
use Rattle.std.specs.Prelude.{◌≡◌, ◌↔◌, List, map, Option, Some, None}
use Rattle.lists.specs.Lists.{◌∈◌, Each}
use Rattle.alpha_outside.specs.declared.kinds.RuleKind.TheVariants.{Constraint}
use Rattle.asp_syntax.specs.declared.tree.Atom as syntax
use Rattle.asp_syntax.specs.declared.tree.Head.{Head}
use Rattle.asp_syntax.specs.declared.tree.Head.TheVariants as head
use Rattle.asp_syntax.specs.declared.tree.Statement.{Statement}
use Rattle.asp_syntax.specs.Trees.{IsWellFormedTerm, IsWellFormedStatement}
use Rattle.asp_meaning.specs.Terms.{Variable}
use Rattle.asp_strata.specs.Recursion.{HasNoRecursion}
use Rattle.asp_safety.specs.Binding.{IsBound, IsSafe, variables_of}
use Rattle.single_rules.specs.declared.single.SingleRule.{SingleRule}

-- the head of a rule as that of a statement
abbrev pub head_of : Option syntax.Atom → Head
head_of None = head.Absent
head_of (Some a) = head.Single a

-- the rule as a statement; the head of a choice stands there as it would if it had to follow
abbrev pub as_statement : SingleRule → Statement
as_statement r = record { line = r.line; head = head_of r.head; body = r.body }

-- only a constraint has no head, the rules as statements are safe and have no recursive aggregate, and what has to be defined is bound
pub record AreSingleRules (rules : List SingleRule) : Type 0 where
  pub heads : Each (λ r. (r.head ≡ None) ↔ (r.kind ≡ Constraint)) rules
  pub safe : Each (λ r. IsSafe (as_statement r)) rules
  pub no_recursion : Each (λ r. HasNoRecursion (map as_statement rules) (as_statement r)) rules
  pub defined : Each (λ r. (v : Variable) → v ∈ variables_of r.defined → IsBound (as_statement r) v) rules

-- its names, texts and numbers of arguments are those that a program may have
abbrev pub IsWellFormedRule : SingleRule → Type 0
IsWellFormedRule r = IsWellFormedStatement (as_statement r) × Each IsWellFormedTerm r.defined
