-- Arithmetic goes out of positive atoms.
use Rattle.std.specs.Prelude.{ℕ, suc, max, List, [], ◌∷◌, ◌++◌, map, Option}
use Rattle.alpha_outside.specs.declared.kinds.RuleKind.{RuleKind}
use Rattle.asp_syntax.specs.declared.tree.CompareOp.TheVariants.{Equal}
use Rattle.asp_syntax.specs.declared.tree.Term.{Term}
use Rattle.asp_syntax.specs.declared.tree.Term.TheOpen.{Term-F}
use Rattle.asp_syntax.specs.declared.tree.Term.TheOpen as term
use Rattle.asp_syntax.specs.declared.tree.Term.TheViews.{roll-Term}
use Rattle.asp_syntax.specs.declared.tree.Term.TheFolds.{fold-Term}
use Rattle.asp_syntax.specs.declared.tree.Atom as syntax
use Rattle.asp_meaning.specs.Terms.{Variable, named, anonymous}
use Rattle.asp_meaning.specs.Variables.{global_variables}
use Rattle.asp_safety.specs.Binding.{variables_of}
use Rattle.single_rules.specs.declared.single.SingleRule.{SingleRule}
use Rattle.single_rules.specs.SingleRules.{as_statement}
use Rattle.rewriting.specs.Parts.{Comparison, positives, negatives, comparisons}

-- the anonymous variable of this number has the term's value
pub record Equation : Type 0 where
  pub fresh : ℕ
  pub term : Term

-- something without its arithmetic, the equations for what went out, from the left, and the next number that is free
pub record Lifted (A : Type 0) : Type 0 where
  pub lifted : A
  pub equations : List Equation
  pub next : ℕ

-- a term, and what it becomes where numbers are free from here on
pub record Lifting : Type 0 where
  pub whole : Term
  pub from : ℕ → Lifted Term

abbrev pub stays : Term → Lifting
stays t = record { whole = t; from = λ k. record { lifted = t; equations = []; next = k } }

abbrev pub goes_out : Term → Lifting
goes_out t = record { whole = t; from = λ k. record { lifted = roll-Term (term.Anonymous k); equations = record { fresh = k; term = t } ∷ []; next = suc k } }

-- one after another
abbrev pub lift_each : {A B : Type 0} → (A → ℕ → Lifted B) → List A → ℕ → Lifted (List B)
lift_each f [] k = record { lifted = []; equations = []; next = k }
lift_each f (x ∷ xs) k = record {
  lifted = (f x k).lifted ∷ (lift_each f xs (f x k).next).lifted;
  equations = (f x k).equations ++ (lift_each f xs (f x k).next).equations;
  next = (lift_each f xs (f x k).next).next;
}

abbrev pub call_with : List ℕ → Lifted (List Term) → Lifted Term
call_with f args = record { lifted = roll-Term (term.Fun f args.lifted); equations = args.equations; next = args.next }

-- arithmetic goes out whole; other terms are lifted part by part
abbrev pub lift_step : Term-F Lifting → Lifting
lift_step (term.Int n) = stays (roll-Term (term.Int n))
lift_step (term.Variable x) = stays (roll-Term (term.Variable x))
lift_step (term.Anonymous k) = stays (roll-Term (term.Anonymous k))
lift_step (term.Symbol x) = stays (roll-Term (term.Symbol x))
lift_step (term.Text x) = stays (roll-Term (term.Text x))
lift_step (term.Fun f args) =
    record { whole = roll-Term (term.Fun f (map (λ (l : Lifting). l.whole) args)); from = λ k. call_with f (lift_each (λ (l : Lifting). l.from) args k) }
lift_step (term.Minus t) = goes_out (roll-Term (term.Minus t.whole))
lift_step (term.Arith op l r) = goes_out (roll-Term (term.Arith op l.whole r.whole))

-- the term without its arithmetic, where numbers are free from k on
abbrev pub lift_term : Term → ℕ → Lifted Term
lift_term t k = (fold-Term Lifting lift_step t).from k

abbrev pub atom_with : syntax.Atom → Lifted (List Term) → Lifted syntax.Atom
atom_with a args = record { lifted = record a { args = args.lifted }; equations = args.equations; next = args.next }

abbrev pub lift_atom : syntax.Atom → ℕ → Lifted syntax.Atom
lift_atom a k = atom_with a (lift_each lift_term a.args k)

-- ---- rules

-- a number above that of each anonymous variable
abbrev pub free_above : List Variable → ℕ
free_above [] = 0
free_above (named x ∷ vs) = free_above vs
free_above (anonymous k ∷ vs) = max (suc k) (free_above vs)

-- the first number that is free in a rule
abbrev pub free_in : SingleRule → ℕ
free_in r = free_above (global_variables (as_statement r) ++ variables_of r.defined)

-- a rule whose positive atoms have no arithmetic
pub record LiftedRule : Type 0 where
  pub kind : RuleKind
  pub head : Option syntax.Atom
  pub pos : List syntax.Atom
  pub neg : List syntax.Atom
  pub tests : List Comparison
  pub defined : List Term
  pub line : ℕ

abbrev pub equation_test : Equation → Comparison
equation_test e = record { op = Equal; left = roll-Term (term.Anonymous e.fresh); right = e.term }

abbrev pub rule_with : SingleRule → Lifted (List syntax.Atom) → LiftedRule
rule_with r atoms = record {
  kind = r.kind;
  head = r.head;
  pos = atoms.lifted;
  neg = negatives r.body;
  tests = map equation_test atoms.equations ++ comparisons r.body;
  defined = r.defined;
  line = r.line;
}

-- the rule whose positive atoms are lifted; the equations stand before the comparisons
abbrev pub lift_rule : SingleRule → LiftedRule
lift_rule r = rule_with r (lift_each lift_atom (positives r.body) (free_in r))
