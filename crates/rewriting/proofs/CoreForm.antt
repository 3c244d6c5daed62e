-- What single rules without aggregates become is in core form.
use Rattle.std.proofs.Common.{◌≡◌, ◌<◌, ◌↔◌, inl, inr, refl, sym, ap, subst, ◌∙◌, ℕ, false, List, [], ◌∷◌, map, length, Option, Some, None}
use Rattle.std.proofs.lemmas.List.{length-map}
use Rattle.lists.specs.Lists.{◌∈◌, HasNoRepeats, Each}
use Rattle.lists.proofs.ListLemmas.{Each-at, Each-from, Each-append, ∈-map_from}
use Rattle.alpha_outside.specs.declared.pred.Pred.TheVariants as pred
use Rattle.alpha_outside.specs.declared.kinds.RuleKind.TheVariants.{Constraint}
use Rattle.asp_syntax.specs.declared.tree.Term.{Term}
use Rattle.asp_syntax.specs.declared.tree.Atom as syntax
use Rattle.asp_meaning.specs.Terms.{Variable}
use Rattle.asp_safety.specs.Binding.{IsSafe, variables_of}
use Rattle.asp_safety.specs.Binding as safety
use Rattle.single_rules.specs.declared.single.SingleRule.{SingleRule}
use Rattle.single_rules.specs.SingleRules.{as_statement}
use Rattle.core_rules.specs.declared.rules.CoreAtom.{CoreAtom}
use Rattle.core_rules.specs.Variables as core
use Rattle.core_rules.specs.CoreForm.{IsBound, IsFitting, IsHead, HasNoArithmetic, IsRuleForm, IsBelowTotal}
use Rattle.rewriting.specs.Parts.{HasNoAggregate, positives, negatives}
use Rattle.rewriting.specs.Lifting.{LiftedRule, lift_each, lift_term, lift_atom, free_in, lift_rule}
use Rattle.rewriting.specs.Numbering.{rule_terms, table_of, place, numbered, numbered_atom, numbered_head}
use Rattle.rewriting.specs.CoreRules.{core_rule_of, core_of}
use Rattle.rewriting.specs.Laws.{HasCoreForm}
use Rattle.rewriting.proofs.NumberedTerms.{numbered_arithmetic}
use Rattle.rewriting.proofs.LiftedTerms.{terms_plain}
use Rattle.rewriting.proofs.Places.{comes_in, comes_from, comes_once, place_below, at_place}
use Rattle.rewriting.proofs.NumberedRules.{rule_numbers}
use Rattle.rewriting.proofs.Bound.{rule_here}

-- ---- variables

module _ (r : LiftedRule) where
  -- the variables of a rule, from the left
  abbrev all_variables : List Variable
  all_variables = variables_of (rule_terms r)

  -- each variable of a rule stands in its table
  pub in_table : (v : Variable) → v ∈ variables_of (rule_terms r) → v ∈ table_of r
  in_table v k = comes_in [] all_variables v k

  -- only variables of the rule stand in its table
  pub from_table : (v : Variable) → v ∈ table_of r → v ∈ variables_of (rule_terms r)
  from_table v k = elim (comes_from [] all_variables v k) [ inl none ↦ absurd none | inr h ↦ h ]

  -- none stands in it twice
  pub table_once : HasNoRepeats (table_of r)
  table_once = comes_once [] all_variables tt

module _ (r : SingleRule) where
  -- the rule's table
  abbrev table : List Variable
  table = table_of (lift_rule r)

  -- each variable of the core rule is below the number of its variables
  numbers_below : (v : ℕ) → v ∈ core.rule_variables (core_rule_of r) → v < length table
  numbers_below v k =
      let found = ∈-map_from (place table) v (variables_of (rule_terms (lift_rule r))) (subst (λ ns. v ∈ ns) (rule_numbers table (lift_rule r)) k) in
      subst (λ n. n < length table) (sym found.2) (place_below table found.0 (in_table (lift_rule r) found.0 found.1))

  -- each of these is bound
  numbers_bound : HasNoAggregate r → IsSafe (as_statement r) → ((v : Variable) → v ∈ variables_of r.defined → safety.IsBound (as_statement r) v)
      → (i : ℕ) → i < length table → IsBound (core_rule_of r) i
  numbers_bound none safe defined i below =
      let found = at_place table i (table_once (lift_rule r)) below in
      subst (IsBound (core_rule_of r)) found.is (rule_here r table none safe defined found.variable (from_table (lift_rule r) found.variable found.among))

-- ---- atoms

module _ (table : List Variable) where
  -- an atom of the program has the arguments of its predicate
  atom_fits : (a : syntax.Atom) → IsFitting [] (numbered_atom table a)
  atom_fits a = (tt, length-map a.args (numbered table))

  -- so has each of a list
  atoms_fit : (ps : List syntax.Atom) → Each (IsFitting []) (map (numbered_atom table) ps)
  atoms_fit [] = tt
  atoms_fit (p ∷ ps) = (atom_fits p, atoms_fit ps)

  -- a head has the arguments of its predicate, and says nothing of a total
  head_fits : (h : Option syntax.Atom) → IsHead [] (numbered_head table h)
  head_fits None = tt
  head_fits (Some a) = (atom_fits a, tt)

  -- a head stays none or stays one
  no_head : (h : Option syntax.Atom) → numbered_head table h ≡ None → h ≡ None
  no_head None e = refl
  no_head (Some a) e = absurd (cc)

  -- no head counts for an aggregate
  no_member : (o : Option syntax.Atom) (h : CoreAtom) (agg arity : ℕ) → numbered_head table o ≡ Some h → h.pred ≡ pred.Member agg arity → ⊥
  no_member None h agg arity e is = absurd (cc)
  no_member (Some a) h agg arity e is =
      let same : numbered_atom table a ≡ h = cc in
      let wrong : pred.User a.negated a.name (length a.args) ≡ pred.Member agg arity = ap (λ (x : CoreAtom). x.pred) same ∙ is in
      absurd (cc)

  -- the terms have no arithmetic once numbers are in
  plain_terms : (ts : List Term) (k : ℕ) → Each (λ t. core.has_arithmetic t ≡ false) (map (numbered table) (lift_each lift_term ts k).lifted)
  plain_terms ts k = Each-from (λ t. core.has_arithmetic t ≡ false) (map (numbered table) (lift_each lift_term ts k).lifted) (λ t j.
      let found = ∈-map_from (numbered table) t (lift_each lift_term ts k).lifted j in
      ap core.has_arithmetic found.2 ∙ numbered_arithmetic table found.0 ∙ terms_plain ts k found.0 found.1)

  -- the lifted atoms have no arithmetic
  plain_atoms : (ps : List syntax.Atom) (k : ℕ) → Each HasNoArithmetic (map (numbered_atom table) (lift_each lift_atom ps k).lifted)
  plain_atoms [] k = tt
  plain_atoms (p ∷ ps) k = (plain_terms p.args k, plain_atoms ps (lift_atom p k).next)

-- ---- rules

-- each core rule is in form
rule_form : (r : SingleRule) → HasNoAggregate r → IsSafe (as_statement r) → ((v : Variable) → v ∈ variables_of r.defined → safety.IsBound (as_statement r) v)
    → (r.head ≡ None) ↔ (r.kind ≡ Constraint) → IsRuleForm [] (core_rule_of r)
rule_form r none safe defined heads =
    let names = table_of (lift_rule r) in
    let atoms = (lift_each lift_atom (positives r.body) (free_in r)).lifted in record {
      below = numbers_below r;
      bound = numbers_bound r none safe defined;
      lifted = plain_atoms names (positives r.body) (free_in r);
      fitting = Each-append (IsFitting []) (map (numbered_atom names) atoms) (map (numbered_atom names) (negatives r.body)) (atoms_fit names atoms) (atoms_fit names (negatives r.body));
      head = head_fits names r.head;
      constraint = ((λ e. heads.0 (no_head names r.head e)), (λ e. ap (numbered_head names) (heads.1 e)));
    }

-- what holds of what a list becomes
Each-of_map : {A B : Type 0} (P : B → Type 0) (f : A → B) (xs : List A) → ((x : A) → x ∈ xs → P (f x)) → Each P (map f xs)
Each-of_map P f [] h = tt
Each-of_map P f (x ∷ xs) h = (h x (inl refl), Each-of_map P f xs (λ y k. h y (inr k)))

-- each rule is in form, and no head counts for an aggregate
pub has_core_form : HasCoreForm
has_core_form rules single none = record {
  rules = Each-of_map (IsRuleForm []) core_rule_of rules (λ r k. rule_form r
      (Each-at HasNoAggregate rules r none k)
      (Each-at (λ r. IsSafe (as_statement r)) rules r single.safe k)
      (Each-at (λ r. (v : Variable) → v ∈ variables_of r.defined → safety.IsBound (as_statement r) v) rules r single.defined k)
      (Each-at (λ r. (r.head ≡ None) ↔ (r.kind ≡ Constraint)) rules r single.heads k));
  members = Each-of_map (IsBelowTotal (core_of rules)) core_rule_of rules (λ r k h b agg arity arity' e is among apart. absurd (no_member (table_of (lift_rule r)) r.head h agg arity e is));
}
