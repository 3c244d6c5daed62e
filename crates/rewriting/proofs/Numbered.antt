-- The instances of a rule with numbers for its variables are those of the rule itself.
use Rattle.std.proofs.Common.{◌≡◌, inl, inr, refl, sym, ap, subst, ◌∙◌, Bool, true, false, cond, nat_eq, is_some, List, [], ◌∷◌, ◌++◌, map, length, Option, Some, None, true≢false}
use Rattle.std.specs.List.{list_all}
use Rattle.alpha_outside.specs.declared.kinds.RuleKind.{RuleKind}
use Rattle.alpha_outside.specs.declared.kinds.RuleKind.TheVariants as rule
use Rattle.alpha_outside.specs.declared.pred.Pred.TheVariants as pred
use Rattle.lists.specs.Lists.{◌∈◌, Each, concat}
use Rattle.lists.proofs.ListLemmas.{∈-append_left, ∈-append_right}
use Rattle.asp_syntax.specs.declared.tree.CompareOp.{CompareOp}
use Rattle.asp_syntax.specs.declared.tree.Term.{Term}
use Rattle.asp_syntax.specs.declared.tree.Atom as syntax
use Rattle.asp_meaning.specs.declared.value.Value.{Value}
use Rattle.asp_meaning.specs.Terms.{Variable, Substitution, all_of, eval, eval_all}
use Rattle.asp_meaning.specs.Orders.{value_cmp, passes}
use Rattle.asp_meaning.specs.Programs.{HasValue}
use Rattle.search_values.specs.Instances.{Kind, Constraint, Instance}
use Rattle.search_values.proofs.Basics.{and_left, and_right, and_intro, nat_eq-same, nat_eq-true}
use Rattle.core_rules.specs.declared.rules.CoreRule.{CoreRule}
use Rattle.core_meaning.specs.Terms.{Binding, compared}
use Rattle.core_meaning.specs.Terms as meaning
use Rattle.core_meaning.specs.Atoms.{GroundAtom, with_arguments, atom_under}
use Rattle.core_meaning.specs.Instances.{is_true, is_met, kind_with, kind_under, assembled, instance_under}
use Rattle.rewriting.specs.Parts.{Comparison}
use Rattle.rewriting.specs.Lifting.{LiftedRule}
use Rattle.rewriting.specs.Numbering.{atom_terms, rule_terms, numbered, numbered_atom, numbered_head, numbered_test}
use Rattle.rewriting.specs.CoreRules.{rule_by}
use Rattle.rewriting.proofs.Evaluating.{Agrees}
use Rattle.rewriting.proofs.Extending.{in_each}
use Rattle.rewriting.proofs.Grounding.{made, atom_of, with_arguments-made}
use Rattle.rewriting.proofs.Bodies.{IsTrueOf}

-- what an instance with this head does under the substitution
abbrev pub kind_at : Substitution → RuleKind → Option syntax.Atom → Option (Kind GroundAtom)
kind_at s rule.Constraint None = Some Constraint
kind_at s rule.Plain None = None
kind_at s rule.Choice None = None
kind_at s rule.Constraint (Some h) = kind_with rule.Constraint (atom_of s h)
kind_at s rule.Plain (Some h) = kind_with rule.Plain (atom_of s h)
kind_at s rule.Choice (Some h) = kind_with rule.Choice (atom_of s h)

-- under the substitution the lifted rule makes this instance
pub record LiftedMakes (s : Substitution) (r : LiftedRule) (i : Instance GroundAtom) : Type 0 where
  pub tests : Each (IsTrueOf s) r.tests
  pub defined : Each (HasValue s) r.defined
  pub kind : kind_at s r.kind r.head ≡ Some i.kind
  pub pos : all_of (map (atom_of s) r.pos) ≡ Some i.pos
  pub neg : all_of (map (atom_of s) r.neg) ≡ Some i.neg

-- ---- comparisons

-- the comparison of two values is true
to_compared : (op : CompareOp) (o q : Option Value) (x y : Value) → o ≡ Some x → q ≡ Some y → passes op (value_cmp x y) ≡ true → is_true (compared op o q) ≡ true
to_compared op o q x y e f h = (λ i. is_true (compared op (e i) (f i))) ∙ h

-- and the other way round
from_compared : (op : CompareOp) (o q : Option Value) → is_true (compared op o q) ≡ true → (x : Value) × (y : Value) × (o ≡ Some x) × (q ≡ Some y) × (passes op (value_cmp x y) ≡ true)
from_compared op None None h = absurd (true≢false (sym h))
from_compared op None (Some y) h = absurd (true≢false (sym h))
from_compared op (Some x) None h = absurd (true≢false (sym h))
from_compared op (Some x) (Some y) h = (x, y, refl, refl, h)

-- what is not missing is there
has_some : (o : Option Value) → is_some o ≡ true → (x : Value) × (o ≡ Some x)
has_some None h = absurd (true≢false (sym h))
has_some (Some x) h = (x, refl)

-- ---- what an instance takes

-- a rule that makes an instance is met, and its parts are those of the instance
pub record IsUnder (b : Binding) (r : CoreRule) (i : Instance GroundAtom) : Type 0 where
  pub met : is_met r b ≡ true
  pub kind : kind_under [] b r.kind r.head ≡ Some i.kind
  pub pos : all_of (map (atom_under [] b) r.pos) ≡ Some i.pos
  pub neg : all_of (map (atom_under [] b) r.neg) ≡ Some i.neg

-- an instance that is put together has the parts that it was put together from
instance_parts : (k : Option (Kind GroundAtom)) (ps ns : Option (List GroundAtom)) (i : Instance GroundAtom) → assembled k ps ns ≡ Some i
    → (k ≡ Some i.kind) × (ps ≡ Some i.pos) × (ns ≡ Some i.neg)
instance_parts (Some k) (Some ps) (Some ns) i e =
    let same : record { kind = k; pos = ps; neg = ns } ≡ i = inside (record { kind = k; pos = ps; neg = ns }) i e in
    (ap (λ (j : Instance GroundAtom). Some j.kind) same, ap (λ (j : Instance GroundAtom). Some j.pos) same, ap (λ (j : Instance GroundAtom). Some j.neg) same)
  where
    inside : (x y : Instance GroundAtom) → Some x ≡ Some y → x ≡ y
    inside x y e = cc
instance_parts None ps ns i e = cc
instance_parts (Some k) None ns i e = cc
instance_parts (Some k) (Some ps) None i e = cc

-- an instance that a rule makes is under it
pub instance_under-read : (b : Binding) (r : CoreRule) (i : Instance GroundAtom) → instance_under [] b r ≡ Some i → IsUnder b r i
instance_under-read b r i e = by_case (is_met r b) refl e
  where
    by_case : (m : Bool) → is_met r b ≡ m
        → cond m (assembled (kind_under [] b r.kind r.head) (all_of (map (atom_under [] b) r.pos)) (all_of (map (atom_under [] b) r.neg))) None ≡ Some i → IsUnder b r i
    by_case false is e = cc
    by_case true is e =
        let parts = instance_parts (kind_under [] b r.kind r.head) (all_of (map (atom_under [] b) r.pos)) (all_of (map (atom_under [] b) r.neg)) i e in
        record { met = is; kind = parts.0; pos = parts.1; neg = parts.2 }

-- and a rule makes each instance that is under it
pub instance_under-made : (b : Binding) (r : CoreRule) (i : Instance GroundAtom) → IsUnder b r i → instance_under [] b r ≡ Some i
instance_under-made b r i h =
    let kind = h.kind in
    let pos = h.pos in
    let neg = h.neg in
    ap (λ m. cond m (assembled (kind_under [] b r.kind r.head) (all_of (map (atom_under [] b) r.pos)) (all_of (map (atom_under [] b) r.neg))) None) h.met
    ∙ (λ j. assembled (kind j) (pos j) (neg j))

-- a rule that is met has as many values as variables
pub met_length : (b : Binding) (r : CoreRule) → is_met r b ≡ true → length b ≡ r.variables
met_length b r h = nat_eq-true (length b) r.variables (and_left (nat_eq (length b) r.variables) _ h)

-- ---- the rule with numbers

module _ (b : Binding) (table : List Variable) (s : Substitution) where
  -- these terms have their values
  abbrev Agree : List Term → Type 0
  Agree ts = (t : Term) → t ∈ ts → Agrees b table s t

  -- so a list of them has its values
  terms_agree : (ts : List Term) → Agree ts → map (meaning.eval b) (map (numbered table) ts) ≡ map (eval s) ts
  terms_agree [] h = refl
  terms_agree (t ∷ ts) h = let first = h t (inl refl) in let rest = terms_agree ts (λ u i. h u (inr i)) in λ i. first i ∷ rest i

  -- an atom of such terms becomes what it becomes under the substitution
  atom_agrees : (p : syntax.Atom) → Agree p.args → atom_under [] b (numbered_atom table p) ≡ atom_of s p
  atom_agrees p h =
      ap (λ xs. with_arguments [] (pred.User p.negated p.name (length p.args)) (all_of xs)) (terms_agree p.args h)
      ∙ with_arguments-made p.negated p.name (length p.args) (eval_all s p.args)

  -- and so do all atoms of a list
  atoms_agree : (ps : List syntax.Atom) → ((p : syntax.Atom) → p ∈ ps → Agree p.args) → map (atom_under [] b) (map (numbered_atom table) ps) ≡ map (atom_of s) ps
  atoms_agree [] h = refl
  atoms_agree (p ∷ ps) h = let first = atom_agrees p (h p (inl refl)) in let rest = atoms_agree ps (λ q i. h q (inr i)) in λ i. first i ∷ rest i

  -- with such a head the kind is that under the substitution
  kind_agrees : (kind : RuleKind) (h : Option syntax.Atom) → Agree (atom_terms h) → kind_under [] b kind (numbered_head table h) ≡ kind_at s kind h
  kind_agrees rule.Plain None h = refl
  kind_agrees rule.Choice None h = refl
  kind_agrees rule.Constraint None h = refl
  kind_agrees rule.Plain (Some a) h = ap (kind_with rule.Plain) (atom_agrees a h)
  kind_agrees rule.Choice (Some a) h = ap (kind_with rule.Choice) (atom_agrees a h)
  kind_agrees rule.Constraint (Some a) h = ap (kind_with rule.Constraint) (atom_agrees a h)

  -- the terms of a comparison
  abbrev comparison_terms : Comparison → List Term
  comparison_terms c = c.left ∷ c.right ∷ []

  -- whether the comparison is true under the binding
  abbrev passed : Comparison → Bool
  passed c = is_true (meaning.outcome b (numbered_test table c))

  -- it is as under the substitution
  compared_agrees : (c : Comparison) → Agree (comparison_terms c) → passed c ≡ is_true (compared c.op (eval s c.left) (eval s c.right))
  compared_agrees c h =
      let left = h c.left (inl refl) in
      let right = h c.right (inr (inl refl)) in
      λ i. is_true (compared c.op (left i) (right i))

  -- comparisons that are true under the substitution pass
  tests_to : (cs : List Comparison) → ((c : Comparison) → c ∈ cs → Agree (comparison_terms c)) → Each (IsTrueOf s) cs
      → list_all (λ t. is_true (meaning.outcome b t)) (map (numbered_test table) cs) ≡ true
  tests_to [] h holds = refl
  tests_to (c ∷ cs) h holds =
      and_intro (passed c) (list_all (λ t. is_true (meaning.outcome b t)) (map (numbered_test table) cs))
      (compared_agrees c (h c (inl refl)) ∙ to_compared c.op (eval s c.left) (eval s c.right) holds.0.0 holds.0.1 holds.0.2 holds.0.3 holds.0.4)
      (tests_to cs (λ d i. h d (inr i)) holds.1)

  -- and those that pass are true
  tests_from : (cs : List Comparison) → ((c : Comparison) → c ∈ cs → Agree (comparison_terms c))
      → list_all (λ t. is_true (meaning.outcome b t)) (map (numbered_test table) cs) ≡ true → Each (IsTrueOf s) cs
  tests_from [] h all = tt
  tests_from (c ∷ cs) h all = (
    from_compared c.op (eval s c.left) (eval s c.right)
        (sym (compared_agrees c (h c (inl refl))) ∙ and_left (passed c) (list_all (λ t. is_true (meaning.outcome b t)) (map (numbered_test table) cs)) all),
    tests_from cs (λ d i. h d (inr i)) (and_right (passed c) (list_all (λ t. is_true (meaning.outcome b t)) (map (numbered_test table) cs)) all),
  )

  -- whether the term has a value under the binding
  abbrev has_value : Term → Bool
  has_value t = is_some (meaning.eval b (numbered table t))

  -- terms that have values under the substitution are defined
  defined_to : (ts : List Term) → Agree ts → Each (HasValue s) ts → list_all (λ t. is_some (meaning.eval b t)) (map (numbered table) ts) ≡ true
  defined_to [] h have = refl
  defined_to (t ∷ ts) h have =
      and_intro (has_value t) (list_all (λ t. is_some (meaning.eval b t)) (map (numbered table) ts)) (ap is_some (h t (inl refl) ∙ have.0.1))
      (defined_to ts (λ u i. h u (inr i)) have.1)

  -- and those that are defined have values
  defined_from : (ts : List Term) → Agree ts → list_all (λ t. is_some (meaning.eval b t)) (map (numbered table) ts) ≡ true → Each (HasValue s) ts
  defined_from [] h all = tt
  defined_from (t ∷ ts) h all = (
    has_some (eval s t) (ap is_some (sym (h t (inl refl))) ∙ and_left (has_value t) (list_all (λ t. is_some (meaning.eval b t)) (map (numbered table) ts)) all),
    defined_from ts (λ u i. h u (inr i)) (and_right (has_value t) (list_all (λ t. is_some (meaning.eval b t)) (map (numbered table) ts)) all),
  )

  -- the terms of each part agree
  record PartsAgree (r : LiftedRule) : Type 0 where
    head : Agree (atom_terms r.head)
    pos : (p : syntax.Atom) → p ∈ r.pos → Agree p.args
    neg : (p : syntax.Atom) → p ∈ r.neg → Agree p.args
    tests : (c : Comparison) → c ∈ r.tests → Agree (comparison_terms c)
    defined : Agree r.defined

  -- they do where all terms of the rule do
  parts_agree : (r : LiftedRule) → Agree (rule_terms r) → PartsAgree r
  parts_agree r h =
      let terms_of : List syntax.Atom → List Term = λ ps. concat (map (λ (a : syntax.Atom). a.args) ps) in
      let of_tests : List Term = concat (map comparison_terms r.tests) in
      let to_pos : List Term = atom_terms r.head ++ terms_of r.pos in
      let to_neg : List Term = to_pos ++ terms_of r.neg in
      let to_tests : List Term = to_neg ++ of_tests in
      let by_tests : Agree to_tests = λ t i. h t (∈-append_left t to_tests r.defined i) in
      let by_neg : Agree to_neg = λ t i. by_tests t (∈-append_left t to_neg of_tests i) in
      let by_pos : Agree to_pos = λ t i. by_neg t (∈-append_left t to_pos (terms_of r.neg) i) in
      record {
        head = λ t i. by_pos t (∈-append_left t (atom_terms r.head) (terms_of r.pos) i);
        pos = λ p i t j. by_pos t (∈-append_right t (atom_terms r.head) (terms_of r.pos) (in_each (λ (a : syntax.Atom). a.args) r.pos p t i j));
        neg = λ p i t j. by_neg t (∈-append_right t to_pos (terms_of r.neg) (in_each (λ (a : syntax.Atom). a.args) r.neg p t i j));
        tests = λ c i t j. by_tests t (∈-append_right t to_neg of_tests (in_each comparison_terms r.tests c t i j));
        defined = λ t i. h t (∈-append_right t to_tests r.defined i);
      }

  -- what the lifted rule makes, the rule with numbers makes
  pub number_to : (r : LiftedRule) (i : Instance GroundAtom) → ((t : Term) → t ∈ rule_terms r → Agrees b table s t) → length b ≡ length table → LiftedMakes s r i
      → instance_under [] b (rule_by table r) ≡ Some i
  number_to r i h sizes makes =
      let parts = parts_agree r h in
      instance_under-made b (rule_by table r) i (record {
        met = and_intro (nat_eq (length b) (length table)) _ (subst (λ n. nat_eq (length b) n ≡ true) sizes (nat_eq-same (length b)))
            (and_intro _ _ (tests_to r.tests parts.tests makes.tests) (defined_to r.defined parts.defined makes.defined));
        kind = kind_agrees r.kind r.head parts.head ∙ makes.kind;
        pos = ap all_of (atoms_agree r.pos parts.pos) ∙ makes.pos;
        neg = ap all_of (atoms_agree r.neg parts.neg) ∙ makes.neg;
      })

  -- and the other way round
  pub number_from : (r : LiftedRule) (i : Instance GroundAtom) → ((t : Term) → t ∈ rule_terms r → Agrees b table s t) → IsUnder b (rule_by table r) i → LiftedMakes s r i
  number_from r i h made =
      let parts = parts_agree r h in
      let met = and_right (nat_eq (length b) (length table)) _ made.met in
      record {
        tests = tests_from r.tests parts.tests (and_left (list_all (λ t. is_true (meaning.outcome b t)) (map (numbered_test table) r.tests)) _ met);
        defined = defined_from r.defined parts.defined (and_right (list_all (λ t. is_true (meaning.outcome b t)) (map (numbered_test table) r.tests)) _ met);
        kind = sym (kind_agrees r.kind r.head parts.head) ∙ made.kind;
        pos = ap all_of (sym (atoms_agree r.pos parts.pos)) ∙ made.pos;
        neg = ap all_of (sym (atoms_agree r.neg parts.neg)) ∙ made.neg;
      }
