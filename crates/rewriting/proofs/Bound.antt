-- Each variable of a lifted rule is bound in the core rule.
use Rattle.std.proofs.Common.{◌≡◌, inl, inr, refl, sym, ap, subst, ℕ, false, List, [], ◌∷◌, ◌++◌, map, Option, Some, None}
use Rattle.lists.specs.Lists.{◌∈◌, concat}
use Rattle.lists.proofs.ListLemmas.{Each-at, ∈-append_left, ∈-append_right, ∈-append_cases, ∈-map, ∈-map_from}
use Rattle.asp_syntax.specs.declared.tree.CompareOp.TheVariants.{Equal}
use Rattle.asp_syntax.specs.declared.tree.Term.{Term}
use Rattle.asp_syntax.specs.declared.tree.Term.TheOpen as layer
use Rattle.asp_syntax.specs.declared.tree.Term.TheVariants as tree
use Rattle.asp_syntax.specs.declared.tree.Term.TheViews.{roll-Term}
use Rattle.asp_syntax.specs.declared.tree.Term.TheFolds.{fold-roll-Term}
use Rattle.asp_syntax.specs.declared.tree.Atom as syntax
use Rattle.asp_syntax.specs.declared.tree.Literal.{Literal}
use Rattle.asp_syntax.specs.declared.tree.Literal.TheVariants as literal
use Rattle.asp_syntax.specs.declared.tree.Item.{Item}
use Rattle.asp_syntax.specs.declared.tree.Item.TheVariants as item
use Rattle.asp_meaning.specs.Terms.{Variable, anonymous}
use Rattle.asp_meaning.specs.Variables.{variables, variables_step}
use Rattle.asp_safety.specs.Binding as safety
use Rattle.asp_safety.specs.Binding.{outside_arithmetic, outside_of, variables_of, literal_variables, term_of, Occurrence, occur, item_occurrences, head_occurrences, occurrences, IsBoundThere, IsSafe}
use Rattle.single_rules.specs.declared.single.SingleRule.{SingleRule}
use Rattle.single_rules.specs.SingleRules.{head_of, as_statement}
use Rattle.core_rules.specs.declared.rules.Test.TheVariants as test
use Rattle.core_rules.specs.declared.rules.CoreRule.{CoreRule}
use Rattle.core_rules.specs.Variables as core
use Rattle.core_rules.specs.CoreForm as core_form
use Rattle.rewriting.specs.Parts.{IsLiteral, HasNoAggregate, Comparison, literal_positives, literal_negatives, literal_comparisons, of_item, positives, negatives, comparisons}
use Rattle.rewriting.specs.Lifting.{Equation, Lifted, lift_each, lift_term, lift_atom, equation_test, free_in, lift_rule}
use Rattle.rewriting.specs.Numbering.{atom_terms, rule_terms, place, numbered, numbered_atom, numbered_test}
use Rattle.rewriting.specs.CoreRules.{rule_by}
use Rattle.rewriting.proofs.NumberedTerms.{numbered_variable, numbered_variables, numbered_outside}
use Rattle.rewriting.proofs.LiftedLists.{∈-concat_map, ∈-concat_map_from, lifted_from, lifted_to, equation_from}
use Rattle.rewriting.proofs.LiftedTerms.{IsFresh, terms_outside, terms_variables, terms_sources}

-- ---- parts of a body

-- what a literal of a body gives is among what the body gives
pub part_in : {A : Type 0} (f : Literal → List A) (body : List Item) (l : Literal) (x : A) → item.Plain l ∈ body → x ∈ f l → x ∈ concat (map (of_item f) body)
part_in f body l x here k = ∈-concat_map (of_item f) (item.Plain l) body x here k

-- what a body gives is given by one of its literals
pub part_from : {A : Type 0} (f : Literal → List A) (body : List Item) (x : A) → x ∈ concat (map (of_item f) body) → (l : Literal) × (item.Plain l ∈ body) × (x ∈ f l)
part_from f body x k = let found = ∈-concat_map_from (of_item f) body x k in by_case found.0 found.1 found.2
  where
    by_case : (i : Item) → i ∈ body → x ∈ of_item f i → (l : Literal) × (item.Plain l ∈ body) × (x ∈ f l)
    by_case (item.Plain l) here k = (l, here, k)
    by_case (item.Aggregate denied g) here k = absurd k

-- the literal that gives a positive atom
pub positive_is : (l : Literal) (p : syntax.Atom) → p ∈ literal_positives l → l ≡ literal.Positive p
positive_is (literal.Positive q) p (inl e) = ap literal.Positive (sym e)
positive_is (literal.Positive q) p (inr none) = absurd none
positive_is (literal.Negative q) p k = absurd k
positive_is (literal.Compare op x y) p k = absurd k

-- the literal that gives an atom under `not`
pub negative_is : (l : Literal) (p : syntax.Atom) → p ∈ literal_negatives l → l ≡ literal.Negative p
negative_is (literal.Positive q) p k = absurd k
negative_is (literal.Negative q) p (inl e) = ap literal.Negative (sym e)
negative_is (literal.Negative q) p (inr none) = absurd none
negative_is (literal.Compare op x y) p k = absurd k

-- the literal that gives a comparison
pub comparison_is : (l : Literal) (c : Comparison) → c ∈ literal_comparisons l → l ≡ literal.Compare c.op c.left c.right
comparison_is (literal.Positive q) c k = absurd k
comparison_is (literal.Negative q) c k = absurd k
comparison_is (literal.Compare op x y) c (inl e) = λ i. literal.Compare (sym e i).op (sym e i).left (sym e i).right
comparison_is (literal.Compare op x y) c (inr none) = absurd none

-- the literals that a body has for its parts
pub positive_from : (body : List Item) (p : syntax.Atom) → p ∈ positives body → item.Plain (literal.Positive p) ∈ body
positive_from body p k = let found = part_from literal_positives body p k in subst (λ l. item.Plain l ∈ body) (positive_is found.0 p found.2) found.1

-- an atom under `not` stands so in the body
pub negative_from : (body : List Item) (p : syntax.Atom) → p ∈ negatives body → item.Plain (literal.Negative p) ∈ body
negative_from body p k = let found = part_from literal_negatives body p k in subst (λ l. item.Plain l ∈ body) (negative_is found.0 p found.2) found.1

-- a comparison stands so in the body
pub comparison_from : (body : List Item) (c : Comparison) → c ∈ comparisons body → item.Plain (literal.Compare c.op c.left c.right) ∈ body
comparison_from body c k = let found = part_from literal_comparisons body c k in subst (λ l. item.Plain l ∈ body) (comparison_is found.0 c found.2) found.1

-- a member of a list of one is that one
the_only : {A : Type 0} (x y : A) → x ∈ (y ∷ []) → x ≡ y
the_only x y (inl e) = e
the_only x y (inr none) = absurd none

-- ---- what safety says

module _ (r : SingleRule) (safe : IsSafe (as_statement r)) where
  -- bound in the rule
  abbrev IsBoundSingly : Variable → Type 0
  IsBoundSingly = safety.IsBound (as_statement r)

  -- a variable that occurs outside elements is bound
  occurs : (v : Variable) → record { within = None; variable = v } ∈ occurrences (as_statement r) → IsBoundSingly v
  occurs v k = Each-at (IsBoundThere (as_statement r)) (occurrences (as_statement r)) (record { within = None; variable = v }) safe k

  -- each variable of a list of terms occurs
  listed : (vs : List Variable) (v : Variable) → v ∈ vs → record { within = None; variable = v } ∈ occur None vs
  listed vs v k = ∈-map (λ w. record { within = None; variable = w }) v vs k

  -- each variable of the head is bound
  head_bound : (v : Variable) → v ∈ variables_of (atom_terms r.head) → IsBoundSingly v
  head_bound v k = occurs v (∈-append_left (record { within = None; variable = v }) (head_occurrences (head_of r.head)) (concat (map item_occurrences r.body)) (by_case r.head k))
    where
      by_case : (h : Option syntax.Atom) → v ∈ variables_of (atom_terms h) → record { within = None; variable = v } ∈ head_occurrences (head_of h)
      by_case None k = absurd k
      by_case (Some a) k = listed (variables_of a.args) v k

  -- each variable of a literal of the body is bound
  literal_bound : (l : Literal) → item.Plain l ∈ r.body → (v : Variable) → v ∈ literal_variables l → IsBoundSingly v
  literal_bound l here v k = occurs v (∈-append_right (record { within = None; variable = v }) (head_occurrences (head_of r.head)) (concat (map item_occurrences r.body))
      (∈-concat_map item_occurrences (item.Plain l) r.body (record { within = None; variable = v }) here (listed (literal_variables l) v k)))

-- ---- the core rule

module _ (r : SingleRule) (table : List Variable) where
  -- the lifted positive atoms
  abbrev atoms : Lifted (List syntax.Atom)
  atoms = lift_each lift_atom (positives r.body) (free_in r)

  -- the rule with numbers
  abbrev made : CoreRule
  made = rule_by table (lift_rule r)

  -- the variable's number is bound in it
  abbrev IsBoundHere : Variable → Type 0
  IsBoundHere v = core_form.IsBound made (place table v)

  -- where each variable of a term is bound, each number in the term with numbers is
  numbers_bound : (t : Term) → ((w : Variable) → w ∈ variables t → IsBoundHere w) → (n : ℕ) → n ∈ core.variables (numbered table t) → core_form.IsBound made n
  numbers_bound t h n k =
      let found = ∈-map_from (place table) n (variables t) (subst (λ ns. n ∈ ns) (numbered_variables table t) k) in
      subst (core_form.IsBound made) (sym found.2) (h found.0 found.1)

  -- a variable outside arithmetic in a positive atom
  by_atom : (v : Variable) (p : syntax.Atom) → p ∈ positives r.body → v ∈ outside_of p.args → IsBoundHere v
  by_atom v p among k =
      let lifted = lifted_to lift_atom (positives r.body) (free_in r) p among in
      let args = (lift_each lift_term p.args lifted.start).lifted in
      let found = ∈-concat_map_from outside_arithmetic args v (terms_outside p.args lifted.start v k) in
      core_form.in_atom (place table v) (numbered_atom table (lift_atom p lifted.start).lifted) (numbered table found.0)
      (∈-map (numbered_atom table) (lift_atom p lifted.start).lifted atoms.lifted lifted.among)
      (∈-map (numbered table) found.0 args found.1)
      (subst (λ ns. place table v ∈ ns) (sym (numbered_outside table found.0)) (∈-map (place table) v (outside_arithmetic found.0) found.2))

  -- a test of a lifted rule, with numbers
  test_in : (c : Comparison) → c ∈ (lift_rule r).tests → numbered_test table c ∈ made.tests
  test_in c k = ∈-map (numbered_test table) c (lift_rule r).tests k

  -- an equation of a variable with a term whose variables are bound
  by_left : (v : Variable) (t : Term) → record { op = Equal; left = term_of v; right = t } ∈ (lift_rule r).tests → ((w : Variable) → w ∈ variables t → IsBoundHere w) → IsBoundHere v
  by_left v t k h = core_form.by_equation (place table v) (numbered table t) (numbered_test table (record { op = Equal; left = term_of v; right = t }))
      (test_in (record { op = Equal; left = term_of v; right = t }) k)
      (inl (ap (λ x. test.Compare Equal x (numbered table t)) (numbered_variable table v)))
      (numbers_bound t h)

  -- the same with the variable on the right
  by_right : (v : Variable) (t : Term) → record { op = Equal; left = t; right = term_of v } ∈ (lift_rule r).tests → ((w : Variable) → w ∈ variables t → IsBoundHere w) → IsBoundHere v
  by_right v t k h = core_form.by_equation (place table v) (numbered table t) (numbered_test table (record { op = Equal; left = t; right = term_of v }))
      (test_in (record { op = Equal; left = t; right = term_of v }) k)
      (inr (ap (λ x. test.Compare Equal (numbered table t) x) (numbered_variable table v)))
      (numbers_bound t h)

  -- a comparison of the body is a test of the lifted rule
  compared : (l : Literal) (c : Comparison) → item.Plain l ∈ r.body → l ≡ literal.Compare c.op c.left c.right → c ∈ (lift_rule r).tests
  compared l c here e = ∈-append_right c (map equation_test atoms.equations) (comparisons r.body)
      (part_in literal_comparisons r.body (literal.Compare c.op c.left c.right) c (subst (λ l. item.Plain l ∈ r.body) e here) (inl refl))

  module _ (none : HasNoAggregate r) where
    -- what is bound in the rule is bound in the core rule
    pub bound_here : (v : Variable) → safety.IsBound (as_statement r) v → IsBoundHere v
    bound_here v (safety.in_atom w p here k) = by_atom w p (part_in literal_positives r.body (literal.Positive p) p here (inl refl)) k
    bound_here v (safety.by_equation w t l here (inl e) h) =
        by_left w t (compared l (record { op = Equal; left = term_of w; right = t }) here e) (λ u k. bound_here u (h u k))
    bound_here v (safety.by_equation w t l here (inr e) h) =
        by_right w t (compared l (record { op = Equal; left = t; right = term_of w }) here e) (λ u k. bound_here u (h u k))
    bound_here v (safety.by_aggregate w g here number h) = absurd (Each-at IsLiteral r.body (item.Aggregate false g) none here)

    module _ (safe : IsSafe (as_statement r)) (defined : (v : Variable) → v ∈ variables_of r.defined → safety.IsBound (as_statement r) v) where
      -- a variable of a literal is bound in the core rule
      literal_here : (l : Literal) → item.Plain l ∈ r.body → (v : Variable) → v ∈ literal_variables l → IsBoundHere v
      literal_here l here v k = bound_here v (literal_bound r safe l here v k)

      -- the variables of an equation's term are bound
      source_here : (e : Equation) → e ∈ atoms.equations → (w : Variable) → w ∈ variables e.term → IsBoundHere w
      source_here e k w j =
          let of = equation_from lift_atom (positives r.body) (free_in r) e k in
          let from = terms_sources of.source.args of.start e of.here in
          literal_here (literal.Positive of.source) (positive_from r.body of.source of.among) w (∈-concat_map variables from.0 of.source.args w from.1 (from.2.variables w j))

      -- a fresh variable is bound by its equation
      fresh_here : (v : Variable) → IsFresh atoms.equations v → IsBoundHere v
      fresh_here v (e, k, is) = subst IsBoundHere (sym is) (by_left (anonymous e.fresh) e.term
          (subst (λ t. record { op = Equal; left = t; right = e.term } ∈ (lift_rule r).tests) (tree.rolls-Anonymous e.fresh)
          (∈-append_left (equation_test e) (map equation_test atoms.equations) (comparisons r.body) (∈-map equation_test e atoms.equations k)))
          (source_here e k))

      -- each variable of a positive atom
      pos_here : (a : syntax.Atom) → a ∈ atoms.lifted → (v : Variable) → v ∈ variables_of a.args → IsBoundHere v
      pos_here a k v j =
          let of = lifted_from lift_atom (positives r.body) (free_in r) a k in
          elim (terms_variables of.source.args of.start v (subst (λ (b : syntax.Atom). v ∈ variables_of b.args) of.is j)) [
            | inl h ↦ literal_here (literal.Positive of.source) (positive_from r.body of.source of.among) v h
            | inr (e, h, is) ↦ fresh_here v (e, of.within e h, is)
          ]

      -- each variable of an equation
      equation_here : (e : Equation) → e ∈ atoms.equations → (v : Variable) → v ∈ variables_of (roll-Term (layer.Anonymous e.fresh) ∷ e.term ∷ []) → IsBoundHere v
      equation_here e k v j =
          let found = ∈-concat_map_from variables (roll-Term (layer.Anonymous e.fresh) ∷ e.term ∷ []) v j in
          elim found.1 [
            | inl same ↦ fresh_here v (e, k, the_only v (anonymous e.fresh) (subst (λ vs. v ∈ vs) (fold-roll-Term (List Variable) variables_step (layer.Anonymous e.fresh)) (subst (λ t. v ∈ variables t) same found.2)))
            | inr (inl same) ↦ source_here e k v (subst (λ t. v ∈ variables t) same found.2)
            | inr (inr nothing) ↦ absurd nothing
          ]

      -- each variable of a test
      test_here : (c : Comparison) → c ∈ (lift_rule r).tests → (v : Variable) → v ∈ variables_of (c.left ∷ c.right ∷ []) → IsBoundHere v
      test_here c k v j = elim (∈-append_cases c (map equation_test atoms.equations) (comparisons r.body) k) [
        | inl h ↦ let found = ∈-map_from equation_test c atoms.equations h in
            equation_here found.0 found.1 v (subst (λ (d : Comparison). v ∈ variables_of (d.left ∷ d.right ∷ [])) found.2 j)
        | inr h ↦ literal_here (literal.Compare c.op c.left c.right) (comparison_from r.body c h) v j
      ]

      -- each variable of the lifted rule is bound in the core rule
      pub rule_here : (v : Variable) → v ∈ variables_of (rule_terms (lift_rule r)) → IsBoundHere v
      rule_here v k =
          let found = ∈-concat_map_from variables (rule_terms (lift_rule r)) v k in
          let t = found.0 in
          let head = atom_terms r.head in
          let pos = concat (map (λ (a : syntax.Atom). a.args) atoms.lifted) in
          let neg = concat (map (λ (a : syntax.Atom). a.args) (negatives r.body)) in
          let tests = concat (map (λ (c : Comparison). c.left ∷ c.right ∷ []) (lift_rule r).tests) in
          elim (∈-append_cases t (head ++ pos ++ neg ++ tests) r.defined found.1) [
            | inr h ↦ bound_here v (defined v (∈-concat_map variables t r.defined v h found.2))
            | inl h ↦ elim (∈-append_cases t (head ++ pos ++ neg) tests h) [
              | inr h ↦ let c = ∈-concat_map_from (λ (c : Comparison). c.left ∷ c.right ∷ []) (lift_rule r).tests t h in
                  test_here c.0 c.1 v (∈-concat_map variables t (c.0.left ∷ c.0.right ∷ []) v c.2 found.2)
              | inl h ↦ elim (∈-append_cases t (head ++ pos) neg h) [
                | inr h ↦ let a = ∈-concat_map_from (λ (a : syntax.Atom). a.args) (negatives r.body) t h in
                    literal_here (literal.Negative a.0) (negative_from r.body a.0 a.1) v (∈-concat_map variables t a.0.args v a.2 found.2)
                | inl h ↦ elim (∈-append_cases t head pos h) [
                  | inl h ↦ bound_here v (head_bound r safe v (∈-concat_map variables t head v h found.2))
                  | inr h ↦ let a = ∈-concat_map_from (λ (a : syntax.Atom). a.args) atoms.lifted t h in
                      pos_here a.0 a.1 v (∈-concat_map variables t a.0.args v a.2 found.2)
                ]
              ]
            ]
          ]
