-- Single rules have no recursive aggregates and well-formed names where the statements have.
use Rattle.std.proofs.Common.{◌≡◌, ◌⊎◌, ◌↔◌, inl, inr, refl, sym, ap, subst, ◌∙◌, suc, List, [], ◌∷◌, ◌++◌, map, length, Option, Some, None}
use Rattle.lists.specs.Lists.{◌∈◌, ◌⊆◌, Each, concat}
use Rattle.lists.proofs.ListLemmas.{Each-at, Each-from, ∈-append_left, ∈-append_right, ∈-append_cases, ∈-map, ∈-map_from}
use Rattle.alpha_outside.specs.declared.kinds.RuleKind.TheVariants as rule
use Rattle.asp_syntax.specs.declared.tree.Atom as syntax
use Rattle.asp_syntax.specs.declared.tree.Guard.{Guard}
use Rattle.asp_syntax.specs.declared.tree.Literal.{Literal}
use Rattle.asp_syntax.specs.declared.tree.Literal.TheVariants as literal
use Rattle.asp_syntax.specs.declared.tree.Item.{Item}
use Rattle.asp_syntax.specs.declared.tree.ChoiceElement.{ChoiceElement}
use Rattle.asp_syntax.specs.declared.tree.Head.{Head}
use Rattle.asp_syntax.specs.declared.tree.Head.TheVariants as head
use Rattle.asp_syntax.specs.declared.tree.Statement.{Statement}
use Rattle.asp_meaning.specs.Terms.{Variable}
use Rattle.asp_meaning.specs.Variables.{global_terms}
use Rattle.asp_strata.specs.declared.predicate.Predicate.{Predicate}
use Rattle.asp_strata.specs.Recursion.{predicate_of, literal_predicates, item_element_predicates, item_predicates, element_predicates, body_predicates, choice_condition, head_predicates, condition_of_head, needed_predicates, DependsOn, at_once, carried_on, DependsOnHead, HasNoRecursion}
use Rattle.asp_safety.specs.Binding.{IsSafe, IsBound, variables_of}
use Rattle.single_rules.specs.declared.single.SingleRule.{SingleRule}
use Rattle.single_rules.specs.SingleRules.{as_statement, AreSingleRules}
use Rattle.single_rules.specs.Renaming.{new_name, renamed, renamed_atom, renamed_literal}
use Rattle.single_rules.specs.Signs.{predicates_in_text, later_signs, sign_rule, sign_rules}
use Rattle.single_rules.specs.Splitting.{constraint_rule, plain_rule, condition_item, element_rule, count_of, bound_rule, bound_rules, rules_with, rules_of, singles_of}
use Rattle.single_rules.proofs.Parts.{∈-concat_map, ∈-concat_map_from}
use Rattle.single_rules.proofs.Bounds.{globals_bound}
use Rattle.single_rules.proofs.ElementRules.{IsElement}
use Rattle.single_rules.proofs.KeptBound.{bound_too, rule_longer, element_rule_safe, bound_longer, bound_rule_safe, sign_rule_safe}

-- ---- dependence

-- what a list becomes is as long as it is
as_many : {A B : Type 0} (f : A → B) (xs : List A) → length (map f xs) ≡ length xs
as_many f [] = refl
as_many f (x ∷ xs) = ap suc (as_many f xs)

-- an atom with new names has the same predicate
predicate_renamed : (r : Variable → Variable) (a : syntax.Atom) → predicate_of (renamed_atom r a) ≡ predicate_of a
predicate_renamed r a = ap (λ n. record { negated = a.negated; name = a.name; arity = n }) (as_many (renamed r) a.args)

-- and so has a literal
predicates_renamed : (r : Variable → Variable) (l : Literal) → literal_predicates (renamed_literal r l) ≡ literal_predicates l
predicates_renamed r (literal.Positive a) = ap (λ p. p ∷ []) (predicate_renamed r a)
predicates_renamed r (literal.Negative a) = ap (λ p. p ∷ []) (predicate_renamed r a)
predicates_renamed r (literal.Compare op x y) = refl

-- a rule whose head and needs are among those of the statement, or that has no head
data ComesFrom (x : Statement) (y : Statement) : Type 0 where
  headless : head_predicates y.head ≡ [] → ComesFrom x y
  narrower : head_predicates y.head ⊆ head_predicates x.head → needed_predicates y ⊆ needed_predicates x
      → element_predicates y ⊆ element_predicates x → ComesFrom x y

module _ (x : Statement) (e : ChoiceElement) (left right : Option Guard) (elements : List ChoiceElement)
    (is : x.head ≡ head.Choice left elements right) (among : e ∈ elements) where
  -- the new names
  abbrev r : Variable → Variable
  r = new_name x

  -- what the body of the element's rule has beside that of the statement
  abbrev added : List Item
  added = map (condition_item x) e.condition

  -- the rule of the element, as a statement
  abbrev y : Statement
  y = as_statement (element_rule x e)

  -- its head predicate is one of the statement's
  heads_narrow : head_predicates y.head ⊆ head_predicates x.head
  heads_narrow p (inl same) = subst (λ h. p ∈ head_predicates h) (sym is)
      (subst (λ q. q ∈ map (λ (c : ChoiceElement). predicate_of c.atom) elements) (sym (same ∙ predicate_renamed r e.atom))
      (∈-map (λ (c : ChoiceElement). predicate_of c.atom) e elements among))
  heads_narrow p (inr none) = absurd none

  -- what stands in elements of its aggregates stands in those of the statement
  elements_narrow : element_predicates y ⊆ element_predicates x
  elements_narrow p k =
      let f = ∈-concat_map_from item_element_predicates (x.body ++ added) p k in
      elim (∈-append_cases f.0 x.body added f.1) [
        | inl j ↦ ∈-concat_map item_element_predicates f.0 x.body p j f.2
        | inr j ↦ let g = ∈-map_from (condition_item x) f.0 e.condition j in absurd (subst (λ i. p ∈ item_element_predicates i) g.2 f.2)
      ]

  -- what stands in its body stands in that of the statement or in a condition of its choice
  body_narrow : (p : Predicate) → p ∈ body_predicates y → (p ∈ condition_of_head x.head) ⊎ (p ∈ body_predicates x)
  body_narrow p k =
      let f = ∈-concat_map_from item_predicates (x.body ++ added) p k in
      elim (∈-append_cases f.0 x.body added f.1) [
        | inl j ↦ inr (∈-concat_map item_predicates f.0 x.body p j f.2)
        | inr j ↦
            let g = ∈-map_from (condition_item x) f.0 e.condition j in
            let here = subst (λ ps. p ∈ ps) (ap item_predicates g.2 ∙ predicates_renamed r g.0) f.2 in
            inl (subst (λ h. p ∈ condition_of_head h) (sym is)
            (∈-concat_map choice_condition e elements p among (∈-concat_map literal_predicates g.0 e.condition p g.1 here)))
      ]

  -- so what its head needs, the statement's heads need
  needs_narrow : needed_predicates y ⊆ needed_predicates x
  needs_narrow p k = elim (∈-append_cases p (body_predicates y) (element_predicates y) k) [
    | inl j ↦ elim (body_narrow p j) [
      | inl h ↦ ∈-append_left p (condition_of_head x.head) (body_predicates x ++ element_predicates x) h
      | inr h ↦ ∈-append_right p (condition_of_head x.head) (body_predicates x ++ element_predicates x)
          (∈-append_left p (body_predicates x) (element_predicates x) h)
    ]
    | inr j ↦ ∈-append_right p (condition_of_head x.head) (body_predicates x ++ element_predicates x)
        (∈-append_right p (body_predicates x) (element_predicates x) (elements_narrow p j))
  ]

  -- it comes from the statement
  element_from : ComesFrom x y
  element_from = narrower heads_narrow needs_narrow elements_narrow

-- what is its statement comes from it
itself_from : (x y : Statement) → y ≡ x → ComesFrom x y
itself_from x y is = subst (ComesFrom x) (sym is) (narrower (λ p k. k) (λ p k. k) (λ p k. k))

-- and so does the constraint for bounds
bound_from : (x : Statement) (left right : Option Guard) (elements : List ChoiceElement) (r : SingleRule)
    → r ∈ bound_rules x left elements right → ComesFrom x (as_statement r)
bound_from x None None elements r k = absurd k
bound_from x None (Some right) elements r (inl e) = subst (λ q. ComesFrom x (as_statement q)) (sym e) (headless refl)
bound_from x None (Some right) elements r (inr none) = absurd none
bound_from x (Some left) right elements r (inl e) = subst (λ q. ComesFrom x (as_statement q)) (sym e) (headless refl)
bound_from x (Some left) right elements r (inr none) = absurd none

-- and each rule of the statement
rule_from : (x : Statement) (h : Head) → x.head ≡ h → (r : SingleRule) → r ∈ rules_with x h → ComesFrom x (as_statement r)
rule_from x head.Absent is r (inl e) = subst (λ q. ComesFrom x (as_statement q)) (sym e) (headless refl)
rule_from x head.Absent is r (inr none) = absurd none
rule_from x (head.Single a) is r (inl e) =
    itself_from x (as_statement r)
    (ap as_statement e ∙ ap (λ (h : Head). let t : Statement = record { line = x.line; head = h; body = x.body } in t) (sym is))
rule_from x (head.Single a) is r (inr none) = absurd none
rule_from x (head.Choice left elements right) is r k =
    elim (∈-append_cases r (map (element_rule x) elements) (bound_rules x left elements right) k) [
      | inl j ↦ let f = ∈-map_from (element_rule x) r elements j in
          subst (λ q. ComesFrom x (as_statement q)) (sym f.2) (element_from x f.0 left right elements is f.1)
      | inr j ↦ bound_from x left right elements r j
    ]

module _ (P : List Statement) where
  -- the single rules as statements
  abbrev Q : List Statement
  Q = map as_statement (singles_of P)

  -- each rule comes from a statement, or has no head
  data Source (y : Statement) : Type 0 where
    of_statement : (x : Statement) → x ∈ P → ComesFrom x y → Source y
    of_none : head_predicates y.head ≡ [] → Source y

  -- so it is with each of them
  source : (r : SingleRule) → r ∈ singles_of P → Source (as_statement r)
  source r k = elim (∈-append_cases r (concat (map rules_of P)) (sign_rules P) k) [
    | inl j ↦ let f = ∈-concat_map_from rules_of P r j in of_statement f.0 f.1 (rule_from f.0 f.0.head refl r f.2)
    | inr j ↦ let f = ∈-map_from sign_rule r (later_signs [] (predicates_in_text P)) j in of_none
        (ap (λ q. head_predicates (as_statement q).head) f.2)
  ]

  -- an empty list has no member
  no_member : (ps : List Predicate) (p : Predicate) → ps ≡ [] → ¬ (p ∈ ps)
  no_member ps p none k = subst (λ qs. p ∈ qs) none k

  -- a head predicate that needs another at once in a rule depends on it in the program
  depends_at_once : (y : Statement) → Source y → (p q : Predicate) → p ∈ head_predicates y.head → q ∈ needed_predicates y → DependsOn P p q
  depends_at_once y (of_statement x k (headless none)) p q here needed = absurd (no_member (head_predicates y.head) p none here)
  depends_at_once y (of_statement x k (narrower heads needs inner)) p q here needed = at_once p q x k (heads p here) (needs q needed)
  depends_at_once y (of_none none) p q here needed = absurd (no_member (head_predicates y.head) p none here)

  -- predicates that depend on one another in the rules do so in the program
  depends : (p q : Predicate) → DependsOn Q p q → DependsOn P p q
  depends p q (at_once a b y k here needed) =
      let f = ∈-map_from as_statement y (singles_of P) k in
      depends_at_once y (subst Source (sym f.2) (source f.0 f.1)) a b here needed
  depends p q (carried_on a b c one two) = carried_on a b c (depends a b one) (depends b c two)

  -- so a rule has no recursive aggregate where the program has none
  no_recursion_in : (y : Statement) → Source y → Each (HasNoRecursion P) P → HasNoRecursion Q y
  no_recursion_in y (of_none none) all =
      Each-from (λ p. ¬ DependsOnHead Q y p) (element_predicates y) (λ p k d. no_member (head_predicates y.head) d.0 none d.1)
  no_recursion_in y (of_statement x k (headless none)) all =
      Each-from (λ p. ¬ DependsOnHead Q y p) (element_predicates y) (λ p k d. no_member (head_predicates y.head) d.0 none d.1)
  no_recursion_in y (of_statement x k (narrower heads needs inner)) all =
      Each-from (λ p. ¬ DependsOnHead Q y p) (element_predicates y) (λ p j d.
      Each-at (λ p. ¬ DependsOnHead P x p) (element_predicates x) p (Each-at (HasNoRecursion P) P x all k) (inner p j)
      (d.0, heads d.0 d.1, elim d.2 [ inl same ↦ inl same | inr on ↦ inr (depends p d.0 on) ]))

  -- and none of them has
  pub none_recursive : Each (HasNoRecursion P) P → Each (λ r. HasNoRecursion Q (as_statement r)) (singles_of P)
  none_recursive all =
      Each-from (λ r. HasNoRecursion Q (as_statement r)) (singles_of P) (λ r k. no_recursion_in (as_statement r) (source r k) all)

-- ---- safety

-- the rule as a statement is safe, what has to be defined is bound, and it has no head just where it is a constraint
pub record IsGoodRule (r : SingleRule) : Type 0 where
  pub heads : (r.head ≡ None) ↔ (r.kind ≡ rule.Constraint)
  pub safe : IsSafe (as_statement r)
  pub defined : (v : Variable) → v ∈ variables_of r.defined → IsBound (as_statement r) v

-- a safe constraint over what is bound is a good rule
constraint_good : (r : SingleRule) → r.head ≡ None → r.kind ≡ rule.Constraint → IsSafe (as_statement r)
    → ((v : Variable) → v ∈ variables_of r.defined → IsBound (as_statement r) v) → IsGoodRule r
constraint_good r none kind safe defined = record { heads = (λ e. kind, λ e. none); safe = safe; defined = defined }

-- the constraint for bounds is
bound_good : (x : Statement) → IsSafe x → (left right : Option Guard) (elements : List ChoiceElement)
    → x.head ≡ head.Choice left elements right → IsGoodRule (bound_rule x (count_of left elements right))
bound_good x safe left right elements is = constraint_good (bound_rule x (count_of left elements right)) refl refl
    (bound_rule_safe x safe left right elements is)
    (λ v k. bound_too x (as_statement (bound_rule x (count_of left elements right))) (bound_longer x safe left right elements is) v
    (globals_bound x safe v k))

-- whether or not there are bounds
bounds_good : (x : Statement) → IsSafe x → (left right : Option Guard) (elements : List ChoiceElement)
    → x.head ≡ head.Choice left elements right
    → (r : SingleRule) → r ∈ bound_rules x left elements right → IsGoodRule r
bounds_good x safe None None elements is r k = absurd k
bounds_good x safe None (Some right) elements is r (inl e) = subst IsGoodRule (sym e) (bound_good x safe None (Some right) elements is)
bounds_good x safe None (Some right) elements is r (inr none) = absurd none
bounds_good x safe (Some left) right elements is r (inl e) = subst IsGoodRule (sym e) (bound_good x safe (Some left) right elements is)
bounds_good x safe (Some left) right elements is r (inr none) = absurd none

-- the rule of an element is
element_good : (x : Statement) (e : ChoiceElement) → IsElement x e → IsGoodRule (element_rule x e)
element_good x e of = record {
  heads = (λ e. absurd (cc), λ e. absurd (cc));
  safe = element_rule_safe x e of;
  defined = λ v k. bound_too x (as_statement (element_rule x e)) (rule_longer x e of) v (globals_bound x of.safe v k);
}

-- a rule that is its statement is
own_good : (x : Statement) → IsSafe x → (r : SingleRule) → ((r.head ≡ None) ↔ (r.kind ≡ rule.Constraint)) → r.defined ≡ global_terms x
    → as_statement r ≡ x → IsGoodRule r
own_good x safe r heads terms is = record {
  heads = heads;
  safe = subst IsSafe (sym is) safe;
  defined = λ v k. subst (λ y. IsBound y v) (sym is) (globals_bound x safe v (subst (λ ts. v ∈ variables_of ts) terms k));
}

-- a statement with its own head is itself
own_statement : (x : Statement) (h : Head) → x.head ≡ h → record { line = x.line; head = h; body = x.body } ≡ x
own_statement x h is = ap (λ (g : Head). let t : Statement = record { line = x.line; head = g; body = x.body } in t) (sym is)

-- so each rule of a statement is
rule_good : (x : Statement) → IsSafe x → (h : Head) → x.head ≡ h → (r : SingleRule) → r ∈ rules_with x h → IsGoodRule r
rule_good x safe head.Absent is r (inl e) =
    subst IsGoodRule (sym e) (own_good x safe (constraint_rule x) (λ e. refl, λ e. refl) refl (own_statement x head.Absent is))
rule_good x safe head.Absent is r (inr none) = absurd none
rule_good x safe (head.Single a) is r (inl e) =
    subst IsGoodRule (sym e)
    (own_good x safe (plain_rule x a) (λ e. absurd (cc), λ e. absurd (cc)) refl (own_statement x (head.Single a) is))
rule_good x safe (head.Single a) is r (inr none) = absurd none
rule_good x safe (head.Choice left elements right) is r k =
    elim (∈-append_cases r (map (element_rule x) elements) (bound_rules x left elements right) k) [
      | inl j ↦ let f = ∈-map_from (element_rule x) r elements j in
          subst IsGoodRule (sym f.2)
          (element_good x f.0 (record { safe = safe; left = left; right = right; elements = elements; is = is; among = f.1 }))
      | inr j ↦ bounds_good x safe left right elements is r j
    ]

-- and each single rule of a program
all_good : (P : List Statement) → Each IsSafe P → (r : SingleRule) → r ∈ singles_of P → IsGoodRule r
all_good P safe r k = elim (∈-append_cases r (concat (map rules_of P)) (sign_rules P) k) [
  | inl j ↦ let f = ∈-concat_map_from rules_of P r j in rule_good f.0 (Each-at IsSafe P f.0 safe f.1) f.0.head refl r f.2
  | inr j ↦ let f = ∈-map_from sign_rule r (later_signs [] (predicates_in_text P)) j in
      subst IsGoodRule (sym f.2) (constraint_good (sign_rule f.0) refl refl (sign_rule_safe f.0) (λ v k. absurd k))
]

-- the single rules of a safe program without recursive aggregates are what is relied on
pub are_single_rules : (P : List Statement) → Each IsSafe P → Each (HasNoRecursion P) P → AreSingleRules (singles_of P)
are_single_rules P safe none = record {
  heads = Each-from (λ r. (r.head ≡ None) ↔ (r.kind ≡ rule.Constraint)) (singles_of P) (λ r k. (all_good P safe r k).heads);
  safe = Each-from (λ r. IsSafe (as_statement r)) (singles_of P) (λ r k. (all_good P safe r k).safe);
  no_recursion = none_recursive P none;
  defined =
      Each-from (λ r. (v : Variable) → v ∈ variables_of r.defined → IsBound (as_statement r) v) (singles_of P)
      (λ r k. (all_good P safe r k).defined);
}
