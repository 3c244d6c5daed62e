-- What the clauses of a statement derive is what is bound in it.
use Rattle.std.proofs.Common.{◌≡◌, ◌⊎◌, ◌↔◌, inl, inr, refl, sym, ap, subst, ◌∙◌, Bool, true, false, cond, List, [], ◌∷◌, map, Option, Some, None}
use Rattle.std.specs.Prelude.{filter}
use Rattle.lists.specs.Lists.{◌∈◌, concat}
use Rattle.lists.proofs.ListLemmas.{∈-append_left, ∈-append_right, ∈-append_cases, ∈-map, ∈-map_from}
use Rattle.asp_syntax.specs.declared.tree.CompareOp.{CompareOp}
use Rattle.asp_syntax.specs.declared.tree.CompareOp.TheVariants as compare
use Rattle.asp_syntax.specs.declared.tree.Term.{Term}
use Rattle.asp_syntax.specs.declared.tree.Term.TheVariants as tree
use Rattle.asp_syntax.specs.declared.tree.Term.TheOpen.{Term-F}
use Rattle.asp_syntax.specs.declared.tree.Term.TheOpen as layer
use Rattle.asp_syntax.specs.declared.tree.Term.TheViews.{out-Term, roll-Term, out-roll-Term, roll-out-Term}
use Rattle.asp_syntax.specs.declared.tree.Atom as syntax
use Rattle.asp_syntax.specs.declared.tree.Literal.{Literal}
use Rattle.asp_syntax.specs.declared.tree.Literal.TheVariants as literal
use Rattle.asp_syntax.specs.declared.tree.Guard.{Guard}
use Rattle.asp_syntax.specs.declared.tree.Item.{Item}
use Rattle.asp_syntax.specs.declared.tree.Item.TheVariants as item
use Rattle.asp_syntax.specs.declared.tree.Statement.{Statement}
use Rattle.asp_meaning.specs.Terms.{Variable, named, anonymous}
use Rattle.asp_meaning.specs.Variables.{variables, global_variables}
use Rattle.asp_safety.specs.declared.clause.Clause.{Clause}
use Rattle.asp_safety.specs.Binding.{outside_of, aggregate_variables, term_of, IsEquation, IsEqualTo, IsNumberOf, IsBound, in_atom, by_equation, by_aggregate, IsBoundInside, global, in_condition, by_equality}
use Rattle.asp_safety.specs.Clauses.{Derives, from_given, by_clause}
use Rattle.asp_safety.specs.ClauseLists.{is_among, variable_of, fact, binds, clause_for, equation_clauses, literal_clauses, equal_clauses, guard_clauses, aggregate_needs, item_clauses, body_clauses}
use Rattle.asp_safety.proofs.Sets.{∈-from_test, test-from_∈}

-- ---- lists

∈-concat_map : {A B : Type 0} (f : A → List B) (x : A) (xs : List A) (y : B) → x ∈ xs → y ∈ f x → y ∈ concat (map f xs)
∈-concat_map f x [] y k h = absurd k
∈-concat_map f x (z ∷ zs) y (inl e) h = ∈-append_left y (f z) (concat (map f zs)) (subst (λ w. y ∈ f w) e h)
∈-concat_map f x (z ∷ zs) y (inr k) h = ∈-append_right y (f z) (concat (map f zs)) (∈-concat_map f x zs y k h)

∈-concat_map_from : {A B : Type 0} (f : A → List B) (xs : List A) (y : B) → y ∈ concat (map f xs) → (x : A) × (x ∈ xs) × (y ∈ f x)
∈-concat_map_from f [] y k = absurd k
∈-concat_map_from f (x ∷ xs) y k = elim (∈-append_cases y (f x) (concat (map f xs)) k) [
  | inl h ↦ (x, inl refl, h)
  | inr h ↦ let found = ∈-concat_map_from f xs y h in (found.0, inr found.1, found.2)
]

∈-filter_from : (G vs : List Variable) (v : Variable) → v ∈ filter (is_among G) vs → (v ∈ vs) × (v ∈ G)
∈-filter_from G [] v k = absurd k
∈-filter_from G (w ∷ vs) v k = by_case (λ h. let found = ∈-filter_from G vs v h in (inr found.0, found.1)) (is_among G w) refl k
  where
    by_case : (v ∈ filter (is_among G) vs → (v ∈ (w ∷ vs)) × (v ∈ G)) → (b : Bool) → is_among G w ≡ b → v ∈ (cond b (w ∷ filter (is_among G) vs) (filter (is_among G) vs)) → (v ∈ (w ∷ vs)) × (v ∈ G)
    by_case later true e (inl same) = (inl same, subst (λ u. u ∈ G) (sym same) (∈-from_test w G e))
    by_case later true e (inr h) = later h
    by_case later false e h = later h

∈-filter : (G vs : List Variable) (v : Variable) → v ∈ vs → v ∈ G → v ∈ filter (is_among G) vs
∈-filter G [] v k g = absurd k
∈-filter G (w ∷ vs) v (inl same) g =
    let e : is_among G w ≡ true = test-from_∈ w G (subst (λ u. u ∈ G) same g) in
    subst (λ b. v ∈ (cond b (w ∷ filter (is_among G) vs) (filter (is_among G) vs))) (sym e) (inl same)
∈-filter G (w ∷ vs) v (inr k) g = by_case (∈-filter G vs v k g) (is_among G w)
  where
    by_case : v ∈ filter (is_among G) vs → (b : Bool) → v ∈ (cond b (w ∷ filter (is_among G) vs) (filter (is_among G) vs))
    by_case h true = inr h
    by_case h false = h

-- ---- the variable that a term is

abbrev layer_variable : Term-F Term → Option Variable
layer_variable y = elim y [ layer.Variable x ↦ Some (named x) | layer.Anonymous k ↦ Some (anonymous k) | _ ↦ None ]

layer_is : (y : Term-F Term) (v : Variable) → layer_variable y ≡ Some v → roll-Term y ≡ term_of v
layer_is (layer.Int n) v e = absurd (cc)
layer_is (layer.Variable x) v e = tree.rolls-Variable x ∙ ap term_of (let same : named x ≡ v = cc in same)
layer_is (layer.Anonymous k) v e = tree.rolls-Anonymous k ∙ ap term_of (let same : anonymous k ≡ v = cc in same)
layer_is (layer.Symbol x) v e = absurd (cc)
layer_is (layer.Text x) v e = absurd (cc)
layer_is (layer.Fun f args) v e = absurd (cc)
layer_is (layer.Minus t) v e = absurd (cc)
layer_is (layer.Arith op l r) v e = absurd (cc)

variable_is : (t : Term) (v : Variable) → variable_of t ≡ Some v → t ≡ term_of v
variable_is t v e = sym (roll-out-Term t) ∙ layer_is (out-Term t) v e

variable_of-term_of : (v : Variable) → variable_of (term_of v) ≡ Some v
variable_of-term_of (named x) = ap layer_variable (ap out-Term (sym (tree.rolls-Variable x)) ∙ out-roll-Term (layer.Variable x))
variable_of-term_of (anonymous k) = ap layer_variable (ap out-Term (sym (tree.rolls-Anonymous k)) ∙ out-roll-Term (layer.Anonymous k))

-- ---- the clauses of literals

clause_for_from : (o : Option Variable) (needs : List Variable) (c : Clause) → c ∈ clause_for o needs → (o ≡ Some c.gives) × (c.needs ≡ needs)
clause_for_from None needs c k = absurd k
clause_for_from (Some v) needs c (inl e) = (ap (λ x. Some x.gives) (sym e), ap (λ x. x.needs) e)
clause_for_from (Some v) needs c (inr k) = absurd k

clause_for_term : (v : Variable) (needs : List Variable) → binds needs v ∈ clause_for (variable_of (term_of v)) needs
clause_for_term v needs = subst (λ o. binds needs v ∈ clause_for o needs) (sym (variable_of-term_of v)) (inl refl)

-- what a clause of a literal comes from
abbrev Comes : Literal → Clause → Type 0
Comes l c = ((p : syntax.Atom) × (l ≡ literal.Positive p) × (c.gives ∈ outside_of p.args)) ⊎ ((t : Term) × IsEquation l c.gives t × (c.needs ≡ variables t))

none_comes : (op : CompareOp) (l r : Term) (c : Clause) → c ∈ equation_clauses op l r → Comes (literal.Compare op l r) c
none_comes compare.Equal l r c k = elim (∈-append_cases c (clause_for (variable_of l) (variables r)) (clause_for (variable_of r) (variables l)) k) [
  | inl h ↦ let is = clause_for_from (variable_of l) (variables r) c h in
      inr (r, inl (ap (λ t. literal.Compare compare.Equal t r) (variable_is l c.gives is.0)), is.1)
  | inr h ↦ let is = clause_for_from (variable_of r) (variables l) c h in
      inr (l, inr (ap (λ t. literal.Compare compare.Equal l t) (variable_is r c.gives is.0)), is.1)
]
none_comes compare.NotEqual l r c k = absurd k
none_comes compare.Less l r c k = absurd k
none_comes compare.LessEqual l r c k = absurd k
none_comes compare.Greater l r c k = absurd k
none_comes compare.GreaterEqual l r c k = absurd k

comes : (l : Literal) (c : Clause) → c ∈ literal_clauses l → Comes l c
comes (literal.Positive p) c k =
    let found = ∈-map_from fact c (outside_of p.args) k in
    inl (p, refl, subst (λ v. v ∈ outside_of p.args) (ap (λ x. x.gives) (sym found.2)) found.1)
comes (literal.Negative p) c k = absurd k
comes (literal.Compare op l r) c k = none_comes op l r c k

equation_clause : (l : Literal) (v : Variable) (t : Term) → IsEquation l v t → binds (variables t) v ∈ literal_clauses l
equation_clause l v t (inl e) = subst (λ x. binds (variables t) v ∈ literal_clauses x) (sym e) (∈-append_left (binds (variables t) v) _ _ (clause_for_term v (variables t)))
equation_clause l v t (inr e) = subst (λ x. binds (variables t) v ∈ literal_clauses x) (sym e) (∈-append_right (binds (variables t) v) (clause_for (variable_of t) (variables (term_of v))) _ (clause_for_term v (variables t)))

-- ---- the clauses of aggregates

equal_from : (op : CompareOp) (t : Term) (needs : List Variable) (c : Clause) → c ∈ equal_clauses op t needs → (op ≡ compare.Equal) × (t ≡ term_of c.gives) × (c.needs ≡ needs)
equal_from compare.Equal t needs c k = let is = clause_for_from (variable_of t) needs c k in (refl, variable_is t c.gives is.0, is.1)
equal_from compare.NotEqual t needs c k = absurd k
equal_from compare.Less t needs c k = absurd k
equal_from compare.LessEqual t needs c k = absurd k
equal_from compare.Greater t needs c k = absurd k
equal_from compare.GreaterEqual t needs c k = absurd k

same_guard : (op : CompareOp) (t : Term) (v : Variable) → op ≡ compare.Equal → t ≡ term_of v → IsEqualTo (Some (record { op = op; term = t })) v
same_guard op t v p q = λ i. Some (record { op = p i; term = q i })

guard_from : (o : Option Guard) (needs : List Variable) (c : Clause) → c ∈ guard_clauses o needs → IsEqualTo o c.gives × (c.needs ≡ needs)
guard_from None needs c k = absurd k
guard_from (Some g) needs c k = let is = equal_from g.op g.term needs c k in (same_guard g.op g.term c.gives is.0 is.1, is.2)

guard_clause : (o : Option Guard) (needs : List Variable) (v : Variable) → IsEqualTo o v → binds needs v ∈ guard_clauses o needs
guard_clause o needs v e = subst (λ x. binds needs v ∈ guard_clauses x needs) (sym e) (clause_for_term v needs)

-- ---- outside elements

module _ (s : Statement) (globals : List Variable) (same : (v : Variable) → (v ∈ globals) ↔ (v ∈ global_variables s)) where
  item_bound : (i : Item) (c : Clause) → i ∈ s.body → c ∈ item_clauses globals i → ((w : Variable) → w ∈ c.needs → IsBound s w) → IsBound s c.gives
  item_bound (item.Plain l) c here k h = elim (comes l c k) [
    | inl (p, e, among) ↦ in_atom c.gives p (subst (λ x. item.Plain x ∈ s.body) e here) among
    | inr (t, e, needs) ↦ by_equation c.gives t l here e (λ w n. h w (subst (λ xs. w ∈ xs) (sym needs) n))
  ]
  item_bound (item.Aggregate true g) c here k h = absurd k
  item_bound (item.Aggregate false g) c here k h =
      let bound : IsNumberOf c.gives g → c.needs ≡ aggregate_needs globals g → IsBound s c.gives = λ number needs. by_aggregate c.gives g here number (λ w a b. h w (subst (λ xs. w ∈ xs) (sym needs) (∈-filter globals (aggregate_variables g) w a ((same w).1 b)))) in
      elim (∈-append_cases c (guard_clauses g.left (aggregate_needs globals g)) (guard_clauses g.right (aggregate_needs globals g)) k) [
        | inl k ↦ let is = guard_from g.left (aggregate_needs globals g) c k in bound (inl is.0) is.1
        | inr k ↦ let is = guard_from g.right (aggregate_needs globals g) c k in bound (inr is.0) is.1
      ]

  to_bound : (v : Variable) → Derives [] (body_clauses globals s.body) v → IsBound s v
  to_bound v (from_given w k) = absurd k
  to_bound v (by_clause w c k is needs) =
      let found = ∈-concat_map_from (item_clauses globals) s.body c k in
      subst (IsBound s) (sym is) (item_bound found.0 c found.1 found.2 (λ u n. to_bound u (needs u n)))

  in_body : (i : Item) (c : Clause) → i ∈ s.body → c ∈ item_clauses globals i → c ∈ body_clauses globals s.body
  in_body i c here k = ∈-concat_map (item_clauses globals) i s.body c here k

  from_bound : (v : Variable) → IsBound s v → Derives [] (body_clauses globals s.body) v
  from_bound v (in_atom w p here among) = by_clause w (fact w) (in_body (item.Plain (literal.Positive p)) (fact w) here (∈-map fact w (outside_of p.args) among)) refl (λ u n. absurd n)
  from_bound v (by_equation w t l here e h) =
      by_clause w (binds (variables t) w) (in_body (item.Plain l) (binds (variables t) w) here (equation_clause l w t e)) refl (λ u n. from_bound u (h u n))
  from_bound v (by_aggregate w g here number h) =
      let c = binds (aggregate_needs globals g) w in
      let k : c ∈ item_clauses globals (item.Aggregate false g) = elim number [
        | inl e ↦ ∈-append_left c (guard_clauses g.left (aggregate_needs globals g)) (guard_clauses g.right (aggregate_needs globals g)) (guard_clause g.left (aggregate_needs globals g) w e)
        | inr e ↦ ∈-append_right c (guard_clauses g.left (aggregate_needs globals g)) (guard_clauses g.right (aggregate_needs globals g)) (guard_clause g.right (aggregate_needs globals g) w e)
      ] in
      by_clause w c (in_body (item.Aggregate false g) c here k) refl (λ u n. let among = ∈-filter_from globals (aggregate_variables g) u n in from_bound u (h u among.0 ((same u).0 among.1)))

  -- the set that the clauses derive is that of the bound variables
  pub bound_set : (none set : List Variable) (clauses : List Clause) → none ≡ [] → clauses ≡ body_clauses globals s.body
      → ((v : Variable) → ((v ∈ none) ⊎ (v ∈ set)) ↔ Derives none clauses v) → (v : Variable) → (v ∈ set) ↔ IsBound s v
  bound_set none set clauses e made given v =
      let h : (u : Variable) → ((u ∈ none) ⊎ (u ∈ set)) ↔ Derives none (body_clauses globals s.body) u = λ u. subst (λ cs. ((u ∈ none) ⊎ (u ∈ set)) ↔ Derives none cs u) made (given u) in (
        λ k. to_bound v (subst (λ xs. Derives xs (body_clauses globals s.body) v) e ((h v).0 (inr k))),
        λ b. elim ((h v).1 (subst (λ xs. Derives xs (body_clauses globals s.body) v) (sym e) (from_bound v b))) [ inl k ↦ absurd (subst (λ xs. v ∈ xs) e k) | inr k ↦ k ],
      )

-- ---- inside an element

module _ (s : Statement) (globals outer : List Variable) (condition : List Literal) (kept : List Clause)
    (same : (v : Variable) → (v ∈ globals) ↔ (v ∈ global_variables s)) (bound : (v : Variable) → (v ∈ outer) ↔ IsBound s v)
    (local : (c : Clause) → (c ∈ kept) ↔ ((c ∈ concat (map literal_clauses condition)) × (¬ (c.gives ∈ globals)))) where
  literal_bound : (l : Literal) (c : Clause) → l ∈ condition → c ∈ literal_clauses l → ¬ (c.gives ∈ globals)
      → ((w : Variable) → w ∈ c.needs → IsBoundInside s condition w) → IsBoundInside s condition c.gives
  literal_bound l c here k apart h = elim (comes l c k) [
    | inl (p, e, among) ↦ in_condition c.gives p (λ g. apart ((same c.gives).1 g)) (subst (λ x. x ∈ condition) e here) among
    | inr (t, e, needs) ↦ by_equality c.gives t l (λ g. apart ((same c.gives).1 g)) here e (λ w n. h w (subst (λ xs. w ∈ xs) (sym needs) n))
  ]

  to_inside : (v : Variable) → Derives outer kept v → IsBoundInside s condition v
  to_inside v (from_given w k) = global w ((bound w).0 k)
  to_inside v (by_clause w c k is needs) =
      let is_kept = (local c).0 k in
      let found = ∈-concat_map_from literal_clauses condition c is_kept.0 in
      subst (IsBoundInside s condition) (sym is) (literal_bound found.0 c found.1 found.2 is_kept.1 (λ u n. to_inside u (needs u n)))

  from_inside : (v : Variable) → IsBoundInside s condition v → Derives outer kept v
  from_inside v (global w b) = from_given w ((bound w).1 b)
  from_inside v (in_condition w p apart here among) =
      by_clause w (fact w) ((local (fact w)).1 (∈-concat_map literal_clauses (literal.Positive p) condition (fact w) here (∈-map fact w (outside_of p.args) among), λ g. apart ((same w).0 g))) refl (λ u n. absurd n)
  from_inside v (by_equality w t l apart here e h) =
      let c = binds (variables t) w in
      by_clause w c ((local c).1 (∈-concat_map literal_clauses l condition c here (equation_clause l w t e), λ g. apart ((same w).0 g))) refl (λ u n. from_inside u (h u n))

  pub inside_set : (set : List Variable) → ((v : Variable) → ((v ∈ outer) ⊎ (v ∈ set)) ↔ Derives outer kept v)
      → (v : Variable) → ((v ∈ outer) ⊎ (v ∈ set)) ↔ IsBoundInside s condition v
  inside_set set h v = (λ k. to_inside v ((h v).0 k), λ b. (h v).1 (from_inside v b))
