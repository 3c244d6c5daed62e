-- The aggregates of a safe statement have extents: finitely many tuples, which can be listed.
use Rattle.std.proofs.Common.{◌≡◌, inl, inr, refl, sym, ap, subst, ◌∙◌, Bool, List, [], ◌∷◌, ◌++◌, map, Option, Some, None}
use Rattle.lists.specs.Lists.{◌∈◌, ◌⊆◌, HasNoRepeats, AtLeastOne, concat}
use Rattle.lists.proofs.ListLemmas.{∈-append_left, ∈-append_right, ∈-append_cases}
use Rattle.asp_syntax.specs.declared.tree.Aggregate.{Aggregate}
use Rattle.asp_syntax.specs.declared.tree.Element.{Element}
use Rattle.asp_syntax.specs.declared.tree.Item.TheVariants as item
use Rattle.asp_syntax.specs.declared.tree.Statement.{Statement}
use Rattle.asp_meaning.specs.declared.value.Value.{Value}
use Rattle.asp_meaning.specs.Terms.{Variable, Substitution, eval_all}
use Rattle.asp_meaning.specs.Variables.{variables, global_variables}
use Rattle.asp_meaning.specs.Atoms.{Atom}
use Rattle.asp_meaning.specs.Bodies.{Gives, IsExtent}
use Rattle.asp_safety.specs.Binding.{IsBoundInside, IsSafe, variables_of, condition_variables, element_variables, element_occurrences, guard_occurrences, item_occurrences, head_occurrences}
use Rattle.single_rules.proofs.Parts.{∈-concat_map}
use Rattle.asp_laws.proofs.Globals.{all_same}
use Rattle.single_rules.proofs.Values.{option_apart, same_by_variables}
use Rattle.single_rules.proofs.KeptBound.{occurs_each, concat_each, front_each, back_each}
use Rattle.single_rules.proofs.Candidates.{Or, some_value, some_values, same_value, Satisfies, attempts, some_or_none}

-- ---- tuples

-- the first of some values, where there is one
abbrev first_value_of : List Value → Option Value
first_value_of [] = None
first_value_of (x ∷ xs) = Some x

-- the values after the first
abbrev later_values : List Value → List Value
later_values [] = []
later_values (x ∷ xs) = xs

-- two tuples are the same or not
same_tuple : (xs ys : List Value) → Or (xs ≡ ys)
same_tuple [] [] = inl refl
same_tuple [] (y ∷ ys) = inr (λ e. option_apart (ap first_value_of e))
same_tuple (x ∷ xs) [] = inr (λ e. option_apart (sym (ap first_value_of e)))
same_tuple (x ∷ xs) (y ∷ ys) = elim (same_value x y) [
  | inl e ↦ elim (same_tuple xs ys) [
    | inl f ↦ inl (λ i. e i ∷ f i)
    | inr other ↦ inr (λ g. other (ap later_values g))
  ]
  | inr other ↦ inr (λ g. other (ap some_value (ap first_value_of g)))
]

-- a tuple is one of these or not
in_tuples : (xs : List Value) (yss : List (List Value)) → Or (xs ∈ yss)
in_tuples xs [] = inr (λ k. k)
in_tuples xs (ys ∷ yss) = elim (same_tuple xs ys) [
  | inl e ↦ inl (inl e)
  | inr other ↦ elim (in_tuples xs yss) [ inl k ↦ inl (inr k) | inr out ↦ inr (λ k. elim k [ inl e ↦ other e | inr j ↦ out j ]) ]
]

-- each of a list once
once_each : (xss : List (List Value)) → (yss : List (List Value)) × HasNoRepeats yss × (yss ⊆ xss) × (xss ⊆ yss)
once_each [] = ([], tt, (λ x k. k), (λ x k. k))
once_each (xs ∷ xss) =
    let rest = once_each xss in
    elim (in_tuples xs rest.0) [
      | inl k ↦
          (rest.0, rest.1, (λ y j. inr (rest.2 y j)), (λ y j. elim j [ inl e ↦ subst (λ z. z ∈ rest.0) (sym e) k | inr h ↦ rest.3 y h ]))
      | inr out ↦ (
        xs ∷ rest.0,
        (out, rest.1),
        (λ y j. elim j [ inl e ↦ inl e | inr h ↦ inr (rest.2 y h) ]),
        (λ y j. elim j [ inl e ↦ inl e | inr h ↦ inr (rest.3 y h) ]),
      )
    ]

-- those of a list of which it holds
picked : (P : List Value → Type 0) → ((xs : List Value) → Or (P xs)) → (xss : List (List Value))
    → (yss : List (List Value)) × ((xs : List Value) → xs ∈ yss → P xs) × ((xs : List Value) → xs ∈ xss → P xs → xs ∈ yss)
picked P decide [] = ([], (λ xs k. absurd k), (λ xs k h. k))
picked P decide (xs ∷ xss) =
    let rest = picked P decide xss in
    elim (decide xs) [
      | inl h ↦ (
        xs ∷ rest.0,
        (λ ys k. elim k [ inl e ↦ subst P (sym e) h | inr j ↦ rest.1 ys j ]),
        (λ ys k g. elim k [ inl e ↦ inl e | inr j ↦ inr (rest.2 ys j g) ]),
      )
      | inr none ↦ (rest.0, rest.1, (λ ys k g. elim k [ inl e ↦ absurd (none (subst P e g)) | inr j ↦ rest.2 ys j g ]))
    ]

-- ---- extents

-- the tuple as a list, where there is one
abbrev listed : Option (List Value) → List (List Value)
listed None = []
listed (Some xs) = xs ∷ []

module _ (x : Statement) (s : Substitution) (I : List Atom) where
  -- the global variables of the statement
  abbrev G : List Variable
  G = global_variables x

  module _ (e : Element) (bound : (v : Variable) → v ∈ element_variables e → IsBoundInside x e.condition v) where
    within : condition_variables e.condition ⊆ element_variables e
    within v k = ∈-append_right v (variables_of e.terms) (condition_variables e.condition) k

    tuple_or_not : (tuple : List Value) (t : Substitution) → Or (eval_all t e.terms ≡ Some tuple)
    tuple_or_not tuple t = by_values (eval_all t e.terms) refl
      where
        by_values : (o : Option (List Value)) → eval_all t e.terms ≡ o → Or (eval_all t e.terms ≡ Some tuple)
        by_values None is = inr (λ k. option_apart (sym is ∙ k))
        by_values (Some xs) is = elim (same_tuple xs tuple) [
          | inl same ↦ inl (is ∙ ap Some same)
          | inr other ↦ inr (λ k. other (ap some_values (sym is ∙ k)))
        ]

    tuple_kept : (tuple : List Value) (t u : Substitution) → ((v : Variable) → v ∈ element_variables e → u v ≡ t v)
        → eval_all t e.terms ≡ Some tuple → eval_all u e.terms ≡ Some tuple
    tuple_kept tuple t u agree k = all_same t u e.terms (same_by_variables t u e.terms (λ w j v here.
        agree v (∈-append_left v (variables_of e.terms) (condition_variables e.condition) (∈-concat_map variables w e.terms v j here)))) ∙ k

    gives_or_not : (tuple : List Value) → Or (Gives G s I tuple e)
    gives_or_not tuple =
        elim (some_or_none x e.condition s I (element_variables e) bound within (λ t. eval_all t e.terms ≡ Some tuple) (tuple_or_not tuple)
        (tuple_kept tuple)) [
          | inl h ↦ inl (h.0, h.1.0, h.2, h.1.1)
          | inr none ↦ inr (λ k. none (k.0, (k.1, k.3), k.2))
        ]

    substitutions : (list : List Substitution) × ((t : Substitution) → Satisfies x e.condition s I t
        → (m : Substitution) × (m ∈ list) × ((v : Variable) → v ∈ element_variables e → m v ≡ t v) × Satisfies x e.condition s I m)
    substitutions = attempts x e.condition s I (element_variables e) bound within

    -- the tuples that the element gives
    pub given_tuples : (tuples : List (List Value)) × ((tuple : List Value) → tuple ∈ tuples → Gives G s I tuple e)
        × ((tuple : List Value) → Gives G s I tuple e → tuple ∈ tuples)
    given_tuples =
        let all = concat (map (λ (m : Substitution). listed (eval_all m e.terms)) (substitutions).0) in
        let p = picked (λ tuple. Gives G s I tuple e) gives_or_not all in
        (p.0, p.1, λ tuple k. p.2 tuple (among tuple k) k)
      where
        among : (tuple : List Value) → Gives G s I tuple e
            → tuple ∈ concat (map (λ (m : Substitution). listed (eval_all m e.terms)) (substitutions).0)
        among tuple k =
            let m = (substitutions).1 k.0 (k.1, k.3) in
            ∈-concat_map (λ (n : Substitution). listed (eval_all n e.terms)) m.0 (substitutions).0 tuple m.1
            (subst (λ o. tuple ∈ listed o) (sym (tuple_kept tuple k.0 m.0 m.2 k.2)) (inl refl))

  -- the tuples that the elements of a list give
  all_tuples : (es : List Element) → ((e : Element) → e ∈ es → (v : Variable) → v ∈ element_variables e → IsBoundInside x e.condition v)
      → (tuples : List (List Value)) × ((tuple : List Value) → tuple ∈ tuples → AtLeastOne (Gives G s I tuple) es)
      × ((tuple : List Value) → AtLeastOne (Gives G s I tuple) es → tuple ∈ tuples)
  all_tuples [] bound = ([], (λ tuple k. k), (λ tuple k. k))
  all_tuples (e ∷ es) bound =
      let one = given_tuples e (bound e (inl refl)) in
      let rest = all_tuples es (λ f k. bound f (inr k)) in (
        one.0 ++ rest.0,
        (λ tuple k. elim (∈-append_cases tuple one.0 rest.0 k) [ inl j ↦ inl (one.1 tuple j) | inr j ↦ inr (rest.1 tuple j) ]),
        (λ tuple k. elim k [
          | inl j ↦ ∈-append_left tuple one.0 rest.0 (one.2 tuple j)
          | inr j ↦ ∈-append_right tuple one.0 rest.0
              (rest.2 tuple j)
        ]),
      )

  -- an aggregate whose elements have only bound variables has an extent
  pub extent_of : (g : Aggregate)
      → ((e : Element) → e ∈ g.elements → (v : Variable) → v ∈ element_variables e → IsBoundInside x e.condition v)
      → (tuples : List (List Value)) × IsExtent G s I g tuples
  extent_of g bound =
      let all = all_tuples g.elements bound in
      let once = once_each all.0 in (
        once.0,
        record {
          once = once.1;
          given = λ tuple k. all.1 tuple (once.2 tuple k);
          all_given = λ tuple k. once.3 tuple (all.2 tuple k);
        },
      )

-- each aggregate in the body of a safe statement has an extent, under each substitution and in each set
pub safe_extent : (x : Statement) → IsSafe x → (denied : Bool) (g : Aggregate) → item.Aggregate denied g ∈ x.body
    → (s : Substitution) (I : List Atom)
    → (tuples : List (List Value)) × IsExtent (global_variables x) s I g tuples
safe_extent x safe denied g among s I = extent_of x s I g (λ e k v j.
    occurs_each x (Some e.condition) (element_variables e)
    (concat_each x element_occurrences g.elements
    (front_each x (concat (map element_occurrences g.elements)) (guard_occurrences g.right)
    (back_each x (guard_occurrences g.left) (concat (map element_occurrences g.elements) ++ guard_occurrences g.right)
    (concat_each x item_occurrences x.body (back_each x (head_occurrences x.head) (concat (map item_occurrences x.body)) safe)
    (item.Aggregate denied g) among))) e k) v j)
