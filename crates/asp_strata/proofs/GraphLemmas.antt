-- Rows beside predicates, as they grow.
use Rattle.std.proofs.Common.{◌≡◌, ◌⊎◌, ◌↔◌, inl, inr, refl, sym, ap, subst, ◌∙◌, ℕ, zero, suc, ◌<◌, Bool, true, false, nat_eq, List, [], ◌∷◌, ◌++◌, length, set, slice_get, Some, append_assoc, arith, true≢false}
use Rattle.std.proofs.lemmas.Option.{none-some, same_Some}
use Rattle.lists.specs.Lists.{◌∈◌, Each}
use Rattle.asp_syntax.specs.declared.tree.Statement.{Statement}
use Rattle.asp_strata.specs.declared.predicate.Predicate.{Predicate}
use Rattle.asp_strata.specs.Recursion.{head_predicates, needed_predicates}
use Rattle.asp_strata.specs.Graphs.{Adds, IsPlaceOf, Leads, Linked}
use Rattle.asp_strata.proofs.Members.{nat_same, nat_itself}
use Rattle.asp_strata.proofs.TableLemmas.{added_members}

-- ---- several places are put into a set

pub members_on : (Whole : ℕ → Type 0) (set more old left : List ℕ) (p : ℕ) → old ≡ p ∷ left → Adds set more p
    → ((i : ℕ) → ((i ∈ set) ⊎ (i ∈ old)) ↔ Whole i) → (i : ℕ) → ((i ∈ more) ⊎ (i ∈ left)) ↔ Whole i
members_on Whole set more old left p e a h i = (
  λ k. (h i).0 (elim k [
    | inl k ↦ elim ((added_members set more p a i).0 k) [ inl k ↦ inl k | inr same ↦ inr (subst (λ xs. i ∈ xs) (sym e) (inl same)) ]
    | inr k ↦ inr (subst (λ xs. i ∈ xs) (sym e) (inr k))
  ]),
  λ k. elim ((h i).1 k) [
    | inl k ↦ inl ((added_members set more p a i).1 (inl k))
    | inr k ↦ elim (subst (λ xs. i ∈ xs) e k) [ inl same ↦ inl ((added_members set more p a i).1 (inr same)) | inr k ↦ inr k ]
  ],
)

pub members_done : (Whole : ℕ → Type 0) (set old : List ℕ) → old ≡ [] → ((i : ℕ) → ((i ∈ set) ⊎ (i ∈ old)) ↔ Whole i) → (i : ℕ) → (i ∈ set) ↔ Whole i
members_done Whole set old e h i = (
  λ k. (h i).0 (inl k),
  λ k. elim ((h i).1 k) [ inl k ↦ k | inr k ↦ absurd (subst (λ xs. i ∈ xs) e k) ],
)

pub grown_on : (first set more : List ℕ) (p : ℕ) → Adds set more p → (ys : List ℕ) × (set ≡ first ++ ys) → (ys : List ℕ) × (more ≡ first ++ ys)
grown_on first set more p (inl (k, e)) g = (g.0, e ∙ g.1)
grown_on first set more p (inr (k, e)) g = (g.0 ++ p ∷ [], e ∙ ap (λ xs. xs ++ p ∷ []) g.1 ∙ append_assoc first g.0 (p ∷ []))

-- ---- a row is replaced

pub get-set_same : {X : Type 0} (xs : List X) (i : ℕ) (y : X) → i < length xs → slice_get (set xs i y) i ≡ Some y
get-set_same [] i y h = absurd (omega arith)
get-set_same (x ∷ xs) zero y h = refl
get-set_same (x ∷ xs) (suc i) y h = get-set_same xs i y (omega arith)

pub get-set_other : {X : Type 0} (xs : List X) (i j : ℕ) (y : X) → ¬ (i ≡ j) → slice_get (set xs i y) j ≡ slice_get xs j
get-set_other [] i j y h = refl
get-set_other (x ∷ xs) zero zero y h = absurd (h refl)
get-set_other (x ∷ xs) zero (suc j) y h = refl
get-set_other (x ∷ xs) (suc i) zero y h = refl
get-set_other (x ∷ xs) (suc i) (suc j) y h = get-set_other xs i j y (λ e. h (ap suc e))

pub same_or_not : (i j : ℕ) → (i ≡ j) ⊎ (¬ (i ≡ j))
same_or_not i j = by_case (nat_eq i j) refl
  where
    by_case : (b : Bool) → nat_eq i j ≡ b → (i ≡ j) ⊎ (¬ (i ≡ j))
    by_case true e = inl (nat_same i j e)
    by_case false e = inr (λ same. true≢false (sym (subst (λ k. nat_eq i k ≡ true) same (nat_itself i)) ∙ e))

pub row_extended : (old : List (List ℕ)) (place : ℕ) (row more heads : List ℕ) → place < length old → slice_get old place ≡ Some row
    → ((i : ℕ) → (i ∈ more) ↔ ((i ∈ row) ⊎ (i ∈ heads)))
    → (j i : ℕ) → Leads (set old place more) j i ↔ (Leads old j i ⊎ ((j ≡ place) × (i ∈ heads)))
row_extended old place row more heads lt here h j i = elim (same_or_not place j) [
  | inl same ↦ subst (λ k. Leads (set old place more) k i ↔ (Leads old k i ⊎ ((k ≡ place) × (i ∈ heads)))) same (
    λ (r, at, k). elim ((h i).0 (subst (λ xs. i ∈ xs) (sym (same_Some more r (sym (get-set_same old place more lt) ∙ at))) k)) [
      | inl k ↦ inl (row, here, k)
      | inr k ↦ inr (refl, k)
    ],
    λ k. (
      more,
      get-set_same old place more lt,
      (h i).1 (elim k [
        | inl (r, at, k) ↦ inl (subst (λ xs. i ∈ xs) (same_Some r row (sym at ∙ here)) k)
        | inr (e, k) ↦ inr k
      ]),
    ),
  )
  | inr apart ↦ (
    λ (r, at, k). inl (r, sym (get-set_other old place j more apart) ∙ at, k),
    λ k. elim k [
      | inl (r, at, k) ↦ (r, get-set_other old place j more apart ∙ at, k)
      | inr (e, k) ↦ absurd (apart (sym e))
    ],
  )
]

-- ---- turns of loops over rows

-- what is there and what is still to be put in are the whole
pub turn : (Cur Next Here Left Old Whole : ℕ → ℕ → Type 0)
    → ((j i : ℕ) → Next j i ↔ (Cur j i ⊎ Here j i))
    → ((j i : ℕ) → Old j i ↔ (Here j i ⊎ Left j i))
    → ((j i : ℕ) → (Cur j i ⊎ Old j i) ↔ Whole j i)
    → (j i : ℕ) → (Next j i ⊎ Left j i) ↔ Whole j i
turn Cur Next Here Left Old Whole add split h j i = (
  λ k. (h j i).0 (elim k [
    | inl k ↦ elim ((add j i).0 k) [ inl k ↦ inl k | inr k ↦ inr ((split j i).1 (inl k)) ]
    | inr k ↦ inr ((split j i).1 (inr k))
  ]),
  λ k. elim ((h j i).1 k) [
    | inl k ↦ inl ((add j i).1 (inl k))
    | inr k ↦ elim ((split j i).0 k) [ inl k ↦ inl ((add j i).1 (inr k)) | inr k ↦ inr k ]
  ],
)

pub turned : (Cur Old Whole : ℕ → ℕ → Type 0) → ((j i : ℕ) → ¬ Old j i) → ((j i : ℕ) → (Cur j i ⊎ Old j i) ↔ Whole j i) → (j i : ℕ) → Cur j i ↔ Whole j i
turned Cur Old Whole none h j i = (λ k. (h j i).0 (inl k), λ k. elim ((h j i).1 k) [ inl k ↦ k | inr k ↦ absurd (none j i k) ])

pub needed_split : (old left heads : List ℕ) (p : ℕ) → old ≡ p ∷ left → (j i : ℕ) → ((j ∈ old) × (i ∈ heads)) ↔ (((j ≡ p) × (i ∈ heads)) ⊎ ((j ∈ left) × (i ∈ heads)))
needed_split old left heads p e j i = (
  λ (k, h). elim (subst (λ xs. j ∈ xs) e k) [ inl same ↦ inl (same, h) | inr k ↦ inr (k, h) ],
  λ k. elim k [ inl (same, h) ↦ (subst (λ xs. j ∈ xs) (sym e) (inl same), h) | inr (k, h) ↦ (subst (λ xs. j ∈ xs) (sym e) (inr k), h) ],
)

-- what one statement says of its head predicates
abbrev pub LinkedBy : List Predicate → Statement → ℕ → ℕ → Type 0
LinkedBy table s j i = IsPlaceOf table (needed_predicates s) j × IsPlaceOf table (head_predicates s.head) i

pub linked_split : (table : List Predicate) (old left : List Statement) (s : Statement) → old ≡ s ∷ left → (j i : ℕ) → Linked table old j i ↔ (LinkedBy table s j i ⊎ Linked table left j i)
linked_split table old left s e j i = (
  λ (t, k, h, n). elim (subst (λ xs. t ∈ xs) e k) [
    | inl same ↦ inl (subst (λ u. LinkedBy table u j i) same (n, h))
    | inr k ↦ inr (t, k, h, n)
  ],
  λ k. elim k [
    | inl (n, h) ↦ (s, subst (λ xs. s ∈ xs) (sym e) (inl refl), h, n)
    | inr (t, k, h, n) ↦ (t, subst (λ xs. t ∈ xs) (sym e) (inr k), h, n)
  ],
)

pub none_linked : (table : List Predicate) (old : List Statement) → old ≡ [] → (j i : ℕ) → ¬ Linked table old j i
none_linked table old e j i = λ (t, k, h, n). subst (λ xs. t ∈ xs) e k

-- empty rows lead nowhere
pub none_leads : (rows : List (List ℕ)) → Each (λ row. row ≡ []) rows → (j i : ℕ) → ¬ Leads rows j i
none_leads [] each j i = λ (r, at, k). none-some r at
none_leads (row ∷ rows) each zero i = λ (r, at, k). subst (λ xs. i ∈ xs) (sym (same_Some row r at) ∙ each.0) k
none_leads (row ∷ rows) each (suc j) i = none_leads rows each.1 j i

pub linked_rows : (table : List Predicate) (s : Statement) (old new : List (List ℕ)) (needed heads needed_slice heads_slice : List ℕ) → needed_slice ≡ needed → heads_slice ≡ heads
    → ((j : ℕ) → (j ∈ needed) ↔ IsPlaceOf table (needed_predicates s) j) → ((i : ℕ) → (i ∈ heads) ↔ IsPlaceOf table (head_predicates s.head) i)
    → ((j i : ℕ) → Leads new j i ↔ (Leads old j i ⊎ ((j ∈ needed_slice) × (i ∈ heads_slice))))
    → (j i : ℕ) → Leads new j i ↔ (Leads old j i ⊎ LinkedBy table s j i)
linked_rows table s old new needed heads needed_slice heads_slice d e n h add j i = (
  λ k. elim ((add j i).0 k) [ inl k ↦ inl k | inr (p, q) ↦ inr ((n j).0 (subst (λ xs. j ∈ xs) d p), (h i).0 (subst (λ xs. i ∈ xs) e q)) ],
  λ k. (add j i).1 (elim k [ inl k ↦ inl k | inr (p, q) ↦ inr (subst (λ xs. j ∈ xs) (sym d) ((n j).1 p), subst (λ xs. i ∈ xs) (sym e) ((h i).1 q)) ]),
)
