-- Tables of predicates and sets of places.
use Rattle.std.proofs.Common.{◌≡◌, ◌⊎◌, ◌↔◌, inl, inr, refl, sym, ap, subst, ◌∙◌, ℕ, Bool, nat_eq, List, [], ◌∷◌, slice_get, position, Option, Some, None, is_some, IfSome, IsTrue, true≢false}
use Rattle.std.specs.List.{list_any}
use Rattle.indexmap.specs.IndexSet.{insert_key}
use Rattle.lists.specs.Lists.{◌∈◌, HasNoRepeats}
use Rattle.lists.proofs.ListLemmas.{∈-append_left, ∈-append_right, ∈-append_cases}
use Rattle.asp_strata.specs.declared.predicate.Predicate.{Predicate}
use Rattle.asp_strata.specs.Predicates.{predicate_eq}
use Rattle.asp_strata.specs.PredicateLaws.{predicate_same, predicate_itself}
use Rattle.asp_strata.specs.Graphs.{Adds, IsPlaceOf}
use Rattle.asp_strata.proofs.Members.{member, tested, inserted, inserted_last, positioned, one_place, nat_same, nat_itself}

-- ---- sets of places

pub adds : (old new keys : List ℕ) (i : ℕ) → keys ≡ old → new ≡ insert_key nat_eq keys i → Adds old new i
adds old new keys i e h = elim (inserted_last nat_eq nat_same nat_itself i old) [
  | inl k ↦ inl (k.0, h ∙ ap (λ xs. insert_key nat_eq xs i) e ∙ k.1)
  | inr k ↦ inr (k.0, h ∙ ap (λ xs. insert_key nat_eq xs i) e ∙ k.1)
]

-- what is in a set that grew
pub added_members : (old new : List ℕ) (i : ℕ) → Adds old new i → (v : ℕ) → (v ∈ new) ↔ ((v ∈ old) ⊎ (v ≡ i))
added_members old new i (inl (k, e)) v = (
  λ h. inl (subst (λ xs. v ∈ xs) e h),
  λ h. subst (λ xs. v ∈ xs) (sym e) (elim h [ inl h ↦ h | inr same ↦ subst (λ w. w ∈ old) (sym same) k ]),
)
added_members old new i (inr (k, e)) v = (
  λ h. elim (∈-append_cases v old (i ∷ []) (subst (λ xs. v ∈ xs) e h)) [ inl h ↦ inl h | inr h ↦ elim h [ inl same ↦ inr same | inr none ↦ absurd none ] ],
  λ h. subst (λ xs. v ∈ xs) (sym e) (elim h [ inl h ↦ ∈-append_left v old (i ∷ []) h | inr same ↦ ∈-append_right v old (i ∷ []) (inl same) ]),
)

-- whether a set has a place
pub has : (keys xs : List ℕ) (i : ℕ) (b : Bool) → keys ≡ xs → b ≡ list_any (nat_eq i) keys → IsTrue b ↔ (i ∈ xs)
has keys xs i b e h = (
  λ t. subst (λ ys. i ∈ ys) e (member nat_eq nat_same nat_itself i keys (sym h ∙ t)),
  λ k. h ∙ tested nat_eq nat_same nat_itself i keys (subst (λ ys. i ∈ ys) (sym e) k),
)

-- ---- tables

pub predicate_inserted : (old new keys : List Predicate) (n : Predicate) → keys ≡ old → new ≡ insert_key predicate_eq keys n → (p : Predicate) → (p ∈ new) ↔ ((p ∈ old) ⊎ (p ≡ n))
predicate_inserted old new keys n e h p = subst (λ xs. (p ∈ xs) ↔ ((p ∈ old) ⊎ (p ≡ n))) (sym (h ∙ ap (λ xs. insert_key predicate_eq xs n) e)) (inserted predicate_eq predicate_same predicate_itself n old p)

-- the place at which a look-up finds a predicate is its only one
pub found_place : (keys table : List Predicate) (p : Predicate) (o : Option ℕ) → keys ≡ table → HasNoRepeats keys → o ≡ position (predicate_eq p) keys
    → IfSome o (λ i. (j : ℕ) → (slice_get table j ≡ Some p) ↔ (j ≡ i))
found_place keys table p None e once h = tt
found_place keys table p (Some i) e once h = λ j.
    let f = positioned (predicate_eq p) keys i (sym h) in
    let here : slice_get table i ≡ Some p = ap (λ xs. slice_get xs i) (sym e) ∙ f.1 ∙ ap Some (sym (predicate_same p f.0 f.2)) in (
      λ there. one_place p table j i (subst HasNoRepeats e once) there here,
      λ same. subst (λ k. slice_get table k ≡ Some p) (sym same) here,
    )

pub no_place : (keys table : List Predicate) (p : Predicate) (o : Option ℕ) → keys ≡ table → is_some o ≡ list_any (predicate_eq p) keys → o ≡ None → ¬ (p ∈ table)
no_place keys table p o e h none = λ k.
    true≢false (sym (h ∙ tested predicate_eq predicate_same predicate_itself p keys (subst (λ xs. p ∈ xs) (sym e) k)) ∙ ap is_some none)

-- ---- places of several predicates

-- a set of places after the one of a predicate went in
pub place_added : (table : List Predicate) (p : Predicate) (old new : List ℕ) (place : ℕ) → ((j : ℕ) → (slice_get table j ≡ Some p) ↔ (j ≡ place)) → Adds old new place
    → (i : ℕ) → (i ∈ new) ↔ ((i ∈ old) ⊎ (slice_get table i ≡ Some p))
place_added table p old new place at a i = (
  λ k. elim ((added_members old new place a i).0 k) [ inl k ↦ inl k | inr same ↦ inr ((at i).1 same) ],
  λ k. (added_members old new place a i).1 (elim k [ inl k ↦ inl k | inr there ↦ inr ((at i).0 there) ]),
)

-- none is added for a predicate that isn't there
pub place_left_out : (table : List Predicate) (p : Predicate) (old : List ℕ) → ¬ (p ∈ table) → ((i : ℕ) → slice_get table i ≡ Some p → p ∈ table)
    → (i : ℕ) → (i ∈ old) ↔ ((i ∈ old) ⊎ (slice_get table i ≡ Some p))
place_left_out table p old out inside i = (
  λ k. inl k,
  λ k. elim k [ inl k ↦ k | inr there ↦ absurd (out (inside i there)) ],
)

-- one turn of the loop that collects places
pub places_on : (table whole old left : List Predicate) (p : Predicate) (set more : List ℕ) → old ≡ p ∷ left
    → ((i : ℕ) → (i ∈ more) ↔ ((i ∈ set) ⊎ (slice_get table i ≡ Some p)))
    → ((i : ℕ) → ((i ∈ set) ⊎ IsPlaceOf table old i) ↔ IsPlaceOf table whole i)
    → (i : ℕ) → ((i ∈ more) ⊎ IsPlaceOf table left i) ↔ IsPlaceOf table whole i
places_on table whole old left p set more e add h i = (
  λ k. (h i).0 (elim k [
    | inl k ↦ elim ((add i).0 k) [ inl k ↦ inl k | inr there ↦ inr (p, subst (λ xs. p ∈ xs) (sym e) (inl refl), there) ]
    | inr k ↦ inr (k.0, subst (λ xs. k.0 ∈ xs) (sym e) (inr k.1), k.2)
  ]),
  λ k. elim ((h i).1 k) [
    | inl k ↦ inl ((add i).1 (inl k))
    | inr (q, among, there) ↦ elim (subst (λ xs. q ∈ xs) e among) [
      | inl same ↦ inl ((add i).1 (inr (subst (λ r. slice_get table i ≡ Some r) same there)))
      | inr among ↦ inr (q, among, there)
    ]
  ],
)

pub places_done : (table whole old : List Predicate) (set : List ℕ) → old ≡ []
    → ((i : ℕ) → ((i ∈ set) ⊎ IsPlaceOf table old i) ↔ IsPlaceOf table whole i) → (i : ℕ) → (i ∈ set) ↔ IsPlaceOf table whole i
places_done table whole old set e h i = (
  λ k. (h i).0 (inl k),
  λ k. elim ((h i).1 k) [ inl k ↦ k | inr (q, among, there) ↦ absurd (subst (λ xs. q ∈ xs) e among) ],
)
