-- Looking something up in a list, where the test of keys is equality.
use Rattle.std.proofs.Common.{◌≡◌, ◌⊎◌, ◌↔◌, inl, inr, refl, sym, ap, subst, ◌∙◌, ℕ, zero, suc, ◌+◌, ◌<◌, Bool, true, false, not, cond, ◌||◌, List, [], ◌∷◌, ◌++◌, length, slice_get, position, Some, None, nat_lt, nat_eq, if◌then◌else◌, arith, true≢false}
use Rattle.std.specs.List.{list_any, position_or_len, IsDistinct, AllByRecursion}
use Rattle.std.proofs.lemmas.Bool.Decides.{Decides-eqb}
use Rattle.std.proofs.lemmas.Option.{none-some, same_Some}
use Rattle.indexmap.specs.IndexSet.{insert_key}
use Rattle.lists.specs.Lists.{◌∈◌, HasNoRepeats}
use Rattle.lists.proofs.ListLemmas.{∈-append_left, ∈-append_right, ∈-append_cases}

-- a key where the test first succeeds
found_at : {K : Type 0} (test : K → Bool) (xs : List K) → position_or_len test xs < length xs → (x : K) × (slice_get xs (position_or_len test xs) ≡ Some x) × (test x ≡ true)
found_at test [] h = absurd (omega arith)
found_at test (x ∷ xs) h = by_case (test x) refl h (found_at test xs)
  where
    by_case : (b : Bool) → test x ≡ b → cond (not b) (1 + position_or_len test xs) 0 < length (x ∷ xs)
        → (position_or_len test xs < length xs → (y : _) × (slice_get xs (position_or_len test xs) ≡ Some y) × (test y ≡ true))
        → (y : _) × (slice_get (x ∷ xs) (cond (not b) (1 + position_or_len test xs) 0) ≡ Some y) × (test y ≡ true)
    by_case true e h rest = (x, refl, e)
    by_case false e h rest =
        let found = rest (omega arith) in
        let step : 1 + position_or_len test xs ≡ suc (position_or_len test xs) = omega arith in
        (found.0, ap (slice_get (x ∷ xs)) step ∙ found.1, found.2)

-- a place that `position` gives
pub positioned : {K : Type 0} (test : K → Bool) (xs : List K) (i : ℕ) → position test xs ≡ Some i → (x : K) × (slice_get xs i ≡ Some x) × (test x ≡ true)
positioned test xs i e = by_case (nat_lt (position_or_len test xs) (length xs)) refl e
  where
    by_case : (b : Bool) → nat_lt (position_or_len test xs) (length xs) ≡ b → cond b (Some (position_or_len test xs)) None ≡ Some i → (x : _) × (slice_get xs i ≡ Some x) × (test x ≡ true)
    by_case true lt e = subst (λ n. (x : _) × (slice_get xs n ≡ Some x) × (test x ≡ true)) (same_Some (position_or_len test xs) i e) (found_at test xs (grind (arith, lt)))
    by_case false lt e = absurd (none-some i e)

module _ {K : Type 0} (eq : K → K → Bool) (same : (x y : K) → eq x y ≡ true → x ≡ y) (itself : (x : K) → eq x x ≡ true) where
  -- a key that the test finds is a member
  pub member : (x : K) (xs : List K) → list_any (eq x) xs ≡ true → x ∈ xs
  member x [] found = absurd (true≢false (sym found))
  member x (y ∷ xs) found = by_case (eq x y) refl (member x xs)
    where
      by_case : (b : Bool) → eq x y ≡ b → (list_any (eq x) xs ≡ true → x ∈ xs) → x ∈ (y ∷ xs)
      by_case true e rest = inl (same x y e)
      by_case false e rest = inr (rest (sym (ap (λ b. b || list_any (eq x) xs) e) ∙ found))

  -- the test finds a member
  pub tested : (x : K) (xs : List K) → x ∈ xs → list_any (eq x) xs ≡ true
  tested x [] among = absurd among
  tested x (y ∷ xs) (inl e) = ap (λ b. b || list_any (eq x) xs) (ap (eq x) (sym e) ∙ itself x)
  tested x (y ∷ xs) (inr among) = ap (λ b. eq x y || b) (tested x xs among) ∙ last (eq x y)
    where
      last : (b : Bool) → (b || true) ≡ true
      last true = refl
      last false = refl

  -- membership is decided
  pub decided : (x : K) (xs : List K) → (x ∈ xs) ⊎ (¬ (x ∈ xs))
  decided x xs = by_case (list_any (eq x) xs) refl
    where
      by_case : (b : Bool) → list_any (eq x) xs ≡ b → (x ∈ xs) ⊎ (¬ (x ∈ xs))
      by_case true e = inl (member x xs e)
      by_case false e = inr (λ among. true≢false (sym (tested x xs among) ∙ e))

  -- what is a member after a key is put in
  pub inserted : (n : K) (xs : List K) (v : K) → (v ∈ insert_key eq xs n) ↔ ((v ∈ xs) ⊎ (v ≡ n))
  inserted n xs v = by_case (list_any (eq n) xs) refl
    where
      by_case : (b : Bool) → list_any (eq n) xs ≡ b → (v ∈ (if b then xs else xs ++ n ∷ [])) ↔ ((v ∈ xs) ⊎ (v ≡ n))
      by_case true e = (λ k. inl k, λ k. elim k [ inl k ↦ k | inr alike ↦ subst (λ w. w ∈ xs) (sym alike) (member n xs e) ])
      by_case false e = (
        λ k. elim (∈-append_cases v xs (n ∷ []) k) [ inl k ↦ inl k | inr k ↦ elim k [ inl alike ↦ inr alike | inr none ↦ absurd none ] ],
        λ k. elim k [ inl k ↦ ∈-append_left v xs (n ∷ []) k | inr alike ↦ ∈-append_right v xs (n ∷ []) (inl alike) ],
      )

  -- a key is there already and the keys stay, or it goes last
  pub inserted_last : (n : K) (xs : List K) → ((n ∈ xs) × (insert_key eq xs n ≡ xs)) ⊎ ((¬ (n ∈ xs)) × (insert_key eq xs n ≡ xs ++ n ∷ []))
  inserted_last n xs = by_case (list_any (eq n) xs) refl
    where
      by_case : (b : Bool) → list_any (eq n) xs ≡ b → ((n ∈ xs) × ((if b then xs else xs ++ n ∷ []) ≡ xs)) ⊎ ((¬ (n ∈ xs)) × ((if b then xs else xs ++ n ∷ []) ≡ xs ++ n ∷ []))
      by_case true e = inl (member n xs e, refl)
      by_case false e = inr (λ among. true≢false (sym (tested n xs among) ∙ e), refl)

  apart : (x : K) (xs : List K) → AllByRecursion (λ y. eq x y ≡ false) xs → ¬ (x ∈ xs)
  apart x [] all = λ among. among
  apart x (y ∷ xs) all = λ among. elim among [ inl e ↦ true≢false (sym (ap (eq x) (sym e) ∙ itself x) ∙ all.0) | inr among ↦ apart x xs all.1 among ]

  -- distinct keys have no repeats
  pub no_repeats : (xs : List K) → IsDistinct eq xs → HasNoRepeats xs
  unfolding IsDistinct
  no_repeats [] d = tt
  no_repeats (x ∷ xs) d = (apart x xs d.0, no_repeats xs d.1)

-- ---- numbers

pub nat_same : (i j : ℕ) → nat_eq i j ≡ true → i ≡ j
nat_same i j e = (Decides-eqb i j).0 e

pub nat_itself : (i : ℕ) → nat_eq i i ≡ true
nat_itself i = (Decides-eqb i i).1 refl

pub nat_decided : (i : ℕ) (xs : List ℕ) → (i ∈ xs) ⊎ (¬ (i ∈ xs))
nat_decided = decided nat_eq nat_same nat_itself

-- ---- places

-- a member has a place
pub place_of : {A : Type 0} (x : A) (xs : List A) → x ∈ xs → (i : ℕ) × (slice_get xs i ≡ Some x)
place_of x [] among = absurd among
place_of x (y ∷ xs) (inl e) = (0, ap Some (sym e))
place_of x (y ∷ xs) (inr among) = let found = place_of x xs among in (suc found.0, found.1)

-- what stands at a place is a member
pub at_place : {A : Type 0} (x : A) (xs : List A) (i : ℕ) → slice_get xs i ≡ Some x → x ∈ xs
at_place x [] i e = absurd (none-some x e)
at_place x (y ∷ xs) zero e = inl (sym (same_Some y x e))
at_place x (y ∷ xs) (suc i) e = inr (at_place x xs i e)

-- and where nothing stands twice it has one place
pub one_place : {A : Type 0} (x : A) (xs : List A) (i j : ℕ) → HasNoRepeats xs → slice_get xs i ≡ Some x → slice_get xs j ≡ Some x → i ≡ j
one_place x [] i j once e f = absurd (none-some x e)
one_place x (y ∷ xs) zero zero once e f = refl
one_place x (y ∷ xs) zero (suc j) once e f = absurd (once.0 (subst (λ z. z ∈ xs) (sym (same_Some y x e)) (at_place x xs j f)))
one_place x (y ∷ xs) (suc i) zero once e f = absurd (once.0 (subst (λ z. z ∈ xs) (sym (same_Some y x f)) (at_place x xs i e)))
one_place x (y ∷ xs) (suc i) (suc j) once e f = ap suc (one_place x xs i j once.1 e f)
