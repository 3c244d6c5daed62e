-- Sums of some of the members of a list, and the sum of all that count.
use Rattle.std.proofs.Common.{◌≡◌, ℕ, suc, zero, ◌+◌, ◌≤◌, ◌<◌, ◌⊎◌, inl, inr, ◌∙◌, ap, Bool, true, false, cond, List, [], ◌∷◌, length, refl, sym, subst, arith}
use Rattle.std.specs.Prelude.{Some, slice_get}
use Rattle.lists.proofs.Places.{get_below}
use Rattle.aggregate_laws.specs.Totals.{sum_where}

-- a sum of some of the first k elements, each of which has the property
pub data SumsTo {T : Type 0} (P : T → Type 0) (size : T → ℕ) (xs : List T) : ℕ → ℕ → Type 0 where
  none : SumsTo P size xs 0 0
  skip : {k sum : ℕ} (t : T) → slice_get xs k ≡ Some t → SumsTo P size xs k sum → SumsTo P size xs (suc k) sum
  add : {k sum : ℕ} (t : T) → slice_get xs k ≡ Some t → P t → SumsTo P size xs k sum → SumsTo P size xs (suc k) (sum + size t)

module _ {T : Type 0} (c : T → Bool) (size : T → ℕ) where
  counts : T → ℕ
  counts t = cond (c t) (size t) 0

  upto : List T → ℕ → ℕ
  upto [] k = 0
  upto (t ∷ ts) zero = 0
  upto (t ∷ ts) (suc k) = counts t + upto ts k

  upto_zero : (xs : List T) → upto xs 0 ≡ 0
  unfolding upto
  upto_zero [] = refl
  upto_zero (x ∷ xs) = refl

  upto_step : (xs : List T) (k : ℕ) (t : T) → slice_get xs k ≡ Some t → upto xs (suc k) ≡ upto xs k + counts t
  unfolding upto
  upto_step [] k t e = cc
  upto_step (x ∷ xs) zero t e = let h : x ≡ t = cc in let z = upto_zero xs in rw h (omega arith)
  upto_step (x ∷ xs) (suc k) t e = omega (arith, upto_step xs k t e)

  upto_all : (xs : List T) → upto xs (length xs) ≡ sum_where c size xs
  unfolding upto counts
  upto_all [] = refl
  upto_all (x ∷ xs) = omega (arith, upto_all xs)

  upto_below : (xs : List T) (k : ℕ) → upto xs k ≤ sum_where c size xs
  unfolding upto counts
  upto_below [] k = omega arith
  upto_below (x ∷ xs) zero = omega arith
  upto_below (x ∷ xs) (suc k) = omega (arith, upto_below xs k)

  counts_true : (t : T) → c t ≡ true → counts t ≡ size t
  unfolding counts
  counts_true t e = rw e

  counts_false : (t : T) → c t ≡ false → counts t ≡ 0
  unfolding counts
  counts_false t e = rw e

  path_below : (xs : List T) (k sum : ℕ) → SumsTo (λ t. c t ≡ true) size xs k sum → sum ≤ upto xs k
  path_below xs k sum none = omega arith
  path_below xs k sum (skip {k = j} {sum = s} t e p) = omega (arith, upto_step xs j t e, path_below xs j s p)
  path_below xs k sum (add {k = j} {sum = s} t e h p) = omega (arith, upto_step xs j t e, path_below xs j s p, counts_true t h)

  path_most : (xs : List T) (k sum : ℕ) → SumsTo (λ t. c t ≡ true) size xs k sum → sum ≤ sum_where c size xs
  path_most xs k sum p = omega (arith, path_below xs k sum p, upto_below xs k)

  full : (xs : List T) (k : ℕ) → k ≤ length xs → SumsTo (λ t. c t ≡ true) size xs k (upto xs k)
  full xs zero h = rw upto_zero none
  full xs (suc k) h =
      let next = get_below xs k (omega arith) in
      let rest = full xs k (omega arith) in
      let step = upto_step xs k next.0 next.1 in
      go next.0 next.1 rest step (c next.0) refl
    where
      go : (t : T) → slice_get xs k ≡ Some t → SumsTo (λ t. c t ≡ true) size xs k (upto xs k) → upto xs (suc k) ≡ upto xs k + counts t → (b : Bool) → c t ≡ b → SumsTo (λ t. c t ≡ true) size xs (suc k) (upto xs (suc k))
      go t e rest step true h =
          let same : upto xs (suc k) ≡ upto xs k + size t = omega (arith, step, counts_true t h) in
          subst (λ n. SumsTo (λ t. c t ≡ true) size xs (suc k) n) (sym same) (add t e h rest)
      go t e rest step false h =
          let same : upto xs (suc k) ≡ upto xs k = omega (arith, step, counts_false t h) in
          subst (λ n. SumsTo (λ t. c t ≡ true) size xs (suc k) n) (sym same) (skip t e rest)

  pub full_sum : (xs : List T) → SumsTo (λ t. c t ≡ true) size xs (length xs) (sum_where c size xs)
  full_sum xs = subst (λ n. SumsTo (λ t. c t ≡ true) size xs (length xs) n) (upto_all xs) (full xs (length xs) (omega arith))

  -- what the first k add rises with k
  upto_rises : (xs : List T) (k j : ℕ) → k ≤ j → upto xs k ≤ upto xs j
  unfolding upto
  upto_rises [] k j h = omega arith
  upto_rises (x ∷ xs) zero j h = omega arith
  upto_rises (x ∷ xs) (suc k) zero h = absurd (omega arith)
  upto_rises (x ∷ xs) (suc k) (suc j) h = omega (arith, upto_rises xs k j (omega arith))

  -- one that counts and stands later adds something
  upto_less : (xs : List T) (k j : ℕ) (t : T) → k ≤ j → slice_get xs j ≡ Some t → c t ≡ true → 1 ≤ size t → upto xs k < sum_where c size xs
  upto_less xs k j t h e count weight = omega (arith, upto_rises xs k j h, upto_step xs j t e, counts_true t count, weight, upto_below xs (suc j))

  -- a sum of the first k that are picked is less than that of all that count, or all that count are picked
  less_or_all : (P : T → Type 0) → ((t : T) → P t → c t ≡ true) → (xs : List T) → ((j : ℕ) (t : T) → slice_get xs j ≡ Some t → 1 ≤ size t) → (k sum : ℕ) → SumsTo P size xs k sum
      → (sum ≤ upto xs k) × ((sum < upto xs k) ⊎ ((j : ℕ) (t : T) → j < k → slice_get xs j ≡ Some t → c t ≡ true → P t))
  less_or_all P count xs weight k sum none = (omega arith, inr (λ j t l. absurd (omega arith)))
  less_or_all P count xs weight k sum (skip {k = i} {sum = s} u e p) =
      let before = less_or_all P count xs weight i s p in
      let step = upto_step xs i u e in
      (omega (arith, before.0, step), elim before.1 [ inl l ↦ inl (omega (arith, l, step)) | inr f ↦ go before.0 step f (c u) refl ])
    where
      same : (t : T) → slice_get xs i ≡ Some t → t ≡ u
      same t f = let z : Some t ≡ Some u = sym f ∙ e in cc

      place : (j : ℕ) → j < suc i → (j < i) ⊎ (j ≡ i)
      place j l = grind arith

      go : s ≤ upto xs i → upto xs (suc i) ≡ upto xs i + counts u → ((j : ℕ) (t : T) → j < i → slice_get xs j ≡ Some t → c t ≡ true → P t) → (b : Bool) → c u ≡ b
          → (s < upto xs (suc i)) ⊎ ((j : ℕ) (t : T) → j < suc i → slice_get xs j ≡ Some t → c t ≡ true → P t)
      go low step f true h = inl (omega (arith, low, step, counts_true u h, weight i u e))
      go low step f false h = inr (λ j t l g d. elim (place j l) [
        | inl below ↦ f j t below g d
        | inr here ↦ (let v : true ≡ false = sym d ∙ ap c (same t (ap (λ x. slice_get xs x) (sym here) ∙ g)) ∙ h in cc)
      ])
  less_or_all P count xs weight k sum (add {k = i} {sum = s} u e q p) =
      let before = less_or_all P count xs weight i s p in
      let step = upto_step xs i u e in
      let counted = counts_true u (count u q) in (
        omega (arith, before.0, step, counted),
        elim before.1 [
          | inl l ↦ inl (omega (arith, l, step, counted))
          | inr f ↦ inr (λ j t l g d. elim (place j l) [
            | inl below ↦ f j t below g d
            | inr here ↦ subst (λ x. P x) (sym (same t (ap (λ x. slice_get xs x) (sym here) ∙ g))) q
          ])
        ],
      )
    where
      same : (t : T) → slice_get xs i ≡ Some t → t ≡ u
      same t f = let z : Some t ≡ Some u = sym f ∙ e in cc

      place : (j : ℕ) → j < suc i → (j < i) ⊎ (j ≡ i)
      place j l = grind arith

  -- where the sum is that of all that count, each of them was picked
  pub all_picked : (P : T → Type 0) → ((t : T) → P t → c t ≡ true) → (xs : List T) → ((j : ℕ) (t : T) → slice_get xs j ≡ Some t → 1 ≤ size t) → (k sum : ℕ) → SumsTo P size xs k sum
      → sum ≡ sum_where c size xs → (j : ℕ) (t : T) → slice_get xs j ≡ Some t → c t ≡ true → P t
  all_picked P count xs weight k sum p whole j t e h =
      let r = less_or_all P count xs weight k sum p in
      elim r.1 [
        | inl l ↦ absurd (omega (arith, l, whole, upto_below xs k))
        | inr f ↦ elim (place j k) [ inl below ↦ f j t below e h | inr above ↦ absurd (omega (arith, r.0, whole, upto_less xs k j t above e h (weight j t e))) ]
      ]
    where
      place : (a b : ℕ) → (a < b) ⊎ (b ≤ a)
      place a b = grind arith

  pub sum_most : (xs : List T) (k sum : ℕ) → SumsTo (λ t. c t ≡ true) size xs k sum → sum ≤ sum_where c size xs
  sum_most = path_most
