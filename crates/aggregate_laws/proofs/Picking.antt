-- A sum of some members of a list does not depend on their order.
use Rattle.std.proofs.Common.{◌≡◌, ℕ, suc, zero, ◌+◌, ◌-◌, ◌≤◌, ◌<◌, ◌⊎◌, Bool, true, false, List, [], ◌∷◌, ◌++◌, length, refl, sym, ◌∙◌, ap, subst, inl, inr, arith}
use Rattle.std.specs.Prelude.{Option, Some, None, slice_get}
use Rattle.lists.specs.Lists.{◌∈◌, HasNoRepeats}
use Rattle.aggregate_laws.proofs.Sums.{SumsTo, none, skip, add}
use Rattle.search_values.proofs.Basics.{bool_cases, get_in}
use Rattle.aggregate_laws.proofs.Sameness.{Decides, decide_member}
use Rattle.aggregate_laws.specs.TotalsInBodies.{sum_sizes}

-- what holds of each member that is added
pub path_in : {T : Type 0} {P Q : T → Type 0} {size : T → ℕ} (xs : List T) → ((t : T) → t ∈ xs → P t → Q t) → (k sum : ℕ) → SumsTo P size xs k sum → SumsTo Q size xs k sum
path_in xs f k sum none = none
path_in xs f k sum (skip {k = j} {sum = s} t e p) = skip t e (path_in xs f j s p)
path_in xs f k sum (add {k = j} {sum = s} t e h p) = add t e (f t (get_in xs j t e) h) (path_in xs f j s p)

-- a sum of members with one property is one of members with another
pub path_map : {T : Type 0} {P Q : T → Type 0} {size : T → ℕ} {xs : List T} → ((t : T) → P t → Q t) → (k sum : ℕ) → SumsTo P size xs k sum → SumsTo Q size xs k sum
path_map {xs = xs} f k sum p = path_in xs (λ t i h. f t h) k sum p

get_length : {T : Type 0} (xs : List T) (k : ℕ) (t : T) → slice_get xs k ≡ Some t → suc k ≤ length xs
get_length [] k t e = cc
get_length (x ∷ xs) zero t e = omega arith
get_length (x ∷ xs) (suc k) t e = omega (arith, get_length xs k t e)

-- the place lies in the list
pub path_index : {T : Type 0} {P : T → Type 0} {size : T → ℕ} (xs : List T) (k sum : ℕ) → SumsTo P size xs k sum → k ≤ length xs
path_index xs k sum none = omega arith
path_index xs k sum (skip {k = j} t e p) = get_length xs j t e
path_index xs k sum (add {k = j} t e h p) = get_length xs j t e

-- in a list without repeats a member has one place
get_once : {T : Type 0} (xs : List T) → HasNoRepeats xs → (j k : ℕ) (t : T) → slice_get xs j ≡ Some t → slice_get xs k ≡ Some t → j ≡ k
get_once [] s j k t e f = cc
get_once (x ∷ xs) s zero zero t e f = refl
get_once (x ∷ xs) s zero (suc k) t e f = let h : x ≡ t = cc in absurd (s.0 (subst (λ y. (y ∈ xs)) (sym h) (get_in xs k t f)))
get_once (x ∷ xs) s (suc j) zero t e f = let h : x ≡ t = cc in absurd (s.0 (subst (λ y. (y ∈ xs)) (sym h) (get_in xs j t e)))
get_once (x ∷ xs) s (suc j) (suc k) t e f = ap suc (get_once xs s.1 j k t e f)

get_prefix : {X : Type 0} (xs ys : List X) (n : ℕ) → n < length xs → slice_get (xs ++ ys) n ≡ slice_get xs n
get_prefix [] ys n h = absurd (omega arith)
get_prefix (x ∷ xs) ys zero h = refl
get_prefix (x ∷ xs) ys (suc n) h = get_prefix xs ys n (omega arith)

-- a sum of members of the first list, whatever comes behind it
pub path_prefix : {T : Type 0} {P : T → Type 0} {size : T → ℕ} (xs ys zs : List T) (k sum : ℕ) → k ≤ length xs → SumsTo P size (xs ++ ys) k sum → SumsTo P size (xs ++ zs) k sum
path_prefix xs ys zs k sum h none = none
path_prefix xs ys zs k sum h (skip {k = j} {sum = s} t e p) =
    skip t (get_prefix xs zs j h ∙ sym (get_prefix xs ys j h) ∙ e) (path_prefix xs ys zs j s (omega arith) p)
path_prefix xs ys zs k sum h (add {k = j} {sum = s} t e q p) =
    add t (get_prefix xs zs j h ∙ sym (get_prefix xs ys j h) ∙ e) q (path_prefix xs ys zs j s (omega arith) p)

-- elements that are picked
pub record Picked {T : Type 0} (P : T → Type 0) (size : T → ℕ) (xs : List T) (k sum : ℕ) : Type 0 where
  pub list : List T
  pub once : HasNoRepeats list
  pub each : (z : T) → (z ∈ list) → P z
  pub among : (z : T) → (z ∈ list) → (j : ℕ) × (j < k) × (slice_get xs j ≡ Some z)
  pub adds : sum_sizes size list ≡ sum

-- what was picked for a sum
pub picked : {T : Type 0} {P : T → Type 0} {size : T → ℕ} (xs : List T) → HasNoRepeats xs → (k sum : ℕ) → SumsTo P size xs k sum → Picked P size xs k sum
picked xs s k sum none = record { list = []; once = tt; each = λ z i. absurd i; among = λ z i. absurd i; adds = refl }
picked xs s k sum (skip {k = j} {sum = m} t e p) =
    let r = picked xs s j m p in
    record { list = r.list; once = r.once; each = r.each; among = λ z i. let q = r.among z i in (q.0, omega (arith, q.1), q.2); adds = r.adds }
picked {T} {P} {size} xs s k sum (add {k = j} {sum = m} t e h p) =
    let r = picked xs s j m p in
    record {
      list = t ∷ r.list;
      once = ((λ i. let q = r.among t i in let same = get_once xs s q.0 j t q.2 e in omega (arith, q.1, same)), r.once);
      each = λ z i. elim i [ inl f ↦ subst (λ y. P y) (sym f) h | inr n ↦ r.each z n ];
      among = λ z i. elim i [
        | inl f ↦ (j, omega arith, e ∙ ap (λ y. Some y) (sym f))
        | inr n ↦ (let q = r.among z n in (q.0, omega (arith, q.1), q.2))
      ];
      adds = omega (arith, r.adds);
    }

-- one that is skipped may stand in front
pub path_cons : {T : Type 0} {P : T → Type 0} {size : T → ℕ} (x : T) (xs : List T) (k sum : ℕ) → SumsTo P size xs k sum → SumsTo P size (x ∷ xs) (suc k) sum
path_cons x xs k sum none = skip x refl none
path_cons x xs k sum (skip {k = j} {sum = s} t e p) = skip t e (path_cons x xs j s p)
path_cons x xs k sum (add {k = j} {sum = s} t e h p) = add t e h (path_cons x xs j s p)

-- one that is added may stand in front
pub path_with : {T : Type 0} {P : T → Type 0} {size : T → ℕ} (x : T) (xs : List T) → P x → (k sum : ℕ) → SumsTo P size xs k sum → SumsTo P size (x ∷ xs) (suc k) (sum + size x)
path_with x xs h k sum none = add x refl h none
path_with x xs h k sum (skip {k = j} {sum = s} t e p) = skip t e (path_with x xs h j s p)
path_with {T} {P} {size} x xs h k sum (add {k = j} {sum = s} t e f p) =
    let r = path_with x xs h j s p in
    let q : SumsTo P size (x ∷ xs) (suc (suc j)) ((s + size x) + size t) = add t e f r in
    let same : (s + size x) + size t ≡ (s + size t) + size x = omega arith in
    subst (λ n. SumsTo P size (x ∷ xs) (suc (suc j)) n) same q

module _ {T : Type 0} (same : Decides T) (P : T → Type 0) (size : T → ℕ) where
  -- a list without one of its members
  remove : (t : T) (zs : List T) → HasNoRepeats zs → (t ∈ zs)
      → (rest : List T) × HasNoRepeats rest × ((z : T) → (z ∈ rest) → (z ∈ zs)) × ((z : T) → (z ∈ rest) → z ≡ t → ⊥) × (sum_sizes size zs ≡ size t + sum_sizes size rest)
  remove t [] s i = absurd i
  remove t (z ∷ zs) s (inl e) =
      (zs, s.1, (λ y j. inr j), (λ y j f. s.0 (subst (λ x. (x ∈ zs)) (f ∙ e) j)), ap (λ x. size x + sum_sizes size zs) (sym e))
  remove t (z ∷ zs) s (inr i) =
      let r = remove t zs s.1 i in (
        z ∷ r.0,
        ((λ j. s.0 (r.2 z j)), r.1),
        (λ y j. elim j [ inl e ↦ inl e | inr n ↦ inr (r.2 y n) ]),
        (λ y j f. elim j [ inl e ↦ s.0 (subst (λ x. (x ∈ zs)) (sym f ∙ e) i) | inr n ↦ r.3 y n f ]),
        omega (arith, r.4),
      )

  -- picked members give a sum over any list that has them
  pub path_of_picked : (ys zs : List T) → HasNoRepeats zs → ((z : T) → (z ∈ zs) → P z) → ((z : T) → (z ∈ zs) → (z ∈ ys)) → SumsTo P size ys (length ys) (sum_sizes size zs)
  path_of_picked [] [] s each among = none
  path_of_picked [] (z ∷ zs) s each among = absurd (among z (inl refl))
  path_of_picked (y ∷ ys) zs s each among = elim (decide_member same y zs) [
    | inl i ↦ (let r = remove y zs s i in
        let p = path_of_picked ys r.0 r.1 (λ z j. each z (r.2 z j)) (λ z j. elim (among z (r.2 z j)) [ inl e ↦ absurd (r.3 z j e) | inr n ↦ n ]) in
        let q = path_with y ys (each y i) (length ys) (sum_sizes size r.0) p in
        let total : sum_sizes size r.0 + size y ≡ sum_sizes size zs = omega (arith, r.4) in
        subst (λ n. SumsTo P size (y ∷ ys) (length (y ∷ ys)) n) total q)
    | inr n ↦ path_cons y ys (length ys) (sum_sizes size zs) (path_of_picked ys zs s each (λ z i. elim (among z i) [ inl e ↦ absurd (n (subst (λ x. (x ∈ zs)) e i)) | inr m ↦ m ]))
  ]

  -- the same sum over another list that has all elements which count
  pub path_moves : (xs ys : List T) → HasNoRepeats xs → ((z : T) → (z ∈ xs) → P z → (z ∈ ys)) → (k sum : ℕ) → SumsTo P size xs k sum → SumsTo P size ys (length ys) sum
  path_moves xs ys s all k sum p =
      let r = picked xs s k sum p in
      subst (λ n. SumsTo P size ys (length ys) n) r.adds
      (path_of_picked ys r.list r.once r.each (λ z i. let q = r.among z i in all z (get_in xs q.0 z q.2) (r.each z i)))

-- whether a sum is one of the first k elements
module _ {T : Type 0} (c : T → Bool) (size : T → ℕ) (xs : List T) where
  -- the sum is one of the first k, of members that pass the test
  abbrev pub Sum : ℕ → ℕ → Type 0
  Sum k sum = SumsTo (λ t. c t ≡ true) size xs k sum

  sum_cases : (k sum : ℕ) → Sum (suc k) sum → (t : T) × (slice_get xs k ≡ Some t) × (Sum k sum ⊎ ((c t ≡ true) × (size t ≤ sum) × Sum k (sum - size t)))
  sum_cases k sum (skip t e p) = (t, e, inl p)
  sum_cases k sum (add {sum = s} t e h p) =
      (t, e, inr (h, omega arith, (let same : s ≡ (s + size t) - size t = omega arith in subst (λ n. Sum k n) same p)))

  -- whether there is such a sum can be decided
  pub decide_sum : (k sum : ℕ) → Sum k sum ⊎ (Sum k sum → ⊥)
  decide_sum zero zero = inl none
  decide_sum zero (suc n) = inr (no_sum (suc n) (omega arith))
    where
      no_sum : (m : ℕ) → 1 ≤ m → Sum zero m → ⊥
      no_sum m h none = omega arith
  decide_sum (suc k) sum = go (slice_get xs k) refl (decide_sum k sum) (λ n. decide_sum k n)
    where
      go : (o : Option T) → slice_get xs k ≡ o → Sum k sum ⊎ (Sum k sum → ⊥) → ((n : ℕ) → Sum k n ⊎ (Sum k n → ⊥)) → Sum (suc k) sum ⊎ (Sum (suc k) sum → ⊥)
      go None o a f = inr (λ p. let q = sum_cases k sum p in let z : None ≡ Some q.0 = sym o ∙ q.1 in cc)
      go (Some t) o (inl a) f = inl (skip t o a)
      go (Some t) o (inr a) f = with_t (bool_cases (c t)) (le_or_not (size t) sum) (f (sum - size t))
        where
          le_or_not : (m n : ℕ) → (m ≤ n) ⊎ (m ≤ n → ⊥)
          le_or_not m n = grind arith

          is_t : (q : T) → slice_get xs k ≡ Some q → q ≡ t
          is_t q e = let z : Some t ≡ Some q = sym o ∙ e in cc

          with_t : (c t ≡ true) ⊎ (c t ≡ false) → (size t ≤ sum) ⊎ (size t ≤ sum → ⊥) → Sum k (sum - size t) ⊎ (Sum k (sum - size t) → ⊥) → Sum (suc k) sum ⊎ (Sum (suc k) sum → ⊥)
          with_t (inl h) (inl l) (inl p) = inl (let back : (sum - size t) + size t ≡ sum = omega arith in subst (λ n. Sum (suc k) n) back (add t o h p))
          with_t (inr h) l p = inr (λ s. let q = sum_cases k sum s in elim q.2 [
            | inl b ↦ a b
            | inr b ↦ (let wrong : true ≡ false = sym b.0 ∙ ap c (is_t q.0 q.1) ∙ h in cc)
          ])
          with_t (inl h) (inr l) p = inr (λ s. let q = sum_cases k sum s in elim q.2 [
            | inl b ↦ a b
            | inr b ↦ l (subst (λ x. size x ≤ sum) (is_t q.0 q.1) b.1)
          ])
          with_t (inl h) (inl l) (inr p) = inr (λ s. let q = sum_cases k sum s in elim q.2 [
            | inl b ↦ a b
            | inr b ↦ p (subst (λ x. Sum k (sum - size x)) (is_t q.0 q.1) b.2)
          ])
