-- The ids from one up to another.
use Rattle.std.proofs.Common.{◌≡◌, ℕ, ◌+◌, ◌-◌, ◌<◌, ◌≤◌, ◌⊎◌, ◌↔◌, List, [], ◌∷◌, ◌++◌, length, refl, inl, inr, arith}
use Rattle.lists.specs.Lists.{◌∈◌}
use Rattle.lists.proofs.ListLemmas.{∈-append_left, ∈-append_right, ∈-append_cases}
use Rattle.search_values.proofs.Basics.{in_single}
use Rattle.nogood_store.proofs.Weighing.{same_or_not}

-- the list has these, so many
pub record Between (ids : List ℕ) (from to : ℕ) : Type 0 where
  pub to_low : (n : ℕ) → n ∈ ids → from ≤ n
  pub to_high : (n : ℕ) → n ∈ ids → n < to
  pub back : (n : ℕ) → from ≤ n → n < to → n ∈ ids
  pub count : length ids ≡ to - from
  pub order : from ≤ to

pub none_between : (from : ℕ) → Between [] from from
none_between from = record {
  to_low = λ n h. absurd h;
  to_high = λ n h. absurd h;
  back = λ n low high. absurd (omega (arith, low, high));
  count = omega arith;
  order = omega arith;
}

pub one_between : (ids : List ℕ) (from id : ℕ) → Between ids from id → Between (ids ++ id ∷ []) from (id + 1)
one_between ids from id b = record {
  to_low = λ n h. elim (∈-append_cases n ids (id ∷ []) h) [ inl i ↦ b.to_low n i | inr j ↦ (let e = in_single j in let o = b.order in omega (arith, e, o)) ];
  to_high = λ n h. elim (∈-append_cases n ids (id ∷ []) h) [ inl i ↦ (let k = b.to_high n i in omega (arith, k)) | inr j ↦ (let e = in_single j in omega (arith, e)) ];
  back = λ n low high. elim (same_or_not n id) [
    | inl e ↦ ∈-append_right n ids (id ∷ []) (inl e)
    | inr k ↦ ∈-append_left n ids (id ∷ []) (b.back n low (below n k high))
  ];
  count = let l = b.count in let o = b.order in let p = length_push ids in omega (arith, l, o, p);
  order = let o = b.order in omega (arith, o);
}
  where
    below : (n : ℕ) → (n ≡ id → ⊥) → n < id + 1 → n < id
    below n k h = grind (arith, k, h)

    length_push : (xs : List ℕ) → length (xs ++ id ∷ []) ≡ length xs + 1
    length_push [] = refl
    length_push (x ∷ xs) = omega (arith, length_push xs)

-- at the end
pub between_end : (ids : List ℕ) (from id to : ℕ) → Between ids from id → (id ≡ from) ⊎ (id ≤ to) → to ≤ id → ((n : ℕ) → (n ∈ ids) ↔ ((from ≤ n) × (n < to))) × (length ids ≡ to - from)
between_end ids from id to b how high = (
  (λ n. (
    (λ i. (b.to_low n i, (let l = b.to_low n i in let h = b.to_high n i in elim how [ inl e ↦ absurd (omega (arith, l, h, e)) | inr k ↦ omega (arith, h, k) ]))),
    (λ w. b.back n w.0 (let h = w.1 in omega (arith, h, high))),
  )),
  (let c = b.count in elim how [ inl e ↦ omega (arith, c, e, high) | inr k ↦ omega (arith, c, k, high) ]),
)
