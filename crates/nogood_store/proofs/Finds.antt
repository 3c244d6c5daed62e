-- What is found among a nogood's literals.
use Rattle.std.proofs.Common.{◌≡◌, ℕ, ◌+◌, ◌<◌, ◌⊎◌, Bool, true, false, List, [], ◌∷◌, ◌++◌, length, take, get_or, refl, sym, ◌∙◌, ap, subst, inl, inr}
use Rattle.std.specs.Prelude.{Option, Some, None}
use Rattle.std.proofs.lemmas.List.{take_more}
use Rattle.lists.specs.Lists.{◌∈◌}
use Rattle.lists.proofs.ListLemmas.{∈-append_cases}
use Rattle.alpha_outside.specs.declared.literal.Lit.{Lit}
use Rattle.search_values.specs.declared.entry.Entry.{Entry}
use Rattle.search_values.specs.Values.{Holds}
use Rattle.search_values.proofs.Basics.{in_single}
use Rattle.nogood_store.specs.Watched.{IsMissing, OneMissing}
use Rattle.nogood_store.proofs.Weighing.{same_or_not}

-- a member of a longer front is one of the front or the item that is looked at
pub front_cases : (ls : List Lit) (i : ℕ) (l k : Lit) → i < length ls → l ≡ get_or ls i l → k ∈ take (i + 1) ls → (k ≡ l) ⊎ (k ∈ take i ls)
front_cases ls i l k low here h =
    let j : k ∈ (take i ls ++ get_or ls i l ∷ []) = subst (λ (xs : List Lit). k ∈ xs) (take_more ls i l low) h in
    elim (∈-append_cases k (take i ls) (get_or ls i l ∷ []) j) [ inl a ↦ inr a | inr b ↦ inl (in_single b ∙ sym here) ]

-- what holds of the front and of the item that is looked at holds of the longer front
pub each_more : (P : Lit → Type 0) (ls : List Lit) (i : ℕ) (l : Lit) → i < length ls → l ≡ get_or ls i l → ((k : Lit) → k ∈ take i ls → P k) → P l → (k : Lit) → k ∈ take (i + 1) ls → P k
each_more P ls i l low here front p k h = elim (front_cases ls i l k low here h) [ inl e ↦ subst P (sym e) p | inr j ↦ front k j ]

-- two literals are the same, or not
pub lit_same_or_not : (l k : Lit) → (l ≡ k) ⊎ (l ≡ k → ⊥)
lit_same_or_not l k = elim (same_or_not l.atom k.atom) [
  | inl e ↦ by_sign e l.positive k.positive refl refl
  | inr n ↦ inr (λ e. n (ap (λ (z : Lit). z.atom) e))
]
  where
    by_sign : l.atom ≡ k.atom → (b c : Bool) → l.positive ≡ b → k.positive ≡ c → (l ≡ k) ⊎ (l ≡ k → ⊥)
    by_sign e true true p q = let s : l.positive ≡ k.positive = p ∙ sym q in inl (λ i. record { atom = e i; positive = s i })
    by_sign e false false p q = let s : l.positive ≡ k.positive = p ∙ sym q in inl (λ i. record { atom = e i; positive = s i })
    by_sign e true false p q = inr (λ same. let s : l.positive ≡ k.positive = ap (λ (z : Lit). z.positive) same in let t : true ≡ false = sym p ∙ s ∙ q in cc)
    by_sign e false true p q = inr (λ same. let s : l.positive ≡ k.positive = ap (λ (z : Lit). z.positive) same in let t : false ≡ true = sym p ∙ s ∙ q in cc)

-- of two different literals one isn't the slot's
one_beside : (slot : Option Lit) (l k : Lit) → (l ≡ k → ⊥) → (slot ≡ Some l → ⊥) ⊎ (slot ≡ Some k → ⊥)
one_beside None l k differ = inl (λ e. cc)
one_beside (Some x) l k differ = elim (lit_same_or_not x l) [
  | inl e ↦ inr (λ (q : Some x ≡ Some k). let w : x ≡ k = cc in differ (sym e ∙ w))
  | inr n ↦ inl (λ (q : Some x ≡ Some l). let w : x ≡ l = cc in n w)
]

-- where the two that were looked for aren't both found, at most one literal doesn't hold
pub one_missing : (stack : List Entry) (ls : List Lit) (beside first second : Option Lit)
    → ((l : Lit) → l ∈ ls → (Holds stack l → ⊥) → (beside ≡ Some l → ⊥) → IsMissing stack first)
    → ((l : Lit) → l ∈ ls → (Holds stack l → ⊥) → (first ≡ Some l → ⊥) → IsMissing stack second)
    → (IsMissing stack first → IsMissing stack second → ⊥) → OneMissing stack ls
one_missing stack ls beside first second finds_first finds_second not_both l k i j fl fk = elim (lit_same_or_not l k) [
  | inl e ↦ e
  | inr n ↦ absurd (not_both
      (elim (one_beside beside l k n) [ inl a ↦ finds_first l i fl a | inr b ↦ finds_first k j fk b ])
      (elim (one_beside first l k n) [ inl a ↦ finds_second l i fl a | inr b ↦ finds_second k j fk b ]))
]
