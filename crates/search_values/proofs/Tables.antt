-- The nogoods of an instance: each is in the table unless both signs of an atom stand in it.
use Rattle.std.proofs.Common.{◌≡◌, ℕ, ◌⊎◌, Bool, true, false, not, ◌&&◌, ◌||◌, cond, List, [], ◌∷◌, refl, sym, ◌∙◌, ap, subst, inl, inr}
use Rattle.std.specs.Prelude.{Option, Some, None, nat_eq}
use Rattle.std.specs.List.{list_any}
use Rattle.lists.specs.Lists.{◌∈◌}
use Rattle.search_values.specs.Values.{Value, True, MustBe, False, Lit, Entry, lit, value_of, HoldsFully}
use Rattle.search_values.specs.Nogoods.{Nogood, Rises, Gives}
use Rattle.search_values.specs.Tables.{lits_of, other_sign, same_lit, both_signs, without, once, set_of}
use Rattle.search_values.proofs.Basics.{in_single, and_left, and_right, nat_eq-true, or_cases, lit_is}

-- both signs of an atom stand in the list
pub record Clash (ls : List Lit) : Type 0 where
  pub atom : ℕ
  pub positive : lit atom true ∈ ls
  pub negative : lit atom false ∈ ls

-- the nogood of these literals
abbrev pub nogood : Option ℕ → List Lit → Nogood
nogood head ls = record { lits = ls; head = head }

clash_more : (l : Lit) (ls : List Lit) → Clash ls → Clash (l ∷ ls)
clash_more l ls c = record { atom = c.atom; positive = inr c.positive; negative = inr c.negative }

sign_cases : (a b : Bool) → ((a && not b) || (not a && b)) ≡ true → ((a ≡ true) × (b ≡ false)) ⊎ ((a ≡ false) × (b ≡ true))
sign_cases true true h = cc
sign_cases true false h = inl (refl, refl)
sign_cases false true h = inr (refl, refl)
sign_cases false false h = cc

other_clash : (l : Lit) (ls : List Lit) → list_any (other_sign l) ls ≡ true → Clash (l ∷ ls)
other_clash l [] h = cc
other_clash l (k ∷ ls) h = elim (or_cases (other_sign l k) (list_any (other_sign l) ls) h) [
  | inl e ↦ (let same : l.atom ≡ k.atom = nat_eq-true l.atom k.atom (and_left (nat_eq l.atom k.atom) ((l.positive && not k.positive) || (not l.positive && k.positive)) e) in
      elim (sign_cases l.positive k.positive (and_right (nat_eq l.atom k.atom) ((l.positive && not k.positive) || (not l.positive && k.positive)) e)) [
        | inl s ↦ record { atom = l.atom; positive = inl (lit_is l l.atom true refl s.0); negative = inr (inl (lit_is k l.atom false (sym same) s.1)) }
        | inr s ↦ record { atom = l.atom; positive = inr (inl (lit_is k l.atom true (sym same) s.1)); negative = inl (lit_is l l.atom false refl s.0) }
      ])
  | inr e ↦ (let c = other_clash l ls e in record { atom = c.atom; positive = skip (lit c.atom true) c.positive; negative = skip (lit c.atom false) c.negative })
]
  where
    skip : (x : Lit) → x ∈ (l ∷ ls) → x ∈ (l ∷ k ∷ ls)
    skip x (inl e) = inl e
    skip x (inr i) = inr (inr i)

both_clash : (ls : List Lit) → both_signs ls ≡ true → Clash ls
both_clash [] h = cc
both_clash (l ∷ ls) h = elim (or_cases (list_any (other_sign l) ls) (both_signs ls) h) [
  | inl e ↦ other_clash l ls e
  | inr e ↦ clash_more l ls (both_clash ls e)
]

-- ---- a literal that repeats stands once

same_signs : (a b : Bool) → ((a && b) || (not a && not b)) ≡ true → a ≡ b
same_signs true true h = refl
same_signs true false h = cc
same_signs false true h = cc
same_signs false false h = refl

pub same_lit-is : (l k : Lit) → same_lit l k ≡ true → l ≡ k
same_lit-is l k h = sym (lit_is l k.atom k.positive
    (nat_eq-true l.atom k.atom (and_left (nat_eq l.atom k.atom) ((l.positive && k.positive) || (not l.positive && not k.positive)) h))
    (same_signs l.positive k.positive (and_right (nat_eq l.atom k.atom) ((l.positive && k.positive) || (not l.positive && not k.positive)) h)))

without-from : (l : Lit) (ls : List Lit) (k : Lit) → k ∈ without l ls → k ∈ ls
without-from l [] k i = i
without-from l (m ∷ ls) k i = go (without-from l ls k) (same_lit l m) i
  where
    go : (k ∈ without l ls → k ∈ ls) → (b : Bool) → k ∈ cond b (without l ls) (m ∷ without l ls) → k ∈ (m ∷ ls)
    go below true j = inr (below j)
    go below false (inl e) = inl e
    go below false (inr j) = inr (below j)

without-or : (l : Lit) (ls : List Lit) (k : Lit) → k ∈ ls → (k ≡ l) ⊎ (k ∈ without l ls)
without-or l [] k i = absurd i
without-or l (m ∷ ls) k i = go (without-or l ls k) (same_lit l m) refl i
  where
    go : (k ∈ ls → (k ≡ l) ⊎ (k ∈ without l ls)) → (b : Bool) → same_lit l m ≡ b → k ∈ (m ∷ ls) → (k ≡ l) ⊎ (k ∈ cond b (without l ls) (m ∷ without l ls))
    go below true e (inl f) = inl (f ∙ sym (same_lit-is l m e))
    go below true e (inr j) = below j
    go below false e (inl f) = inr (inl f)
    go below false e (inr j) = elim (below j) [ inl f ↦ inl f | inr m ↦ inr (inr m) ]

-- each literal that stands once stood in the list
pub once-from : (ls : List Lit) (k : Lit) → k ∈ once ls → k ∈ ls
once-from [] k i = i
once-from (l ∷ ls) k (inl e) = inl e
once-from (l ∷ ls) k (inr i) = inr (once-from ls k (without-from l (once ls) k i))

-- each literal of the list stands once
pub once-to : (ls : List Lit) (k : Lit) → k ∈ ls → k ∈ once ls
once-to [] k i = i
once-to (l ∷ ls) k (inl e) = inl e
once-to (l ∷ ls) k (inr i) = elim (without-or l (once ls) k (once-to ls k i)) [ inl e ↦ inl e | inr j ↦ inr j ]

-- ---- what the table holds

-- the nogood is in the table, or both signs of an atom stand in it
pub set_of-or_clash : (head : Option ℕ) (ls : List Lit) → (nogood head (once ls) ∈ set_of head ls) ⊎ Clash ls
set_of-or_clash head ls = go (both_signs ls) refl
  where
    go : (b : Bool) → both_signs ls ≡ b → (nogood head (once ls) ∈ cond b [] (nogood head (once ls) ∷ [])) ⊎ Clash ls
    go true e = inr (both_clash ls e)
    go false e = inl (inl refl)

-- the table has no other nogood
pub set_of-is : (head : Option ℕ) (ls : List Lit) (ng : Nogood) → ng ∈ set_of head ls → ng ≡ nogood head (once ls)
set_of-is head ls ng i = go (both_signs ls) i
  where
    go : (b : Bool) → ng ∈ cond b [] (nogood head (once ls) ∷ []) → ng ≡ nogood head (once ls)
    go true i = absurd i
    go false i = in_single i

-- a nogood of these literals has just these
pub set_of-lits : (head : Option ℕ) (ls : List Lit) (ng : Nogood) → ng ∈ set_of head ls → (l : Lit) → l ∈ ng.lits → l ∈ ls
set_of-lits head ls ng i l j = once-from ls l (subst (λ (z : Nogood). l ∈ z.lits) (set_of-is head ls ng i) j)

-- a nogood of these literals has all of them
pub set_of-all : (head : Option ℕ) (ls : List Lit) (ng : Nogood) → ng ∈ set_of head ls → (l : Lit) → l ∈ ls → l ∈ ng.lits
set_of-all head ls ng i l j = subst (λ (z : Nogood). l ∈ z.lits) (sym (set_of-is head ls ng i)) (once-to ls l j)

-- a literal of the list has an atom of the ids, and the sign
pub in_lits_of : (up : Bool) (ids : List ℕ) (l : Lit) → l ∈ lits_of up ids → (l.atom ∈ ids) × (l.positive ≡ up)
in_lits_of up [] l h = absurd h
in_lits_of up (a ∷ ids) l (inl e) = (inl (ap (λ (k : Lit). k.atom) e), ap (λ (k : Lit). k.positive) e)
in_lits_of up (a ∷ ids) l (inr h) = let r = in_lits_of up ids l h in (inr r.0, r.1)

-- the literal of each id is in the list
pub lits_of-in : (up : Bool) (ids : List ℕ) (a : ℕ) → a ∈ ids → (lit a up ∈ lits_of up ids)
lits_of-in up [] a h = absurd h
lits_of-in up (b ∷ ids) a (inl e) = inl (ap (λ x. lit x up) e)
lits_of-in up (b ∷ ids) a (inr h) = inr (lits_of-in up ids a h)

-- where the head's other literals hold fully, it is true or the nogood gives it
pub head_rises : (stack : List Entry) (ngs : List Nogood) → ((ng : Nogood) → ng ∈ ngs → (a : ℕ) (v : Value) → Gives stack ng a v → ⊥)
    → (h : ℕ) (ls : List Lit)
    → ((ng : Nogood) → (ng ∈ (set_of (Some h) (lit h false ∷ ls))) → ng ∈ ngs)
    → ((l : Lit) → l ∈ ls → HoldsFully stack l)
    → (value_of stack h ≡ Some False → ⊥)
    → value_of stack h ≡ Some True
head_rises stack ngs quiet h ls stored others not_false = elim (set_of-or_clash (Some h) (lit h false ∷ ls)) [
  | inl kept ↦ go (value_of stack h) refl kept
  | inr c ↦ elim c.negative [
    | inl e ↦ (let same : c.atom ≡ h = ap (λ (k : Lit). k.atom) e in elim c.positive [
      | inl f ↦ (let w : true ≡ false = ap (λ (k : Lit). k.positive) f in cc)
      | inr f ↦ subst (λ z. value_of stack z ≡ Some True) same (others (lit c.atom true) f)
    ])
    | inr d ↦ elim c.positive [
      | inl f ↦ (let w : true ≡ false = ap (λ (k : Lit). k.positive) f in cc)
      | inr f ↦ (let t : value_of stack c.atom ≡ Some True = others (lit c.atom true) f in let u : value_of stack c.atom ≡ Some False = others (lit c.atom false) d in cc)
    ]
  ]
]
  where
    rises : (value_of stack h ≡ None) ⊎ (value_of stack h ≡ Some MustBe) → Rises stack (nogood (Some h) (once (lit h false ∷ ls))) h
    rises n = record { heads = refl; among = inl refl; not_yet = n; others = λ l i. elim (once-from (lit h false ∷ ls) l i) [ inl e ↦ inl e | inr k ↦ inr (others l k) ] }

    go : (v : Option Value) → value_of stack h ≡ v → nogood (Some h) (once (lit h false ∷ ls)) ∈ set_of (Some h) (lit h false ∷ ls) → value_of stack h ≡ Some True
    go None e kept = absurd (quiet _ (stored _ kept) h True (rises (inl e)))
    go (Some True) e kept = e
    go (Some MustBe) e kept = absurd (quiet _ (stored _ kept) h True (rises (inr e)))
    go (Some False) e kept = absurd (not_false e)
