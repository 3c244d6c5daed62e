-- A nogood whose literals hold, with just one at their highest level, is unit where that level is taken away.
use Rattle.std.proofs.Common.{◌≡◌, ℕ, suc, zero, ◌+◌, ◌≤◌, ◌<◌, ◌⊎◌, Bool, true, false, ◌&&◌, cond, List, [], ◌∷◌, refl, sym, ◌∙◌, ap, subst, inl, inr, arith}
use Rattle.std.specs.Prelude.{Option, Some, None, nat_eq, nat_le, is_none}
use Rattle.lists.specs.Lists.{◌∈◌}
use Rattle.search_values.specs.declared.entry.Entry.{Entry}
use Rattle.search_values.specs.Values.{Value, True, MustBe, False, Lit, lit, value_of, full_value, HoldsFully, opened, level_of, back_to, first_level}
use Rattle.search_values.specs.Nogoods.{Nogood, IsStruck, IsLeft, Gives}
use Rattle.search_values.specs.Instances.{Rules}
use Rattle.journal_theory.specs.Resolution.{IsOneHighest}
use Rattle.journal_theory.specs.States.{State}
use Rattle.search_values.proofs.Basics.{and_right, nat_eq-same, nat_eq-true, value_cases, lit_is}
use Rattle.journal_theory.proofs.Stack.{Good, at_level}
use Rattle.journal_theory.proofs.Learning.{lit_same}
use Rattle.journal_theory.specs.Journals.{replay}
use Rattle.journal_theory.proofs.Events.{legal_safe}
use Rattle.journal_theory.specs.Laws.{OneHighestJumps}

none_pick : (b : Bool) (stack other : List Entry) (a : ℕ) → (b ≡ true → value_of stack a ≡ None) → value_of other a ≡ None → value_of (cond b stack other) a ≡ None
none_pick true stack other a g h = g refl
none_pick false stack other a g h = h

-- an unassigned atom is so where levels are taken away
none_back : (l : ℕ) (stack : List Entry) (a : ℕ) → value_of stack a ≡ None → value_of (back_to l stack) a ≡ None
none_back l [] a h = refl
none_back l (e ∷ rest) a h = none_pick (nat_le (level_of rest + opened e.why) l) (e ∷ rest) (back_to l rest) a (λ t. h) (none_back l rest a below)
  where
    below : value_of rest a ≡ None
    below = elim (value_cases e rest a) [
      | inl c ↦ (let w : Some e.value ≡ None = sym c.1 ∙ h in cc)
      | inr c ↦ (sym c.1 ∙ h)
    ]

low_pick : (b : Bool) (m n k : ℕ) → m ≤ k → n ≤ k → cond b m n ≤ k
low_pick true m n k g h = g
low_pick false m n k g h = h

-- a first value stands at most at the present level
pub first_low : (stack : List Entry) (a : ℕ) → first_level stack a ≤ level_of stack
first_low [] a = omega arith
first_low (e ∷ rest) a =
    low_pick (nat_eq e.atom a && is_none (value_of rest a)) (level_of rest + opened e.why) (first_level rest a) (level_of rest + opened e.why)
    (omega arith) (let h = first_low rest a in omega (h, arith))

nat_le-yes : (m n : ℕ) → nat_le m n ≡ true → m ≤ n
nat_le-yes m n h = grind arith

-- an atom whose first value stands above this level is unassigned where the levels above it are taken away
pub first_above : (l : ℕ) (stack : List Entry) (a : ℕ) → l < first_level stack a → value_of (back_to l stack) a ≡ None
first_above l [] a h = refl
first_above l (e ∷ rest) a h =
    none_pick (nat_le (level_of rest + opened e.why) l) (e ∷ rest) (back_to l rest) a
    (λ t. let low = first_low (e ∷ rest) a in let k = nat_le-yes (level_of rest + opened e.why) l t in absurd (not_both (first_level (e ∷ rest) a) (level_of rest + opened e.why) h low k))
    (go (nat_eq e.atom a && is_none (value_of rest a)) refl h (first_above l rest a))
  where
    not_both : (f k : ℕ) → l < f → f ≤ k → k ≤ l → ⊥
    not_both f k p q r = omega (p, q, r, arith)

    unassigned : (o : Option Value) → is_none o ≡ true → o ≡ None
    unassigned None t = refl
    unassigned (Some v) t = cc

    go : (b : Bool) → (nat_eq e.atom a && is_none (value_of rest a)) ≡ b → l < cond b (level_of rest + opened e.why) (first_level rest a)
        → (l < first_level rest a → value_of (back_to l rest) a ≡ None) → value_of (back_to l rest) a ≡ None
    go true t h below = none_back l rest a (unassigned (value_of rest a) (and_right (nat_eq e.atom a) (is_none (value_of rest a)) t))
    go false t h below = below h

-- whether a literal holds fully is decided

full_or_not : (o : Option Value) (b : Bool) → (o ≡ Some (full_value b)) ⊎ (¬ (o ≡ Some (full_value b)))
full_or_not None b = inr (λ e. cc)
full_or_not (Some True) true = inl refl
full_or_not (Some True) false = inr (λ e. cc)
full_or_not (Some MustBe) true = inr (λ e. cc)
full_or_not (Some MustBe) false = inr (λ e. cc)
full_or_not (Some False) true = inr (λ e. cc)
full_or_not (Some False) false = inl refl

module _ (stack : List Entry) (a : ℕ) where
  abbrev OthersFull : List Lit → Type 0
  OthersFull ls = (l : Lit) → l ∈ ls → (l ≡ lit a false) ⊎ HoldsFully stack l

  others_or_not : (ls : List Lit) → OthersFull ls ⊎ (¬ OthersFull ls)
  others_or_not [] = inl (λ l i. absurd i)
  others_or_not (k ∷ ls) = elim (others_or_not ls) [
    | inr no_others ↦ inr (λ h. no_others (λ l i. h l (inr i)))
    | inl rest ↦ elim (lit_same k (lit a false)) [
      | inl same ↦ inl (λ l i. elim i [ inl e ↦ inl (e ∙ same) | inr j ↦ rest l j ])
      | inr differs ↦ elim (full_or_not (value_of stack k.atom) k.positive) [
        | inl full ↦ inl (λ l i. elim i [ inl e ↦ inr (subst (λ (z : Lit). HoldsFully stack z) (sym e) full) | inr j ↦ rest l j ])
        | inr empty ↦ inr (λ h. elim (h k (inl refl)) [ inl e ↦ differs e | inr f ↦ empty f ])
      ]
    ]
  ]

pub head_or_not : (head : Option ℕ) (a : ℕ) → (head ≡ Some a) ⊎ (¬ (head ≡ Some a))
head_or_not None a = inr (λ e. cc)
head_or_not (Some h) a = go (nat_eq h a) refl
  where
    go : (b : Bool) → nat_eq h a ≡ b → (Some h ≡ Some a) ⊎ (¬ (Some h ≡ Some a))
    go true e = inl (ap (λ z. Some z) (nat_eq-true h a e))
    go false e = inr (λ w. let f : h ≡ a = cc in let t : nat_eq h h ≡ false = subst (λ z. nat_eq h z ≡ false) (sym f) e in let u = nat_eq-same h in cc)

-- a literal that is left of a nogood makes it unit
pub left_unit : (stack : List Entry) (ng : Nogood) (left : Lit) → IsLeft stack ng left → (a : ℕ) × (v : Value) × Gives stack ng a v
left_unit stack ng left h = go left.positive refl
  where
    negative : IsLeft stack ng (lit left.atom false) → (a : ℕ) × (v : Value) × Gives stack ng a v
    negative k = elim (head_or_not ng.head left.atom) [
      | inr other ↦ (left.atom, MustBe, (k, (λ r. other r.heads)))
      | inl heads ↦ elim (others_or_not stack left.atom ng.lits) [
        | inl full ↦ (left.atom, True, record { heads = heads; among = k.among; not_yet = inl k.unassigned; others = full })
        | inr some ↦ (left.atom, MustBe, (k, (λ r. some r.others)))
      ]
    ]

    go : (b : Bool) → left.positive ≡ b → (a : ℕ) × (v : Value) × Gives stack ng a v
    go true e = (left.atom, False, subst (λ z. IsLeft stack ng z) (sym (lit_is left left.atom true refl e)) h)
    go false e = negative (subst (λ z. IsLeft stack ng z) (sym (lit_is left left.atom false refl e)) h)

-- a level that isn't 0 is one above another
below_level : (m : ℕ) → 0 < m → (l : ℕ) × (suc l ≡ m)
below_level zero h = absurd (not_less h)
  where
    not_less : 0 < 0 → ⊥
    not_less k = omega (k, arith)
below_level (suc l) h = (l, refl)

-- where all literals hold and just one stands at the highest level, there is a level at which that one is left
pub highest_left : {N A K : Type 0} (core : Rules N A K) (s : State N A K) (stack : List Entry) → Good core s stack → (ng : Nogood) → IsStruck stack ng → (high : IsOneHighest stack ng.lits)
    → (level : ℕ) × (level < level_of stack) × IsLeft (back_to level stack) ng high.left
highest_left core s stack g ng struck high =
    let b = below_level (first_level stack high.left.atom) high.above in
    let low = first_low stack high.left.atom in (
      b.0,
      less b.0 (first_level stack high.left.atom) (level_of stack) b.1 low,
      record {
        among = high.among;
        unassigned = first_above b.0 stack high.left.atom (next_less b.0 (first_level stack high.left.atom) b.1);
        others = λ l i. elim (high.others l i) [
          | inl e ↦ inl e
          | inr lower ↦ inr (
              let h = struck l i in
              let r = at_level core s b.0 stack g l.atom h.0 h.1 (at_most b.0 (first_level stack l.atom) (first_level stack high.left.atom) b.1 lower) in
              (r.0, r.1, r.2 ∙ h.2))
        ];
      },
    )
  where
    less : (l m k : ℕ) → suc l ≡ m → m ≤ k → l < k
    less l m k e h = omega (e, h, arith)

    next_less : (l m : ℕ) → suc l ≡ m → l < m
    next_less l m e = omega (e, arith)

    at_most : (l k m : ℕ) → suc l ≡ m → k < m → k ≤ l
    at_most l k m e h = omega (e, h, arith)

-- law: such a nogood is unit after some Back
pub one_highest_jumps : {N A K : Type 0} → OneHighestJumps N A K
one_highest_jumps core listed journal legal n ng at struck high =
    let s = replay core journal in
    let r = highest_left core s s.stack (legal_safe core listed journal legal).valid.good ng struck high in
    (r.0, r.1, (ng, at, left_unit (back_to r.0 s.stack) ng high.left r.2))
