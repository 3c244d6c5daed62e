-- The struck nogood that comes first: what one more nogood changes, and what stands at the end.
use Rattle.std.proofs.Common.{◌≡◌, ℕ, ◌+◌, ◌<◌, ◌≤◌, ◌⊎◌, Bool, true, false, not, ◌&&◌, ◌||◌, cond, List, length, refl, sym, ◌∙◌, ap, subst, inl, inr, arith}
use Rattle.std.specs.Prelude.{Option, Some, None, nat_eq, nat_lt}
use Rattle.std.proofs.lemmas.Option.{slice_get_within}
use Rattle.lists.specs.Lists.{◌∈◌}
use Rattle.lists.proofs.Places.{get_of}
use Rattle.search_values.specs.declared.entry.Entry.{Entry}
use Rattle.search_values.specs.Values.{Lit}
use Rattle.search_values.specs.Nogoods.{Nogood, IsStruck}
use Rattle.search_values.proofs.Basics.{or_cases, bool_cases, and_left, and_right}
use Rattle.journal_theory.specs.Events.{lits_in, lits_at}
use Rattle.conflict_learning.specs.FirstValues.{came_with}
use Rattle.conflict_learning.specs.Analysing.{AllHold, IsUnitBelow}
use Rattle.conflict_learning.specs.Pending.{highest_of}
use Rattle.conflict_learning.specs.Choosing.{IsChoice, IsConflict, IsTold, IsAtMost, IsBest, comes_before, first_of}
use Rattle.conflict_learning.specs.declared.choosing.Conflict.{Conflict}
use Rattle.conflict_learning.proofs.Highest.{highest_le}

-- where all stand at level 0, the nogood isn't unit below its highest level
pub not_unit_at_0 : (stack : List Entry) (ls : List Lit) (top : ℕ) → top ≡ highest_of stack ls → top ≡ 0 → ¬ IsUnitBelow stack ls
not_unit_at_0 stack ls top is zero unit =
    let le = highest_le stack ls unit.1.left unit.1.among in
    let above = unit.1.above in
    absurd (omega (arith, le, above, is, zero))

-- a number below the next is below this one or is it
below_next : (m n : ℕ) → m < n + 1 → (m < n) ⊎ (m ≡ n)
below_next m n h = grind (arith, h)

module _ (ngs : List Nogood) (stack : List Entry) (n : ℕ) where
  -- the nogood that was looked at doesn't come before itself
  itself : (c : Conflict) → IsConflict ngs stack n c → IsAtMost stack c (lits_at ngs n)
  itself c is = (
    (let q = is.came_is in omega (arith, q)),
    λ same unit. elim
        (bool_cases c.unit) [ inl t ↦ t | inr f ↦ absurd (is.unit_not f unit) ],
  )

  -- it is told by its own id
  told_by : (c : Conflict) → IsConflict ngs stack n c → IsConflict ngs stack c.id c
  told_by c is = subst (λ m. IsConflict ngs stack m c) (sym is.id_is) is

  -- its id is below the next
  id_low : (c : Conflict) → IsConflict ngs stack n c → c.id < n + 1
  id_low c is = let q = is.id_is in omega (arith, q)

  -- where it comes before the best one so far, it takes its place
  replaces : (best c : Conflict) → comes_before c best ≡ true → (ls : List Lit) → IsAtMost stack best ls → IsAtMost stack c ls
  replaces best c before ls at_most = elim (or_cases (nat_lt c.came best.came)
      (nat_eq c.came best.came && (c.unit && not best.unit)) before) [
        | inl less ↦ (
            let low : c.came < best.came = grind (arith, less) in
            ((let a = at_most.0 in omega (arith, a, low)), λ same unit. absurd (let a = at_most.0 in omega (arith, a, low, same))))
        | inr tie ↦ (
            let same_came : c.came ≡ best.came = (let t = and_left (nat_eq c.came best.came) (c.unit && not best.unit) tie in grind
            (arith, t))
            in (
              (let a = at_most.0 in omega (arith, a, same_came)),
              λ same unit. and_left c.unit (not best.unit) (and_right (nat_eq c.came best.came) (c.unit && not best.unit) tie),
            ))
      ]

  -- where it doesn't, the best one stays so
  stays : (best c : Conflict) → comes_before c best ≡ false → IsConflict ngs stack n c → IsAtMost stack best (lits_at ngs n)
  stays best c after is = (low, tied)
    where
      or_no : (a b : Bool) → (a || b) ≡ false → (a ≡ false) × (b ≡ false)
      or_no true b h = cc
      or_no false b h = (refl, h)

      parts : (nat_lt c.came best.came ≡ false) × ((nat_eq c.came best.came && (c.unit && not best.unit)) ≡ false)
      parts = or_no (nat_lt c.came best.came) (nat_eq c.came best.came && (c.unit && not best.unit)) after

      low : best.came ≤ came_with stack (lits_at ngs n)
      low = let l : best.came ≤ c.came = (let h = parts.0 in grind (arith, h)) in let q = is.came_is in omega (arith, l, q)

      third : (a b d : Bool) → (a && (b && not d)) ≡ false → a ≡ true → b ≡ true → d ≡ true
      third true true true h p q = refl
      third true true false h p q = cc
      third true false d h p q = cc
      third false b d h p q = cc

      tied : best.came ≡ came_with stack (lits_at ngs n) → IsUnitBelow stack (lits_at ngs n) → best.unit ≡ true
      tied same unit =
          let equal : nat_eq c.came best.came ≡ true = (let q : c.came ≡ best.came = is.came_is ∙ sym same in grind (arith, q)) in
          let is_unit : c.unit ≡ true = elim (bool_cases c.unit) [ inl t ↦ t | inr f ↦ absurd (is.unit_not f unit) ] in
          third (nat_eq c.came best.came) c.unit best.unit parts.1 equal is_unit

  -- one nogood more
  pub best_step : (best found : Option Conflict) → IsBest ngs stack n best → IsTold ngs stack n found
      → IsBest ngs stack (n + 1) (first_of best found)
  best_step None None so_far told = λ m low. elim (below_next m n low) [
    | inl h ↦ so_far m h
    | inr q ↦ subst (λ k. ¬ AllHold stack (lits_at ngs k)) (sym q) told
  ]
  best_step None (Some c) so_far told = (
    told_by c told,
    id_low c told,
    λ m low holds. elim (below_next m n low) [
      | inl h ↦ absurd (so_far m h holds)
      | inr q ↦ subst (λ k. IsAtMost stack c (lits_at ngs k)) (sym q) (itself c told)
    ],
  )
  best_step (Some b) None so_far told = (
    so_far.0,
    (let low = so_far.1 in omega (arith, low)),
    λ m low holds. elim (below_next m n low) [
      | inl h ↦ so_far.2 m h holds
      | inr q ↦ absurd (told (subst (λ k. AllHold stack (lits_at ngs k)) q holds))
    ],
  )
  best_step (Some b) (Some c) so_far told = go (comes_before c b) refl
    where
      go : (t : Bool) → comes_before c b ≡ t → IsBest ngs stack (n + 1) (cond t (Some c) (Some b))
      go true before = (
        told_by c told,
        id_low c told,
        λ m low holds. elim (below_next m n low) [
          | inl h ↦ replaces b c before (lits_at ngs m) (so_far.2 m h holds)
          | inr q ↦ subst (λ k. IsAtMost stack c (lits_at ngs k)) (sym q) (itself c told)
        ],
      )
      go false after = (
        so_far.0,
        (let low = so_far.1 in omega (arith, low)),
        λ m low holds. elim (below_next m n low) [
          | inl h ↦ so_far.2 m h holds
          | inr q ↦ subst (λ k. IsAtMost stack b (lits_at ngs k)) (sym q) (stays b c after told)
        ],
      )

-- the literals of a nogood are those at its id
at_id : (ngs : List Nogood) (ng : Nogood) → ng ∈ ngs → (m : ℕ) × (m < length ngs) × (ng.lits ≡ lits_at ngs m)
at_id ngs ng i = let r = get_of ngs ng i in (r.0, slice_get_within ngs r.0 ng r.1, sym (ap lits_in r.1))

-- all were looked at, and none is struck
pub none_chosen : (ngs : List Nogood) (stack : List Entry) (n : ℕ) → length ngs ≤ n → IsBest ngs stack n None → IsChoice ngs stack None
none_chosen ngs stack n over so_far ng i struck =
    let at = at_id ngs ng i in
    so_far at.0 (let low = at.1 in omega (arith, low, over)) (subst (AllHold stack) at.2 struck)

-- all were looked at, and one comes first
pub one_chosen : (ngs : List Nogood) (stack : List Entry) (n : ℕ) → n ≤ length ngs → length ngs ≤ n → (c : Conflict)
    → IsBest ngs stack n (Some c)
    → IsChoice ngs stack (Some c.id)
one_chosen ngs stack n within over c so_far = record {
  there = let low = so_far.1 in omega (arith, low, within);
  holds = so_far.0.holds;
  first = λ ng i struck. subst (λ k. k ≤ came_with stack ng.lits) so_far.0.came_is (at_most ng i struck).0;
  preferred = λ ng i struck same unit. so_far.0.unit_is ((at_most ng i struck).1 (so_far.0.came_is ∙ same) unit);
}
  where
    at_most : (ng : Nogood) → ng ∈ ngs → IsStruck stack ng → IsAtMost stack c ng.lits
    at_most ng i struck =
        let at = at_id ngs ng i in
        subst (λ (ls : List Lit). IsAtMost stack c ls) (sym at.2)
        (so_far.2 at.0 (let low = at.1 in omega (arith, low, over)) (subst (AllHold stack) at.2 struck))
