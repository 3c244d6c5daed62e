-- Values that are read off entry by entry, up to the first closed one.
use Rattle.std.proofs.Common.{◌≡◌, ◌⊎◌, inl, inr, ℕ, zero, suc, ◌<◌, ◌≤◌, ◌+◌, Bool, true, false, ◌||◌, List, [], ◌∷◌, ◌++◌, take, drop, length, get_or, slice_get, Option, Some, None, refl, sym, ap, subst, ◌∙◌, arith}
use Rattle.std.specs.Prelude.{cond, nat_eq, reverse, slice_set}
use Rattle.search_values.proofs.Basics.{nat_eq-true, nat_eq-same}
use Rattle.std.proofs.lemmas.Option.{slice_get-get_or}
use Rattle.lists.specs.Lists.{◌∈◌}
use Rattle.search_values.specs.declared.entry.Why.TheVariants.{Given, Chosen, Closed}
use Rattle.trail.specs.Assigning.{IsStackOf}
use Rattle.std.proofs.lemmas.List.{reverse-append, take-append-drop, take_all}
use Rattle.alpha_outside.specs.declared.literal.Value.{Value}
use Rattle.search_values.specs.declared.entry.Why.{Why}
use Rattle.search_values.specs.declared.entry.Entry.{Entry}
use Rattle.search_values.specs.Values.{value_of, is_closed, any_closed, before_closed}
use Rattle.lazy_grounder.proofs.NamedAtoms.{take_next}
use Rattle.lazy_grounder.proofs.EquationLemmas.{set_same, set_other}
use Rattle.pattern_covers.specs.Base.{AreBaseValues}

-- the oldest of the entries, the newest of them first
abbrev pub oldest : ℕ → List Entry → List Entry
oldest i stack = reverse (take i (reverse stack))

-- the values of the atoms after these entries
pub record AreValuesOf (atoms : ℕ) (older : List Entry) (values : List (Option Value)) : Type 0 where
  pub many : length values ≡ atoms
  pub each : (a : ℕ) → a < atoms → slice_get values a ≡ Some (value_of older a)

-- what is known after so many entries
pub record HasRead (atoms : ℕ) (stack : List Entry) (i : ℕ) (values : List (Option Value)) : Type 0 where
  pub are : AreValuesOf atoms (oldest i stack) values
  pub none_closed : any_closed (oldest i stack) ≡ false

or_true : (a : Bool) → (a || true) ≡ true
or_true true = refl
or_true false = refl

closed_in : (newer : List Entry) (e : Entry) (older : List Entry) → is_closed e.why ≡ true → any_closed (newer ++ e ∷ older) ≡ true
closed_in [] e older closed = ap (λ b. b || any_closed older) closed
closed_in (x ∷ newer) e older closed = ap (λ b. is_closed x.why || b) (closed_in newer e older closed) ∙ or_true (is_closed x.why)

-- below the first closed entry stand those before it
below_closed : (newer : List Entry) (e : Entry) (older : List Entry) → is_closed e.why ≡ true → any_closed older ≡ false → before_closed (newer ++ e ∷ older) ≡ older
below_closed [] e older closed none =
    ap (λ b. cond b (before_closed older) (cond (is_closed e.why) older (e ∷ older))) none ∙ ap (λ b. cond b older (e ∷ older)) closed
below_closed (x ∷ newer) e older closed none =
    ap (λ b. cond b (before_closed (newer ++ e ∷ older)) (cond (is_closed x.why) (newer ++ e ∷ older) (x ∷ newer ++ e ∷ older))) (closed_in newer e older closed) ∙ below_closed newer e older closed none

or_left : (a b : Bool) → (a || b) ≡ false → a ≡ false
or_left true b e = cc
or_left false b e = refl

or_right : (a b : Bool) → (a || b) ≡ false → b ≡ false
or_right true b e = cc
or_right false b e = e

-- all stand there where none is closed
none_below : (stack : List Entry) → any_closed stack ≡ false → before_closed stack ≡ stack
none_below [] none = refl
none_below (e ∷ rest) none =
    ap (λ b. cond b (before_closed rest) (cond (is_closed e.why) rest (e ∷ rest))) (or_right (is_closed e.why) (any_closed rest) none)
    ∙ ap (λ b. cond b rest (e ∷ rest)) (or_left (is_closed e.why) (any_closed rest) none)

-- one more of the oldest
oldest_next : (stack : List Entry) (i : ℕ) (e : Entry) → slice_get (reverse stack) i ≡ Some e → oldest (suc i) stack ≡ e ∷ oldest i stack
oldest_next stack i e at = ap reverse (take_next (reverse stack) i e at) ∙ reverse-append (take i (reverse stack)) (e ∷ [])

reverse_twice : (xs : List Entry) → reverse (reverse xs) ≡ xs
reverse_twice [] = refl
reverse_twice (x ∷ xs) = ap reverse (reverse-append (x ∷ []) xs) ∙ (reverse-append (reverse xs) (x ∷ []) ∙ ap (λ l. x ∷ l) (reverse_twice xs))

-- the newer ones before them
split_at : (stack : List Entry) (i : ℕ) → stack ≡ reverse (drop i (reverse stack)) ++ oldest i stack
split_at stack i = sym (reverse_twice stack) ∙ (ap reverse (sym (take-append-drop i (reverse stack))) ∙ reverse-append (take i (reverse stack)) (drop i (reverse stack)))

-- ---- the loop

pub first_read : (atoms : ℕ) (stack : List Entry) (values : List (Option Value)) → length values ≡ atoms → ((a : ℕ) → a < atoms → slice_get values a ≡ Some None) → HasRead atoms stack 0 values
first_read atoms stack values many none = record { are = record { many = many; each = none }; none_closed = refl }

same_or_not : (x y : ℕ) → ((nat_eq x y ≡ true) × (y ≡ x)) ⊎ ((nat_eq x y ≡ false) × (¬ (y ≡ x)))
same_or_not x y = go (nat_eq x y) refl
  where
    go : (b : Bool) → nat_eq x y ≡ b → ((nat_eq x y ≡ true) × (y ≡ x)) ⊎ ((nat_eq x y ≡ false) × (¬ (y ≡ x)))
    go true e = inl (e, sym (nat_eq-true x y e))
    go false e = inr (e, λ same. let r : nat_eq x y ≡ true = subst (λ z. nat_eq x z ≡ true) (sym same) (nat_eq-same x) in let q = sym r ∙ e in cc)

set_length : (xs : List (Option Value)) (i : ℕ) (x : Option Value) → length (slice_set xs i x) ≡ length xs
set_length [] i x = refl
set_length (y ∷ xs) zero x = refl
set_length (y ∷ xs) (suc i) x = ap suc (set_length xs i x)

-- one entry more
next_values : (atoms : ℕ) (older : List Entry) (values : List (Option Value)) (e : Entry) → AreValuesOf atoms older values → AreValuesOf atoms (e ∷ older) (slice_set values e.atom (Some e.value))
next_values atoms older values e are = record {
  many = set_length values e.atom (Some e.value) ∙ are.many;
  each = λ a low. elim (same_or_not e.atom a) [
    | inl same ↦
        subst (λ x. slice_get (slice_set values e.atom (Some e.value)) x ≡ Some (Some e.value)) (sym same.1) (set_same values e.atom (Some e.value) (subst (λ n. e.atom < n) (sym are.many) (subst (λ x. x < atoms) same.1 low)))
        ∙ ap (λ b. Some (cond b (Some e.value) (value_of older a))) (sym same.0)
    | inr other ↦ set_other values e.atom a (Some e.value) other.1 ∙ (are.each a low ∙ ap (λ b. Some (cond b (Some e.value) (value_of older a))) (sym other.0))
  ];
}

next_read_at : (atoms : ℕ) (stack : List Entry) (i : ℕ) (values : List (Option Value)) (e : Entry) → HasRead atoms stack i values → slice_get (reverse stack) i ≡ Some e → is_closed e.why ≡ false
    → HasRead atoms stack (suc i) (slice_set values e.atom (Some e.value))
next_read_at atoms stack i values e read at is_open =
    let next : oldest (suc i) stack ≡ e ∷ oldest i stack = oldest_next stack i e at in
    record {
      are = subst (λ l. AreValuesOf atoms l (slice_set values e.atom (Some e.value))) (sym next) (next_values atoms (oldest i stack) values e read.are);
      none_closed = ap any_closed next ∙ (ap (λ b. b || any_closed (oldest i stack)) is_open ∙ read.none_closed);
    }

pub next_read : (atoms : ℕ) (stack : List Entry) (i : ℕ) (values : List (Option Value)) (e : Entry) (place : ℕ) → HasRead atoms stack i values → slice_get (reverse stack) i ≡ Some e
    → is_closed e.why ≡ false → place ≡ e.atom → HasRead atoms stack (i + 1) (slice_set values place (Some e.value))
next_read atoms stack i values e place read at is_open is =
    let one : i + 1 ≡ suc i = omega arith in
    subst (λ k. HasRead atoms stack k (slice_set values place (Some e.value))) (sym one)
    (subst (λ p. HasRead atoms stack (suc i) (slice_set values p (Some e.value))) (sym is) (next_read_at atoms stack i values e read at is_open))

-- the entry at a place of the list that is read
pub entry_at : (items stack : List Entry) (i : ℕ) (e : Entry) → items ≡ reverse stack → i < length items → e ≡ get_or items i e → slice_get (reverse stack) i ≡ Some e
entry_at items stack i e are low is = ap (λ l. slice_get l i) (sym are) ∙ (slice_get-get_or items i e low ∙ ap Some (sym is))

pub closed_by : (why : Why) (reason : Option ℕ) → why ≡ Closed reason → is_closed why ≡ true
closed_by why reason e = ap is_closed e

pub open_by : (why : Why) → ((reason : Option ℕ) → ¬ (why ≡ Closed reason)) → is_closed why ≡ false
open_by (Given n) other = refl
open_by Chosen other = refl
open_by (Closed reason) other = absurd (other reason refl)

-- ---- places

each_below : (atoms : ℕ) (stack : List Entry) → IsStackOf atoms stack → (e : Entry) → e ∈ stack → e.atom < atoms
each_below atoms [] is e i = absurd i
each_below atoms (x ∷ rest) is e (inl same) = subst (λ (y : Entry). y.atom < atoms) (sym same) is.0.placed
each_below atoms (x ∷ rest) is e (inr i) = each_below atoms rest is.1 e i

in_front : (newer older : List Entry) (e : Entry) → e ∈ older → e ∈ (newer ++ older)
in_front [] older e i = i
in_front (x ∷ newer) older e i = inr (in_front newer older e i)

pub entry_below : (atoms : ℕ) (stack : List Entry) (i : ℕ) (values : List (Option Value)) (e : Entry) (place : ℕ) → HasRead atoms stack i values → slice_get (reverse stack) i ≡ Some e
    → IsStackOf atoms stack → place ≡ e.atom → place < length values
entry_below atoms stack i values e place read at is same =
    let next : oldest (suc i) stack ≡ e ∷ oldest i stack = oldest_next stack i e at in
    let newer = reverse (drop (suc i) (reverse stack)) in
    let whole : stack ≡ newer ++ e ∷ oldest i stack = split_at stack (suc i) ∙ ap (λ l. newer ++ l) next in
    let among : e ∈ stack = subst (λ l. e ∈ l) (sym whole) (in_front newer (e ∷ oldest i stack) e (inl refl)) in
    let low = each_below atoms stack is e among in
    let many = read.are.many in
    omega (arith, low, many, same)

-- at the first closed entry
pub at_closed : (atoms : ℕ) (stack : List Entry) (i : ℕ) (values : List (Option Value)) (e : Entry) → HasRead atoms stack i values → slice_get (reverse stack) i ≡ Some e → is_closed e.why ≡ true
    → AreBaseValues atoms stack values
at_closed atoms stack i values e read at closed =
    let next : oldest (suc i) stack ≡ e ∷ oldest i stack = oldest_next stack i e at in
    let newer = reverse (drop (suc i) (reverse stack)) in
    let whole : stack ≡ newer ++ e ∷ oldest i stack = split_at stack (suc i) ∙ ap (λ l. newer ++ l) next in
    let below : before_closed stack ≡ oldest i stack = ap before_closed whole ∙ below_closed newer e (oldest i stack) closed read.none_closed in
    record { many = read.are.many; each = λ a low. read.are.each a low ∙ ap (λ l. Some (value_of l a)) (sym below) }

-- and where all were read
pub all_read : (atoms : ℕ) (stack : List Entry) (i : ℕ) (values : List (Option Value)) (items : List Entry) → HasRead atoms stack i values → items ≡ reverse stack → length items ≤ i → AreBaseValues atoms stack values
all_read atoms stack i values items read are end =
    let all : length (reverse stack) ≤ i = subst (λ l. length l ≤ i) are end in
    let whole : oldest i stack ≡ stack = ap reverse (take_all i (reverse stack) all) ∙ reverse_twice stack in
    let none : any_closed stack ≡ false = ap any_closed (sym whole) ∙ read.none_closed in
    record { many = read.are.many; each = λ a low. read.are.each a low ∙ ap (λ l. Some (value_of l a)) (whole ∙ sym (none_below stack none)) }
