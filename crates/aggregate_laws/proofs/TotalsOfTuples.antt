-- Sums over lists with the same members that weigh anything.
use Rattle.std.proofs.Common.{◌≡◌, ℕ, ◌+◌, ◌≤◌, Bool, true, false, cond, List, [], ◌∷◌, length, refl, ap, arith}
use Rattle.std.specs.Prelude.{nat_le, pos, ◌-ℤ◌}
use Rattle.lists.specs.Lists.{◌∈◌, HasNoRepeats}
use Rattle.asp_meaning.specs.declared.value.Value.{Value}
use Rattle.asp_meaning.specs.declared.value.Value.TheVariants as value
use Rattle.aggregate_laws.specs.Totals.{sum_where}
use Rattle.aggregate_laws.specs.TotalsInBodies.{sum_sizes}
use Rattle.aggregate_laws.proofs.Sums.{SumsTo, full_sum, sum_most}
use Rattle.aggregate_laws.proofs.Picking.{path_moves}
use Rattle.aggregate_laws.proofs.Sameness.{Decides}
use Rattle.aggregate_laws.proofs.Picking.{path_in, path_map}

weighing : {T : Type 0} (size : T → ℕ) (ts : List T) → sum_where (λ t. nat_le 1 (size t)) size ts ≡ sum_sizes size ts
weighing size [] = refl
weighing size (t ∷ ts) = go (nat_le 1 (size t)) refl (weighing size ts)
  where
    go : (b : Bool) → nat_le 1 (size t) ≡ b → sum_where (λ t. nat_le 1 (size t)) size ts ≡ sum_sizes size ts → cond b (size t) 0 + sum_where (λ t. nat_le 1 (size t)) size ts ≡ size t + sum_sizes size ts
    go true h e = omega (arith, e)
    go false h e = let z : size t ≡ 0 = grind arith in omega (arith, e, z)

-- where each that weighs anything is among the others and counts there, these add no more than those that count
pub sums_below : {T : Type 0} → Decides T → (c : T → Bool) (size : T → ℕ) (ts others : List T) → HasNoRepeats ts
    → ((t : T) → t ∈ ts → 1 ≤ size t → (t ∈ others) × (c t ≡ true)) → sum_sizes size ts ≤ sum_where c size others
sums_below {T} equal c size ts others once to =
    let full = full_sum (λ t. nat_le 1 (size t)) size ts in
    let here : SumsTo (λ t. (t ∈ ts) × (1 ≤ size t)) size ts (length ts) (sum_where (λ t. nat_le 1 (size t)) size ts) = path_in ts (λ t i h. (i, weighs (size t) h)) (length ts) _ full in
    let there = path_moves equal (λ t. (t ∈ ts) × (1 ≤ size t)) size ts others once (λ z i h. (to z h.0 h.1).0) (length ts) _ here in
    let mine = path_map (λ t h. (to t h.0 h.1).1) (length others) _ there in
    omega (arith, sum_most c size others (length others) _ mine, weighing size ts)
  where
    weighs : (n : ℕ) → nat_le 1 n ≡ true → 1 ≤ n
    weighs n h = grind arith

-- where each counts, the sum is that of all
pub always_sum : {T : Type 0} (size : T → ℕ) (ts : List T) → sum_where (λ t. true) size ts ≡ sum_sizes size ts
always_sum size [] = refl
always_sum size (t ∷ ts) = omega (arith, always_sum size ts)

-- where each that counts is among these, those that count add no more than these
pub sums_above : {T : Type 0} → Decides T → (c : T → Bool) (size : T → ℕ) (ts others : List T) → HasNoRepeats others
    → ((t : T) → t ∈ others → c t ≡ true → t ∈ ts) → sum_where c size others ≤ sum_sizes size ts
sums_above {T} equal c size ts others once to =
    let there = path_moves equal (λ t. c t ≡ true) size others ts once (λ z i h. to z i h) (length others) _ (full_sum c size others) in
    let mine : SumsTo (λ t. true ≡ true) size ts (length ts) (sum_where c size others) = path_map (λ t h. refl) (length ts) _ there in
    omega (arith, sum_most (λ t. true) size ts (length ts) _ mine, always_sum size ts)

-- lists of the same members have the same sum
pub sums_same : {T : Type 0} → Decides T → (size : T → ℕ) (ts us : List T) → HasNoRepeats ts → HasNoRepeats us → ((t : T) → (t ∈ ts) → (t ∈ us)) → ((t : T) → (t ∈ us) → (t ∈ ts)) → sum_sizes size ts ≡ sum_sizes size us
sums_same equal size ts us a b f back =
    let x = sums_below equal (λ t. true) size ts us a (λ t i h. (f t i, refl)) in
    let y = sums_below equal (λ t. true) size us ts b (λ t i h. (back t i, refl)) in
    omega (arith, x, y, always_sum size ts, always_sum size us)

-- equal sums have equal differences
pub equal_ints : (a b x y : ℕ) → a ≡ b → x ≡ y → ◌≡◌ {A = Value} (value.Int (pos a -ℤ pos x)) (value.Int (pos b -ℤ pos y))
equal_ints a b x y e f = ap (λ (q : ℕ × ℕ). value.Int (pos q.0 -ℤ pos q.1)) (λ i. (e i, f i))
