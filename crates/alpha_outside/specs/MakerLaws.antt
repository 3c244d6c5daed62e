-- The tests of steps and of makers are equality.
use Rattle.std.proofs.Common.{◌≡◌, ℕ, ℤ, Bool, true, false, ◌&&◌, nat_eq, List, refl, sym, ap, ◌∙◌, true≢false}
use mathlib.Core.Bool.{beq as bool_eq}
use Rattle.std.specs.Bool.{Decides}
use Rattle.std.proofs.lemmas.Bool.Decides.{Decides-eqb, Decides-and}
use Rattle.std.specs.Ordering.{int_eq}
use Rattle.std.specs.Cmp.{IsEquivalence, signed_Decides, booleans_Decides, both_ways}
use Rattle.std.specs.Cmp.Lexicographic.{pointwise, pointwise_decides}
use Rattle.alpha_outside.specs.declared.maker.Step.{Step}
use Rattle.alpha_outside.specs.declared.maker.Step.TheVariants.{Zero, Skip, Add, Reach, Above, Total}
use Rattle.alpha_outside.specs.declared.maker.Maker.{Maker}
use Rattle.alpha_outside.specs.declared.maker.Maker.TheVariants as maker
use Rattle.alpha_outside.specs.Makers.{side_eq, member_eq, sums_eq, step_eq, maker_eq}

ids : (xs ys : List ℕ) → Decides (pointwise nat_eq xs ys) (xs ≡ ys)
ids = pointwise_decides Decides-eqb

no : {A : Type 0} → false ≡ true → A
no e = absurd (true≢false (sym e))

-- the parts that all but totals have
sides : (agg : ℕ) (plus : Bool) (key : List ℕ) (a : ℕ) (p : Bool) (xs : List ℕ) → Decides (side_eq agg plus key a p xs) (((agg ≡ a) × (plus ≡ p)) × (key ≡ xs))
sides agg plus key a p xs =
    Decides-and (nat_eq agg a && bool_eq plus p) (pointwise nat_eq key xs) (Decides-and (nat_eq agg a) (bool_eq plus p) (Decides-eqb agg a) (booleans_Decides plus p)) (ids key xs)

-- the parts of a step to a member
members : (agg : ℕ) (plus : Bool) (k : ℕ) (sum : ℤ) (key : List ℕ) (a : ℕ) (p : Bool) (n : ℕ) (s : ℤ) (xs : List ℕ)
    → Decides (member_eq k sum n s && side_eq agg plus key a p xs) (((k ≡ n) × (sum ≡ s)) × (((agg ≡ a) × (plus ≡ p)) × (key ≡ xs)))
members agg plus k sum key a p n s xs =
    Decides-and (member_eq k sum n s) (side_eq agg plus key a p xs) (Decides-and (nat_eq k n) (int_eq sum s) (Decides-eqb k n) (signed_Decides sum s)) (sides agg plus key a p xs)

-- two sums
sums : (x y u v : ℤ) → Decides (sums_eq x y u v) ((x ≡ u) × (y ≡ v))
sums x y u v = Decides-and (int_eq x u) (int_eq y v) (signed_Decides x u) (signed_Decides y v)

-- the parts of a step above a sum
bounds : (agg : ℕ) (plus : Bool) (low high : ℤ) (key : List ℕ) (a : ℕ) (p : Bool) (l h : ℤ) (xs : List ℕ)
    → Decides (sums_eq low high l h && side_eq agg plus key a p xs) (((low ≡ l) × (high ≡ h)) × (((agg ≡ a) × (plus ≡ p)) × (key ≡ xs)))
bounds agg plus low high key a p l h xs = Decides-and (sums_eq low high l h) (side_eq agg plus key a p xs) (sums low high l h) (sides agg plus key a p xs)

-- the parts of a total
totals : (agg : ℕ) (up down : ℤ) (key : List ℕ) (a : ℕ) (u d : ℤ) (xs : List ℕ)
    → Decides (sums_eq up down u d && nat_eq agg a && pointwise nat_eq key xs) ((((up ≡ u) × (down ≡ d)) × (agg ≡ a)) × (key ≡ xs))
totals agg up down key a u d xs =
    Decides-and (sums_eq up down u d && nat_eq agg a) (pointwise nat_eq key xs) (Decides-and (sums_eq up down u d) (nat_eq agg a) (sums up down u d) (Decides-eqb agg a)) (ids key xs)

pub step_same : (x y : Step) → step_eq x y ≡ true → x ≡ y
step_same (Zero agg plus key) (Zero a p xs) e = let h = (sides agg plus key a p xs).0 e in λ i. Zero (h.0.0 i) (h.0.1 i) (h.1 i)
step_same (Skip agg plus k sum key) (Skip a p n s xs) e = let h = (members agg plus k sum key a p n s xs).0 e in λ i. Skip (h.1.0.0 i) (h.1.0.1 i) (h.0.0 i) (h.0.1 i) (h.1.1 i)
step_same (Add agg plus k sum key) (Add a p n s xs) e = let h = (members agg plus k sum key a p n s xs).0 e in λ i. Add (h.1.0.0 i) (h.1.0.1 i) (h.0.0 i) (h.0.1 i) (h.1.1 i)
step_same (Reach agg plus k sum key) (Reach a p n s xs) e = let h = (members agg plus k sum key a p n s xs).0 e in λ i. Reach (h.1.0.0 i) (h.1.0.1 i) (h.0.0 i) (h.0.1 i) (h.1.1 i)
step_same (Above agg plus low high key) (Above a p l t xs) e = let h = (bounds agg plus low high key a p l t xs).0 e in λ i. Above (h.1.0.0 i) (h.1.0.1 i) (h.0.0 i) (h.0.1 i) (h.1.1 i)
step_same (Total agg up down key) (Total a u d xs) e = let h = (totals agg up down key a u d xs).0 e in λ i. Total (h.0.1 i) (h.0.0.0 i) (h.0.0.1 i) (h.1 i)
step_same _ _ e = no e

step_itself : (x : Step) → step_eq x x ≡ true
step_itself (Zero agg plus key) = (sides agg plus key agg plus key).1 ((refl, refl), refl)
step_itself (Skip agg plus k sum key) = (members agg plus k sum key agg plus k sum key).1 ((refl, refl), ((refl, refl), refl))
step_itself (Add agg plus k sum key) = (members agg plus k sum key agg plus k sum key).1 ((refl, refl), ((refl, refl), refl))
step_itself (Reach agg plus k sum key) = (members agg plus k sum key agg plus k sum key).1 ((refl, refl), ((refl, refl), refl))
step_itself (Above agg plus low high key) = (bounds agg plus low high key agg plus low high key).1 ((refl, refl), ((refl, refl), refl))
step_itself (Total agg up down key) = (totals agg up down key agg up down key).1 (((refl, refl), refl), refl)

-- the test of rules with their values
rules : (rule : ℕ) (binding : List ℕ) (r : ℕ) (xs : List ℕ) → Decides (nat_eq rule r && pointwise nat_eq binding xs) ((rule ≡ r) × (binding ≡ xs))
rules rule binding r xs = Decides-and (nat_eq rule r) (pointwise nat_eq binding xs) (Decides-eqb rule r) (ids binding xs)

pub maker_same : (x y : Maker) → maker_eq x y ≡ true → x ≡ y
maker_same (maker.Rule rule binding) (maker.Rule r xs) e = let h = (rules rule binding r xs).0 e in λ i. maker.Rule (h.0 i) (h.1 i)
maker_same (maker.Step s) (maker.Step t) e = ap maker.Step (step_same s t e)
maker_same _ _ e = no e

pub maker_itself : (x : Maker) → maker_eq x x ≡ true
maker_itself (maker.Rule rule binding) = (rules rule binding rule binding).1 (refl, refl)
maker_itself (maker.Step s) = step_itself s

-- a test that is equality is an equivalence
equality : {A : Type 0} (eq : A → A → Bool) → ((x y : A) → eq x y ≡ true → x ≡ y) → ((x : A) → eq x x ≡ true) → IsEquivalence eq
equality {A} eq same itself = record {
  refl = itself;
  symm = λ x y. both_ways (eq x y) (eq y x) (λ e. equal y x (sym (same x y e))) (λ e. equal x y (sym (same y x e)));
  congr = λ x y z e. ap (λ w. eq w z) (same x y e);
}
  where
    equal : (x y : A) → x ≡ y → eq x y ≡ true
    equal x y e = ap (eq x) (sym e) ∙ itself x

pub step_equivalence : IsEquivalence step_eq
step_equivalence = equality step_eq step_same step_itself

pub maker_equivalence : IsEquivalence maker_eq
maker_equivalence = equality maker_eq maker_same maker_itself
