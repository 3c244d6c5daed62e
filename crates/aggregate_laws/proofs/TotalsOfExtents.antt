-- The totals that steps come to are those of the definitions of aggregates.
use Rattle.std.proofs.Common.{◌≡◌, ℕ, suc, ◌+◌, ℤ, pos, negsuc, ◌+ℤ◌, ◌-ℤ◌, Bool, true, false, List, [], ◌∷◌, map, length, refl, sym, ◌∙◌, ap, arith}
use Rattle.std.proofs.Math.IntN.{+ℤ_idl, +ℤ_idr, +ℤ_assoc, +ℤ_comm, neg_ℤ, neg_ℤ-+ℤ, pos-+ℤ-pos}
use Rattle.std.specs.Prelude.{Option, Some, slice_get}
use Rattle.asp_syntax.specs.declared.tree.AggKind.{AggKind}
use Rattle.asp_syntax.specs.declared.tree.AggKind.TheVariants as kind
use Rattle.core_rules.specs.declared.rules.CoreAggregate.{CoreAggregate}
use Rattle.asp_meaning.specs.declared.value.Value.{Value}
use Rattle.asp_meaning.specs.declared.value.Value.TheVariants as value
use Rattle.asp_meaning.specs.Bodies.{sum_of, total}
use Rattle.core_meaning.specs.Atoms.{Member}
use Rattle.core_meaning.specs.Numberings.{distance, weight_in, adds_in, adds}
use Rattle.aggregate_laws.specs.Totals.{side_sum}
use Rattle.aggregate_laws.specs.TotalsInBodies.{sum_sizes}
use Rattle.aggregate_laws.specs.Laws.{TotalsOfTuplesAreTotals, TotalsAreOfMembers}
use Rattle.aggregate_laws.proofs.Sameness.{decide_list, decide_value}
use Rattle.aggregate_laws.proofs.TotalsOfTuples.{sums_below, sums_above, equal_ints}

-- a number is its distance on the one side less that on the other
distance_is : (z : ℤ) → pos (distance true z) -ℤ pos (distance false z) ≡ z
distance_is (pos n) = +ℤ_idr (pos n)
distance_is (negsuc n) = +ℤ_idl (negsuc n)

crossed : (w x y z : ℤ) → (w +ℤ x) +ℤ (y +ℤ z) ≡ (w +ℤ y) +ℤ (x +ℤ z)
crossed w x y z =
    +ℤ_assoc w x (y +ℤ z)
    ∙ ap (λ r. w +ℤ r) (sym (+ℤ_assoc x y z) ∙ ap (λ r. r +ℤ z) (+ℤ_comm x y) ∙ +ℤ_assoc y x z)
    ∙ sym (+ℤ_assoc w y (x +ℤ z))

differences : (a b c d : ℕ) → pos (a + b) -ℤ pos (c + d) ≡ (pos a -ℤ pos c) +ℤ (pos b -ℤ pos d)
differences a b c d =
    (λ i. sym (pos-+ℤ-pos a b) i +ℤ neg_ℤ (sym (pos-+ℤ-pos c d) i))
    ∙ ap (λ r. (pos a +ℤ pos b) +ℤ r) (neg_ℤ-+ℤ (pos c) (pos d))
    ∙ crossed (pos a) (pos b) (neg_ℤ (pos c)) (neg_ℤ (pos d))

-- the distances on both sides come to the sum of the numbers
sides_are : (T : Type 0) (f : T → ℤ) (ts : List T) → pos (sum_sizes (λ t. distance true (f t)) ts) -ℤ pos (sum_sizes (λ t. distance false (f t)) ts) ≡ sum_of (map f ts)
sides_are T f [] = refl
sides_are T f (t ∷ ts) =
    differences (distance true (f t)) (sum_sizes (λ t. distance true (f t)) ts) (distance false (f t)) (sum_sizes (λ t. distance false (f t)) ts)
    ∙ (λ i. distance_is (f t) i +ℤ sides_are T f ts i)

ones : (T : Type 0) (ts : List T) → sum_of (map (λ (t : T). pos 1) ts) ≡ pos (length ts)
ones T [] = refl
ones T (t ∷ ts) = ap (λ z. pos 1 +ℤ z) (ones T ts) ∙ one_more (length ts)
  where
    one_more : (n : ℕ) → pos 1 +ℤ pos n ≡ pos (suc n)
    one_more n = let e : 1 + n ≡ suc n = omega arith in ap (λ k. pos k) e

total_is : (kind : AggKind) (tuples : List (List Value))
    → pos (sum_sizes (λ tuple. distance true (weight_in kind tuple)) tuples) -ℤ pos (sum_sizes (λ tuple. distance false (weight_in kind tuple)) tuples) ≡ total kind tuples
total_is kind.Count tuples = sides_are (List Value) (weight_in kind.Count) tuples ∙ ones (List Value) tuples
total_is kind.Sum tuples = sides_are (List Value) (weight_in kind.Sum) tuples

pub totals_of_tuples_are_totals : TotalsOfTuplesAreTotals
totals_of_tuples_are_totals aggs agg g is tuples =
    let adds_is : (o : Option CoreAggregate) → o ≡ Some g → (side : Bool) → sum_sizes (adds_in o side) tuples ≡ sum_sizes (λ tuple. distance side (weight_in g.kind tuple)) tuples
    = λ o e side. ap (λ x. sum_sizes (adds_in x side) tuples) e in
    equal_ints _ _ _ _ (adds_is (slice_get aggs agg) is true) (adds_is (slice_get aggs agg) is false) ∙ ap (λ z. value.Int z) (total_is g.kind tuples)

pub totals_are_of_members : {R : Type 0} → TotalsAreOfMembers R
totals_are_of_members aggs rules n c set agg g is key tuples are =
    equal_ints _ _ _ _ (side true) (side false) ∙ totals_of_tuples_are_totals aggs agg g is tuples
  where
    side : (side : Bool) → side_sum aggs n c agg key side ≡ sum_sizes (adds aggs agg side) tuples
    side s =
        let below = sums_below (decide_list decide_value) (λ t. c (Member agg key t)) (adds aggs agg s) tuples (n agg s key) are.0
        (λ t i h. (set.numbers agg s key t ((are.1 t).0 i) h, (are.1 t).0 i)) in
        let above = sums_above (decide_list decide_value) (λ t. c (Member agg key t)) (adds aggs agg s) tuples (n agg s key) (set.numbering.once agg s key) (λ t i h. (are.1 t).1 h) in
        omega (arith, below, above)
