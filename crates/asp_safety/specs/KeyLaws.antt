-- The test of variables is equality.
use Rattle.std.proofs.Common.{◌≡◌, ℕ, true, nat_eq, List, refl, sym, ap, ◌∙◌, true≢false}
use Rattle.std.specs.Bool.{Decides}
use Rattle.std.proofs.lemmas.Bool.Decides.{Decides-eqb}
use Rattle.std.specs.Cmp.{IsEquivalence, both_ways}
use Rattle.std.specs.Cmp.Lexicographic.{pointwise, pointwise_decides}
use Rattle.asp_meaning.specs.Terms.{Variable, named, anonymous}
use Rattle.asp_safety.specs.Keys.{variable_eq}

bytes : (xs ys : List ℕ) → Decides (pointwise nat_eq xs ys) (xs ≡ ys)
bytes = pointwise_decides Decides-eqb

-- variables that pass the test are the same
pub variable_same : (v w : Variable) → variable_eq v w ≡ true → v ≡ w
variable_same (named x) (named y) e = ap named ((bytes x y).0 e)
variable_same (named x) (anonymous k) e = absurd (true≢false (sym e))
variable_same (anonymous j) (named y) e = absurd (true≢false (sym e))
variable_same (anonymous j) (anonymous k) e = ap anonymous ((Decides-eqb j k).0 e)

pub variable_itself : (v : Variable) → variable_eq v v ≡ true
variable_itself (named x) = (bytes x x).1 refl
variable_itself (anonymous k) = (Decides-eqb k k).1 refl

pub variable_equal : (v w : Variable) → v ≡ w → variable_eq v w ≡ true
variable_equal v w e = ap (variable_eq v) (sym e) ∙ variable_itself v

pub variable_equivalence : IsEquivalence variable_eq
variable_equivalence = record {
  refl = variable_itself;
  symm = λ v w. both_ways (variable_eq v w) (variable_eq w v) (λ e. variable_equal w v (sym (variable_same v w e))) (λ e. variable_equal v w (sym (variable_same w v e)));
  congr = λ v w z e. ap (λ u. variable_eq u z) (variable_same v w e);
}
