-- The test of names is equality.
use Rattle.std.proofs.Common.{◌≡◌, ℕ, true, nat_eq, List}
use Rattle.std.specs.Bool.{Decides}
use Rattle.std.proofs.lemmas.Bool.Decides.{Decides-eqb}
use Rattle.std.specs.Cmp.Lexicographic.{pointwise, pointwise_decides}

-- names that pass the test have the same bytes
pub name_same : (x y : List ℕ) → pointwise nat_eq x y ≡ true → x ≡ y
name_same x y = λ e. (decides x y).0 e
  where
    decides : (x y : List ℕ) → Decides (pointwise nat_eq x y) (x ≡ y)
    decides = pointwise_decides Decides-eqb
