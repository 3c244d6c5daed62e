-- The atoms that say that a sum is one up to some number.
use Rattle.std.proofs.Common.{◌≡◌, ℕ, suc, zero, ◌≤◌, ◌<◌, ◌⊎◌, Bool, List, [], ◌∷◌, ap, inl, inr, arith}
use Rattle.lists.specs.Lists.{◌∈◌}
use Rattle.asp_meaning.specs.declared.value.Value.{Value}
use Rattle.core_meaning.specs.Atoms.{GroundAtom, Grid}

-- those for all numbers up to this one
pub rows : ℕ → Bool → List Value → ℕ → ℕ → List GroundAtom
rows agg side key sum zero = Grid agg side key 0 sum ∷ []
rows agg side key sum (suc k) = Grid agg side key (suc k) sum ∷ rows agg side key sum k

pub in_rows : (agg : ℕ) (side : Bool) (key : List Value) (sum n k : ℕ) → k ≤ n → ((Grid agg side key k sum) ∈ (rows agg side key sum n))
unfolding rows
in_rows agg side key sum zero k h = let z : k ≡ 0 = omega arith in inl (ap (λ x. Grid agg side key x sum) z)
in_rows agg side key sum (suc n) k h = elim (cases k (suc n) h) [
  | inl e ↦ inl (ap (λ x. Grid agg side key x sum) e)
  | inr l ↦ inr (in_rows agg side key sum n k (omega arith))
]
  where
    cases : (a b : ℕ) → a ≤ b → (a ≡ b) ⊎ (a < b)
    cases a b h = grind arith
