-- What the members of an aggregate that are in a set come to.
use Rattle.std.specs.Prelude.{◌+◌, ℕ, pos, ◌-ℤ◌, Bool, true, false, cond, List, [], ◌∷◌}
use Rattle.core_rules.specs.declared.rules.CoreAggregate.{CoreAggregate}
use Rattle.asp_meaning.specs.declared.value.Value.{Value}
use Rattle.asp_meaning.specs.declared.value.Value.TheVariants as value
use Rattle.core_meaning.specs.Atoms.{GroundAtom, Member}
use Rattle.core_meaning.specs.Numberings.{Numbering, adds}

-- the sum of the sizes of those that pass the test
abbrev pub sum_where : {T : Type 0} → (T → Bool) → (T → ℕ) → List T → ℕ
sum_where test size [] = 0
sum_where test size (t ∷ ts) = cond (test t) (size t) 0 + sum_where test size ts

-- what the numbered members in the set add to this side
abbrev pub side_sum : List CoreAggregate → Numbering → (GroundAtom → Bool) → ℕ → List Value → Bool → ℕ
side_sum aggs n c agg key side = sum_where (λ tuple. c (Member agg key tuple)) (adds aggs agg side) (n agg side key)

-- their total: the sum of the positive side less that of the other
abbrev pub total_in : List CoreAggregate → Numbering → (GroundAtom → Bool) → ℕ → List Value → Value
total_in aggs n c agg key = value.Int (pos (side_sum aggs n c agg key true) -ℤ pos (side_sum aggs n c agg key false))
