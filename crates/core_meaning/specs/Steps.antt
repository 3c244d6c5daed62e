-- The steps that add up an aggregate, key by key and on each side.
use Rattle.std.specs.Prelude.{◌+◌, ℕ, suc, zero, pos, ◌-ℤ◌, Bool, true, false, nat_le, List, [], ◌∷◌, Option, Some, None, slice_get}
use Rattle.core_rules.specs.declared.rules.CoreAggregate.{CoreAggregate}
use Rattle.search_values.specs.Instances.{Plain, Instance}
use Rattle.asp_meaning.specs.declared.value.Value.{Value}
use Rattle.asp_meaning.specs.declared.value.Value.TheVariants as value
use Rattle.core_meaning.specs.Atoms.{GroundAtom}
use Rattle.core_meaning.specs.Atoms as atom
use Rattle.core_meaning.specs.Numberings.{Numbering, adds}

-- a step, with the aggregate's number, the side, the numbers that it is about, and the key
pub data Step : Type 0 where
  -- the sum up to no member is 0
  Zero : ℕ → Bool → List Value → Step
  -- the member of this number isn't in the set: the sum up to it is this one, which is that before it
  Skip : ℕ → Bool → ℕ → ℕ → List Value → Step
  -- what the member of this number adds comes to this sum
  Add : ℕ → Bool → ℕ → ℕ → List Value → Step
  -- this sum up to the member of this number is reached
  Reach : ℕ → Bool → ℕ → ℕ → List Value → Step
  -- beside the first sum the second is reached
  Above : ℕ → Bool → ℕ → ℕ → List Value → Step
  -- the total is the first sum, of the positive side, less the second, of the other
  Total : ℕ → ℕ → ℕ → List Value → Step

abbrev pub plain : GroundAtom → List GroundAtom → List GroundAtom → Option (Instance GroundAtom)
plain h ps ns = Some (record { kind = Plain h; pos = ps; neg = ns })

-- the member after the first j is skipped
abbrev pub skip_with : ℕ → Bool → ℕ → ℕ → List Value → Option (List Value) → Option (Instance GroundAtom)
skip_with agg side j sum key None = None
skip_with agg side j sum key (Some tuple) = plain (atom.Grid agg side key (suc j) sum) (atom.Grid agg side key j sum ∷ []) []

abbrev pub skip_at : Numbering → ℕ → Bool → ℕ → ℕ → List Value → Option (Instance GroundAtom)
skip_at n agg side zero sum key = None
skip_at n agg side (suc j) sum key = skip_with agg side j sum key (slice_get (n agg side key) j)

-- the member after the first j is added
abbrev pub add_with : List CoreAggregate → ℕ → Bool → ℕ → ℕ → List Value → Option (List Value) → Option (Instance GroundAtom)
add_with aggs agg side j sum key None = None
add_with aggs agg side j sum key (Some tuple) =
    plain (atom.Grid agg side key (suc j) (sum + adds aggs agg side tuple)) (atom.Grid agg side key j sum ∷ atom.Member agg key tuple ∷ []) []

abbrev pub add_at : List CoreAggregate → Numbering → ℕ → Bool → ℕ → ℕ → List Value → Option (Instance GroundAtom)
add_at aggs n agg side zero sum key = None
add_at aggs n agg side (suc j) sum key = add_with aggs agg side j sum key (slice_get (n agg side key) j)

abbrev pub above_with : ℕ → Bool → ℕ → ℕ → List Value → Bool → Option (Instance GroundAtom)
above_with agg side low high key false = None
above_with agg side low high key true = plain (atom.Above agg side key low) (atom.Reach agg side key low ∷ atom.Reach agg side key high ∷ []) []

-- The instance of a step under a numbering. To skip or to add a member it has to be numbered, and of two sums the second has to lie farther
-- from 0
abbrev pub step_instance : List CoreAggregate → Numbering → Step → Option (Instance GroundAtom)
step_instance aggs n (Zero agg side key) = plain (atom.Grid agg side key 0 0) (atom.Domain agg key ∷ []) []
step_instance aggs n (Skip agg side k sum key) = skip_at n agg side k sum key
step_instance aggs n (Add agg side k sum key) = add_at aggs n agg side k sum key
step_instance aggs n (Reach agg side k sum key) = plain (atom.Reach agg side key sum) (atom.Grid agg side key k sum ∷ []) []
step_instance aggs n (Above agg side low high key) = above_with agg side low high key (nat_le (suc low) high)
step_instance aggs n (Total agg up down key) =
    plain (atom.Total agg key (value.Int (pos up -ℤ pos down)))
    (atom.Reach agg true key up ∷ atom.Reach agg false key down ∷ [])
    (atom.Above agg true key up ∷ atom.Above agg false key down ∷ [])
