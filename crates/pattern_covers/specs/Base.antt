-- The state before the first closed entry.
use Rattle.std.specs.Prelude.{◌≡◌, ℕ, ◌<◌, List, map, take, length, Option, Some, slice_get}
use Rattle.lists.specs.Lists.{concat}
use Rattle.search_values.specs.declared.entry.Entry.{Entry}
use Rattle.search_values.specs.Values.{Value, value_of, before_closed}
use Rattle.search_values.specs.Instances.{Rules}
use Rattle.search_values.specs.Tables.{nogoods_of}
use Rattle.journal_theory.specs.States.{State, IsSettled}

-- the state before the first closed entry, of whose instances only the first so many are looked at, with their nogoods
abbrev pub base_state : {N A K : Type 0} → State N A K → ℕ → State N A K
base_state s n = record s { stack = before_closed s.stack; made = take n s.made; nogoods = concat (map nogoods_of (take n s.made)) }

-- it was settled
abbrev pub WasSettled : {N A K : Type 0} → Rules N A K → State N A K → Type 0
WasSettled core s = (n : ℕ) × IsSettled core (base_state s n)

-- the values of the atoms there, by their ids
pub record AreBaseValues (atoms : ℕ) (stack : List Entry) (values : List (Option Value)) : Type 0 where
  pub many : length values ≡ atoms
  pub each : (a : ℕ) → a < atoms → slice_get values a ≡ Some (value_of (before_closed stack) a)
