-- What contracts see of a trail, and what each call makes of it.
use Rattle.std.specs.Prelude.{◌≡◌, ℕ, ◌+◌, ◌<◌, ◌≤◌, min, ◌⊎◌, Bool, true, false, ◌&&◌, cond, nat_eq, nat_lt, List, [], ◌∷◌, ◌++◌, length, reverse, set, get_or, take, slice_index, Option, Some, None}
use Rattle.std.specs.Option.{option_map}
use Rattle.alpha_outside.specs.declared.literal.Value.{Value}
use Rattle.alpha_outside.specs.declared.literal.Value.TheVariants.{True, MustBe, False}
use Rattle.search_values.specs.declared.entry.Why.{Why}
use Rattle.search_values.specs.declared.entry.Why.TheVariants.{Given, Chosen, Closed}
use Rattle.search_values.specs.declared.entry.Entry.{Entry}
use Rattle.search_values.specs.Values.{value_of, opened, level_of, entry_on, back_to, first_level}

pub record Trailed : Type 0 where
  -- the assigned atoms, the newest entry first
  pub stack : List Entry
  -- how many atoms have a place
  pub atoms : ℕ
  -- how many entries were there when the trail was last marked, or fewer after levels were taken away
  pub kept : ℕ
  -- how many nogoods were stored when it was last marked, or fewer after levels were taken away
  pub visited : ℕ
  -- what `visited` was as each level was opened, the lowest level first
  pub visits : List ℕ

-- ---- what may come onto a stack

-- an unassigned atom gets any value, and one that is must-be-true becomes true
abbrev pub MayBecome : Option Value → Value → Type 0
MayBecome before value = (before ≡ None) ⊎ ((before ≡ Some MustBe) × (value ≡ True))

-- an unassigned atom becomes true, and so does one that is must-be-true
abbrev pub MayRise : Option Value → Type 0
MayRise before = (before ≡ None) ⊎ (before ≡ Some MustBe)

-- an unassigned atom is decided either way, and one that is must-be-true is decided to be true
abbrev pub MayDecide : Option Value → Bool → Type 0
MayDecide before up = (before ≡ None) ⊎ ((before ≡ Some MustBe) × (up ≡ true))

-- a closed atom had no value before, and is false
abbrev pub MayClose : Option Value → Value → Why → Type 0
MayClose before value (Given n) = Unit {0}
MayClose before value Chosen = Unit {0}
MayClose before value (Closed reason) = (before ≡ None) × (value ≡ False)

-- an entry of the value counts where it is true or false: an atom has at most one such
abbrev pub full_by : Value → ℕ
full_by True = 1
full_by MustBe = 0
full_by False = 1

-- an entry above others: its atom has a place, it might become this, its level is told, no level is opened by a must-be-true, and one that is closed
-- is the first of its atom
pub record IsEntryOf (atoms : ℕ) (e : Entry) (rest : List Entry) : Type 0 where
  pub placed : e.atom < atoms
  pub may : MayBecome (value_of rest e.atom) e.value
  pub level_told : e.level ≡ level_of rest + opened e.why
  pub opens_full : opened e.why ≤ full_by e.value
  pub closes : MayClose (value_of rest e.atom) e.value e.why

-- each entry is one that may stand above the others
abbrev pub IsStackOf : ℕ → List Entry → Type 0
IsStackOf atoms [] = Unit {0}
IsStackOf atoms (e ∷ rest) = IsEntryOf atoms e rest × IsStackOf atoms rest

-- ---- what is read of a stack

-- the level of the atom's first value, where it has a value
abbrev pub first_level_of : List Entry → ℕ → Option ℕ
first_level_of stack a = option_map (λ v. first_level stack a) (value_of stack a)

abbrev pub is_true : Value → Bool
is_true True = true
is_true MustBe = false
is_true False = false

abbrev pub true_by : Value → ℕ
true_by True = 1
true_by MustBe = 0
true_by False = 0

-- how many atoms became true
abbrev pub trues : List Entry → ℕ
trues [] = 0
trues (e ∷ rest) = trues rest + true_by e.value

-- how many atoms became true before this one did, where it is true
abbrev pub order_of : List Entry → ℕ → Option ℕ
order_of [] a = None
order_of (e ∷ rest) a = cond (nat_eq e.atom a && is_true e.value) (Some (trues rest)) (order_of rest a)

-- ---- what the calls make of a trail

-- the visits kept with the levels, after an entry for this reason: one that opens a level keeps the present number with it
abbrev pub visits_with : Why → ℕ → List ℕ → List ℕ
visits_with (Given n) visited visits = visits
visits_with Chosen visited visits = visits ++ visited ∷ []
visits_with (Closed reason) visited visits = visits ++ visited ∷ []

-- the atom got the value for this reason
abbrev pub assigned : Trailed → ℕ → Value → Why → Trailed
assigned t a value why = record t { stack = entry_on t.stack a value why ∷ t.stack; visits = visits_with why t.visited t.visits }

-- the levels above this one were taken away, of which there is one at least
abbrev pub taken_to : Trailed → ℕ → Trailed
taken_to t level = record {
  stack = back_to level t.stack;
  atoms = t.atoms;
  kept = min t.kept (length (back_to level t.stack));
  visited = min t.visited (slice_index t.visits level);
  visits = take level t.visits;
}

-- the levels above this one were taken away; where there is none, all stays
abbrev pub jumped : Trailed → ℕ → Trailed
jumped t level = cond (nat_lt level (level_of t.stack)) (taken_to t level) t

-- ---- reasons of closed atoms

-- no reason is known of an entry for this reason, which is closed
abbrev pub is_unexplained_why : Why → Bool
is_unexplained_why (Given n) = false
is_unexplained_why Chosen = false
is_unexplained_why (Closed None) = true
is_unexplained_why (Closed (Some n)) = false

-- whether the entry is that of this atom, closed without a reason
abbrev pub is_unexplained_entry : Entry → ℕ → Bool
is_unexplained_entry e a = is_unexplained_why e.why && nat_eq e.atom a

-- the nogood became the reason of the newest entry of the atom that is closed without one
abbrev pub explained_newest : ℕ → ℕ → List Entry → List Entry
explained_newest a n [] = []
explained_newest a n (e ∷ rest) = cond (is_unexplained_entry e a) (record e { why = Closed (Some n) } ∷ rest) (e ∷ explained_newest a n rest)

-- at this place among the entries, the oldest first, stands the one that gets the reason
abbrev pub IsUnexplainedAt : List Entry → ℕ → ℕ → Type 0
IsUnexplainedAt entries a place =
    (place < length entries)
    × ((e : Entry) → e ≡ get_or entries place e → (n : ℕ) → reverse (set entries place (record e { why = Closed (Some n) })) ≡ explained_newest a n (reverse entries))
