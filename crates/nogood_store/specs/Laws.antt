-- What keeps a store and a trail matched, and what a match gives.
use Rattle.std.specs.Prelude.{◌≡◌, ◌<◌, ◌≤◌, ◌⊎◌, ℕ, true, List, [], ◌∷◌, ◌++◌, length, Option, Some, slice_get}
use Rattle.search_values.specs.declared.entry.Why.{Why}
use Rattle.search_values.specs.declared.entry.Why.TheVariants.{Given, Closed}
use Rattle.search_values.specs.declared.entry.Entry.{Entry}
use Rattle.search_values.specs.Values.{Value, lit, is_up, value_of, opened}
use Rattle.search_values.specs.Nogoods.{IsStruck, Gives}
use Rattle.trail.specs.Assigning.{Trailed, MayBecome, IsStackOf, assigned, jumped}
use Rattle.nogood_store.specs.Stored.{Stored, nogood_of}
use Rattle.nogood_store.specs.Watched.{is_watched}
use Rattle.nogood_store.specs.Matching.{Suffices, Matches}

-- the stack is the same but for the reason of a closed entry
pub data SameButReason : List Entry → List Entry → Type 0 where
  Here : (e f : Entry) (rest : List Entry) (reason other : Option ℕ) → e.why ≡ Closed reason → f.why ≡ Closed other → f.atom ≡ e.atom → f.value ≡ e.value → f.level ≡ e.level
      → SameButReason (e ∷ rest) (f ∷ rest)
  Deeper : (e : Entry) (old new : List Entry) → SameButReason old new → SameButReason (e ∷ old) (e ∷ new)

-- a new store and a new trail match
abbrev pub NewMatch : Type 0
NewMatch = Matches [] (record { stack = []; atoms = 0; kept = 0; visited = 0; visits = [] })

-- a value that a nogood gives keeps the match
abbrev pub GivenKeeps : Type 0
GivenKeeps = (store : List Stored) (t : Trailed) → Matches store t → t.kept ≤ length t.stack → (a : ℕ) (v : Value) (by : ℕ) → MayBecome (value_of t.stack a) v → Matches store (assigned t a v (Given by))

-- so does an entry that opens a level
abbrev pub OpenedKeeps : Type 0
OpenedKeeps = (store : List Stored) (t : Trailed) → Matches store t → t.kept ≡ length t.stack → (a : ℕ) (v : Value) (why : Why) → opened why ≡ 1 → MayBecome (value_of t.stack a) v → Matches store (assigned t a v why)

-- so does taking levels away
abbrev pub JumpedKeeps : Type 0
JumpedKeeps = (store : List Stored) (t : Trailed) → Matches store t → t.kept ≤ length t.stack → (level : ℕ) → Matches store (jumped t level)

-- so does another reason of a closed entry
abbrev pub ExplainedKeeps : Type 0
ExplainedKeeps = (store : List Stored) (t : Trailed) (stack : List Entry) → Matches store t → SameButReason t.stack stack → Matches store (record t { stack = stack })

-- so does one more nogood
abbrev pub AddedKeeps : Type 0
AddedKeeps = (store : List Stored) (t : Trailed) (s : Stored) → Matches store t → Matches (store ++ s ∷ []) t

-- so does a place for one more atom
abbrev pub ReservedKeeps : Type 0
ReservedKeeps = (store : List Stored) (t : Trailed) → Matches store t → (atoms : ℕ) → Matches store (record t { atoms = atoms })

-- so does taking all entries up where no nogood counts as visited any more
abbrev pub ForgottenKeeps : Type 0
ForgottenKeeps = (store : List Stored) (t : Trailed) → Matches store t → Matches store (record t { kept = length t.stack; visited = 0 })

-- where all watches suffice on the whole stack, the trail may be marked
abbrev pub MarkedMatch : Type 0
MarkedMatch = (store : List Stored) (t : Trailed) → Matches store t → ((n : ℕ) (s : Stored) → slice_get store n ≡ Some s → Suffices t.stack t.stack s)
    → Matches store (record t { kept = length t.stack; visited = length store })

-- a nogood that was visited and is struck or unit is met: an entry that isn't taken up makes a literal hold that it watches
abbrev pub IsMet : Type 0
IsMet = (store : List Stored) (t : Trailed) → Matches store t → IsStackOf t.atoms t.stack → (n : ℕ) (s : Stored) → n < t.visited → slice_get store n ≡ Some s
    → (IsStruck t.stack (nogood_of s) ⊎ ((a : ℕ) × (v : Value) × Gives t.stack (nogood_of s) a v))
    → (above rest : List Entry) × (e : Entry) × (t.stack ≡ above ++ e ∷ rest) × (t.kept ≤ length rest) × (is_watched s.watches (lit e.atom (is_up e.value)) ≡ true)
