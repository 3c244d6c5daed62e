-- The struck nogood that an analysis begins with.
use Rattle.std.specs.Prelude.{◌≡◌, ℕ, ◌<◌, ◌≤◌, Bool, true, false, ◌&&◌, ◌||◌, not, cond, nat_eq, nat_lt, List, length, Option, Some, None}
use Rattle.search_values.specs.declared.entry.Entry.{Entry}
use Rattle.search_values.specs.Values.{Lit}
use Rattle.search_values.specs.Nogoods.{Nogood, NoneStruck}
use Rattle.journal_theory.specs.Events.{lits_at}
use Rattle.conflict_learning.specs.FirstValues.{came_with}
use Rattle.conflict_learning.specs.Analysing.{AllHold, CameFirst, IsUnitWhereOneIs, IsUnitBelow}
use Rattle.conflict_learning.specs.declared.choosing.Conflict.{Conflict}

-- the nogood with this id is struck, and may be analysed as far as other struck ones go
pub record IsFirstStruck (ngs : List Nogood) (stack : List Entry) (n : ℕ) : Type 0 where
  pub there : n < length ngs
  pub holds : AllHold stack (lits_at ngs n)
  pub first : CameFirst ngs stack (lits_at ngs n)
  pub preferred : IsUnitWhereOneIs ngs stack (lits_at ngs n)

-- the answer: one that may be analysed so, and none exactly where none is struck
abbrev pub IsChoice : List Nogood → List Entry → Option ℕ → Type 0
IsChoice ngs stack None = NoneStruck stack ngs
IsChoice ngs stack (Some n) = IsFirstStruck ngs stack n

-- ---- on the way through the nogoods

-- what is told of the nogood with this id, which is struck, is so
pub record IsConflict (ngs : List Nogood) (stack : List Entry) (n : ℕ) (c : Conflict) : Type 0 where
  pub id_is : c.id ≡ n
  pub holds : AllHold stack (lits_at ngs n)
  pub came_is : c.came ≡ came_with stack (lits_at ngs n)
  pub unit_is : c.unit ≡ true → IsUnitBelow stack (lits_at ngs n)
  pub unit_not : c.unit ≡ false → ¬ IsUnitBelow stack (lits_at ngs n)

-- what is told of a nogood: nothing, where it isn't struck
abbrev pub IsTold : List Nogood → List Entry → ℕ → Option Conflict → Type 0
IsTold ngs stack n None = ¬ AllHold stack (lits_at ngs n)
IsTold ngs stack n (Some c) = IsConflict ngs stack n c

-- the first comes before the second: its last literal came earlier, or at the same time and it alone is unit below its highest level
abbrev pub comes_before : Conflict → Conflict → Bool
comes_before c d = nat_lt c.came d.came || (nat_eq c.came d.came && (c.unit && not d.unit))

-- the one of two that comes first
abbrev pub first_of : Option Conflict → Option Conflict → Option Conflict
first_of None found = found
first_of (Some best) None = Some best
first_of (Some best) (Some found) = cond (comes_before found best) (Some found) (Some best)

-- these literals, which hold, don't come before the conflict
abbrev pub IsAtMost : List Entry → Conflict → List Lit → Type 0
IsAtMost stack c ls = (c.came ≤ came_with stack ls) × (c.came ≡ came_with stack ls → IsUnitBelow stack ls → c.unit ≡ true)

-- of so many nogoods this one comes first; none, where none is struck
abbrev pub IsBest : List Nogood → List Entry → ℕ → Option Conflict → Type 0
IsBest ngs stack n None = (m : ℕ) → m < n → ¬ AllHold stack (lits_at ngs m)
IsBest ngs stack n (Some c) =
    IsConflict ngs stack c.id c × (c.id < n) × ((m : ℕ) → m < n → AllHold stack (lits_at ngs m) → IsAtMost stack c (lits_at ngs m))
