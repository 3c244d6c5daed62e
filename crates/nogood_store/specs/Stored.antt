-- What contracts see of a stored nogood, and what it is in the theory of the search.
use Rattle.std.specs.Prelude.{◌≡◌, ◌<◌, ℕ, false, List, map, Option, Some, None, slice_get}
use Rattle.std.specs.Option.{option_map, option_and_then}
use Rattle.lists.specs.Lists.{◌∈◌, HasNoRepeats}
use Rattle.alpha_outside.specs.declared.literal.Lit.{Lit}
use Rattle.search_values.specs.Values.{lit}
use Rattle.search_values.specs.Nogoods.{Nogood}
use Rattle.nogood_store.specs.declared.watching.Watches.{Watches}

pub record Stored : Type 0 where
  pub lits : List Lit
  -- the place of the head literal among them, where there is one
  pub head : Option ℕ
  -- the literals among them that are watched
  pub watches : Watches

abbrev pub atom_of : Lit → ℕ
atom_of l = l.atom

-- no two of the literals have one atom
abbrev pub HasNoAtomTwice : List Lit → Type 0
HasNoAtomTwice lits = HasNoRepeats (map atom_of lits)

-- there is no head, or the place is that of a negative literal
abbrev pub IsHeadOf : List Lit → Option ℕ → Type 0
IsHeadOf lits None = Unit {0}
IsHeadOf lits (Some place) = (a : ℕ) × (slice_get lits place ≡ Some (lit a false))

-- the atom of the head literal
abbrev pub head_atom : List Lit → Option ℕ → Option ℕ
head_atom lits head = option_map atom_of (option_and_then (slice_get lits) head)

-- the nogood of the theory: its head is the atom of the head literal
abbrev pub nogood_of : Stored → Nogood
nogood_of s = record { lits = s.lits; head = head_atom s.lits s.head }

-- the atom of each literal has a place
abbrev pub LitsAreBelow : ℕ → List Lit → Type 0
LitsAreBelow atoms lits = (l : Lit) → l ∈ lits → l.atom < atoms

-- the atoms of all stored nogoods have a place
abbrev pub AllAreBelow : ℕ → List Stored → Type 0
AllAreBelow atoms store = (n : ℕ) (s : Stored) → slice_get store n ≡ Some s → LitsAreBelow atoms s.lits
