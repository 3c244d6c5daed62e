-- Nogoods as they are stored.
use Rattle.std.specs.Prelude.{◌≡◌, ℕ, ◌⊎◌, Bool, true, false, not, List, [], ◌∷◌, ◌++◌, map, Option, Some, None}
use Rattle.lists.specs.Lists.{◌∈◌}
use Rattle.alpha_outside.specs.declared.literal.Lit.{Lit}
use Rattle.search_values.specs.Values.{lit}
use Rattle.search_values.specs.Nogoods.{Nogood}
use Rattle.nogood_store.specs.Stored as store
use Rattle.nogood_store.specs.Stored.{Stored, HasNoAtomTwice, IsHeadOf, atom_of, LitsAreBelow}
use Rattle.nogood_store.specs.Watched.{first_watches}
use Rattle.ground_noting.specs.declared.drafting.Draft.{Draft}

-- what is stored
abbrev pub stored_of : Draft → Stored
stored_of d = record { lits = d.lits.items; head = d.head; watches = first_watches d.lits.items }

-- the nogood of the theory
abbrev pub nogood_of : Draft → Nogood
nogood_of d = store.nogood_of (stored_of d)

-- it may be stored
abbrev pub IsStorable : Draft → Type 0
IsStorable d = HasNoAtomTwice d.lits.items × IsHeadOf d.lits.items d.head

-- it may be stored, and its ids are below n
pub record IsDraft (n : ℕ) (d : Draft) : Type 0 where
  pub below : LitsAreBelow n d.lits.items
  pub no_atom_twice : HasNoAtomTwice d.lits.items
  pub negative : IsHeadOf d.lits.items d.head

-- ---- how they are made

-- where there is a head, the head literal is the first
abbrev pub StartsWith : Option ℕ → List Lit → Type 0
StartsWith None lits = Unit {0}
StartsWith (Some h) lits = (rest : List Lit) × (lits ≡ lit h false ∷ rest)

-- the place of the head literal
abbrev pub place_of : Option ℕ → Option ℕ
place_of None = None
place_of (Some h) = Some 0

-- the positive literal of the head, where it has to be chosen
abbrev pub head_lits : Bool → ℕ → List Lit
head_lits true h = lit h true ∷ []
head_lits false h = []

-- the literals after one was added, unless it was there, or the other sign of its atom is there
abbrev pub AddsOnce : Bool → List Lit → Lit → List Lit → Type 0
AddsOnce true before l now = ((l ∈ before) × (now ≡ before)) ⊎ ((¬ (l.atom ∈ map atom_of before)) × (now ≡ before ++ l ∷ []))
AddsOnce false before l now = lit l.atom (not l.positive) ∈ before
