-- What a propagation does to the store, the trail and the trace, and what it costs.
use Rattle.std.specs.Prelude.{◌≡◌, ◌⊎◌, ◌≤◌, ◌+◌, ◌-◌, ℕ, List, [], ◌∷◌, ◌++◌, length, map, drop, reverse, Option, Some, option_map, slice_get}
use Rattle.alpha_outside.specs.Outside.{Journal, Rose}
use Rattle.alpha_outside.specs.declared.event.Event.{Event}
use Rattle.alpha_outside.specs.declared.event.Event.TheVariants.{Put}
use Rattle.search_values.specs.declared.entry.Entry.{Entry}
use Rattle.search_values.specs.declared.entry.Why.TheVariants.{Given}
use Rattle.search_values.specs.Values.{Value, Lit, lit, is_up, entry_on}
use Rattle.search_values.specs.Nogoods.{Nogood, IsStruck, Gives, NoneStruck, NoneUnit}
use Rattle.trail.specs.Assigning.{Trailed}
use Rattle.nogood_store.specs.Stored.{Stored, nogood_of}
use Rattle.nogood_store.specs.Watched.{Watching, watch_count}
use Rattle.nogood_store.specs.Matching.{Suffices, Matches}
use Rattle.propagation.specs.declared.putting.PropFault.{PropFault}
use Rattle.propagation.specs.declared.putting.PropFault.TheVariants.{TraceFault, OutOfMemory}
use Rattle.propagation.specs.declared.fixpoint.Fix.{Fix}
use Rattle.propagation.specs.declared.fixpoint.Fix.TheVariants.{Quiet, Struck}

-- a stored nogood without its watches
abbrev pub bare : Stored → List Lit × Option ℕ
bare s = (s.lits, s.head)

-- the nogoods are the same, whatever they watch
abbrev pub SameNogoods : List Stored → List Stored → Type 0
SameNogoods old new = map bare new ≡ map bare old

-- the nogoods of the theory
abbrev pub nogoods_of : List Stored → List Nogood
nogoods_of store = map nogood_of store

-- values that unit nogoods give, one after another, each with its event
pub data Puts (ngs : List Nogood) (from : List Entry) : List Event → List Entry → Type 0 where
  Nothing : Puts ngs from [] from
  Then : (events : List Event) (stack : List Entry) → Puts ngs from events stack → (n a : ℕ) (v : Value) (ng : Nogood) → slice_get ngs n ≡ Some ng → Gives stack ng a v
      → Puts ngs from (events ++ Put a v n ∷ []) (entry_on stack a v (Given n) ∷ stack)

abbrev pub with_events : List Event → Journal → Journal
with_events events j = record j { events = j.events ++ events }

-- A part of a propagation: the nogoods stay, values are given by unit nogoods and noted, and the store and the trail match.
pub record Ran (store store' : List Stored) (t t' : Trailed) (told told' : Option Journal) : Type 0 where
  pub same : SameNogoods store store'
  pub events : List Event
  pub puts : Puts (nogoods_of store) t.stack events t'.stack
  pub trail : t' ≡ record t { stack = t'.stack }
  pub tells : told' ≡ option_map (with_events events) told
  pub matches : Matches store' t'

-- one value more, which a unit nogood gives, or none
abbrev pub OneMore : List Nogood → List Entry → List Entry → Type 0
OneMore ngs stack stack' = (stack' ≡ stack) ⊎ ((n a : ℕ) × (v : Value) × (ng : Nogood) × (slice_get ngs n ≡ Some ng) × Gives stack ng a v × (stack' ≡ entry_on stack a v (Given n) ∷ stack))

-- After a fault the trail has what was noted and at most one more value.
pub record Faulted (store store' : List Stored) (t t' : Trailed) (told told' : Option Journal) : Type 0 where
  pub same : SameNogoods store store'
  pub events : List Event
  pub stack : List Entry
  pub puts : Puts (nogoods_of store) t.stack events stack
  pub more : OneMore (nogoods_of store) stack t'.stack
  pub trail : t' ≡ record t { stack = t'.stack }
  pub tells : told' ≡ option_map (with_events events) told
  pub matches : Matches store' t'

-- a fault of the trace comes only where its count rose
abbrev pub IsCause : ℕ → ℕ → PropFault → Type 0
IsCause faults faults' TraceFault = Rose faults faults'
IsCause faults faults' OutOfMemory = Unit {0}

-- the nogood of this id is struck
abbrev pub IsStruckAt : List Stored → List Entry → ℕ → Type 0
IsStruckAt store stack n = (s : Stored) × (slice_get store n ≡ Some s) × IsStruck stack (nogood_of s)

-- the watches of these nogoods suffice
abbrev pub TheseSuffice : (ℕ → Type 0) → List Entry → List Entry → List Stored → Type 0
TheseSuffice These taken stack store = (n : ℕ) (s : Stored) → These n → slice_get store n ≡ Some s → Suffices taken stack s

-- a nogood that isn't among these is as it was
abbrev pub OthersStay : (ℕ → Type 0) → List Stored → List Stored → Type 0
OthersStay These old new = (n : ℕ) → (¬ These n) → slice_get new n ≡ slice_get old n

-- ---- what it costs

-- the literal that an entry makes hold
abbrev pub literal_of : Entry → Lit
literal_of e = lit e.atom (is_up e.value)

-- These entries are taken up one after another: each costs the number of nogoods that watch its literal at that moment, and only these change
-- their watches then.
pub data TakesUp (from : List Stored) : List Entry → ℕ → List Stored → Type 0 where
  NoEntry : TakesUp from [] 0 from
  OneEntry : (entries : List Entry) (cost : ℕ) (store : List Stored) → TakesUp from entries cost store → (e : Entry) (after : List Stored) → SameNogoods store after → OthersStay (Watching store (literal_of e)) store after
      → TakesUp from (entries ++ e ∷ []) (cost + watch_count store (literal_of e)) after

-- the steps are at most what it costs to take up entries, from this place on
pub record IsTakenUp (from : ℕ) (store store' : List Stored) (stack' : List Entry) (steps steps' : ℕ) : Type 0 where
  pub entries : List Entry
  pub cost : ℕ
  pub taken : TakesUp store entries cost store'
  pub which : (rest : List Entry) × (drop from (reverse stack') ≡ entries ++ rest)
  pub bound : steps' ≤ steps + cost

-- what the steps of a propagation are at most: one for each nogood that wasn't visited, which alone change their watches first, and what taking up
-- entries costs, from the first that wasn't taken up on
pub record IsBounded (store store' : List Stored) (t t' : Trailed) (steps steps' : ℕ) : Type 0 where
  pub start : List Stored
  pub entries : List Entry
  pub cost : ℕ
  pub same : SameNogoods store start
  pub others : OthersStay (λ n. t.visited ≤ n) store start
  pub taken : TakesUp start entries cost store'
  pub which : (rest : List Entry) × (drop t.kept (reverse t'.stack) ≡ entries ++ rest)
  pub bound : steps' ≤ steps + (length store - t.visited) + cost

-- ---- what a propagation answers

-- Quiet: nothing is unit or struck, and the trail is marked. Struck: that nogood is.
abbrev pub FixIs : List Stored → Trailed → Fix → Type 0
FixIs store t Quiet = NoneStruck t.stack (nogoods_of store) × NoneUnit t.stack (nogoods_of store) × (t.kept ≡ length t.stack) × (t.visited ≡ length store)
FixIs store t (Struck n) = IsStruckAt store t.stack n

-- what was done: values were given by unit nogoods, and each was noted before the next
pub record Propagated (store store' : List Stored) (t t' : Trailed) (told told' : Option Journal) : Type 0 where
  pub same : SameNogoods store store'
  pub events : List Event
  pub puts : Puts (nogoods_of store) t.stack events t'.stack
  pub trail : t' ≡ record t { stack = t'.stack; kept = t'.kept; visited = t'.visited }
  pub tells : told' ≡ option_map (with_events events) told
  pub matches : Matches store' t'
