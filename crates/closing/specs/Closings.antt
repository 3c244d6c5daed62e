-- What closing does to the stack and the journal, what it costs, and what it answers.
use Rattle.std.specs.Prelude.{◌≡◌, ◌⊎◌, ℕ, List, [], ◌∷◌, ◌++◌, Option, Some, None, option_map}
use Rattle.alpha_outside.specs.Outside.{Journal}
use Rattle.alpha_outside.specs.declared.event.Event.{Event}
use Rattle.alpha_outside.specs.declared.event.Event.TheVariants as say
use Rattle.search_values.specs.declared.entry.Entry.{Entry}
use Rattle.search_values.specs.declared.entry.Why.TheVariants.{Closed}
use Rattle.search_values.specs.Values.{MustBe, False, value_of, entry_on}
use Rattle.search_values.specs.Nogoods.{Nogood, NoneStruck, NoneUnit}
use Rattle.trail.specs.Assigning.{Trailed, assigned}
use Rattle.nogood_store.specs.Stored.{Stored}
use Rattle.nogood_store.specs.Matching.{Matches}
use Rattle.propagation.specs.Runs.{SameNogoods, nogoods_of, Puts, with_events, OneMore, IsBounded, FixIs}
use Rattle.propagation.specs.declared.fixpoint.Fix.TheVariants.{Quiet, Struck}
use Rattle.atom_pool.specs.declared.ground.Ground.{Ground}
use Rattle.closing.specs.declared.rounds.Closing.{Closing}
use Rattle.closing.specs.declared.rounds.Closing.TheVariants as ends
use Rattle.closing.specs.Closable.{IsNamed, NoneMustBe, IsFull}

-- ---- what it does

-- the stack after the atom was closed
abbrev pub closed_on : List Entry → ℕ → List Entry
closed_on stack a = entry_on stack a False (Closed None) ∷ stack

-- the atom may be closed now: it is a named one without a value, nothing is unit or struck, and no named atom is must-be-true
pub record IsNext (g : Ground) (ngs : List Nogood) (stack : List Entry) (a : ℕ) : Type 0 where
  pub named : IsNamed g a
  pub unassigned : value_of stack a ≡ None
  pub none_struck : NoneStruck stack ngs
  pub none_unit : NoneUnit stack ngs
  pub none_must_be : NoneMustBe g stack

-- atoms that are closed one after another, each with its event, and after each the values that unit nogoods give, with theirs
pub data Closes (g : Ground) (ngs : List Nogood) (from : List Entry) : List Event → List Entry → Type 0 where
  NoRound : Closes g ngs from [] from
  Round : (events : List Event) (stack : List Entry) → Closes g ngs from events stack → (a : ℕ) → IsNext g ngs stack a
      → (puts : List Event) (after : List Entry) → Puts ngs (closed_on stack a) puts after
      → Closes g ngs from (events ++ say.Closed a ∷ puts) after

-- what was done: atoms were closed and values given by unit nogoods, and each was noted before the next
pub record HasClosed (g : Ground) (store store' : List Stored) (t t' : Trailed) (told told' : Option Journal) : Type 0 where
  pub same : SameNogoods store store'
  pub events : List Event
  pub closes : Closes g (nogoods_of store) t.stack events t'.stack
  pub atoms : t'.atoms ≡ t.atoms
  pub tells : told' ≡ option_map (with_events events) told
  pub matches : Matches store' t'

-- one atom more was closed
abbrev pub OneClosed : Ground → List Nogood → List Entry → List Entry → Type 0
OneClosed g ngs stack stack' = (a : ℕ) × IsNext g ngs stack a × (stack' ≡ closed_on stack a)

-- After a fault the trail has what was noted and at most one more entry.
pub record Stopped (g : Ground) (store store' : List Stored) (t t' : Trailed) (told told' : Option Journal) : Type 0 where
  pub same : SameNogoods store store'
  pub events : List Event
  pub stack : List Entry
  pub closes : Closes g (nogoods_of store) t.stack events stack
  pub more : OneMore (nogoods_of store) stack t'.stack ⊎ OneClosed g (nogoods_of store) stack t'.stack
  pub atoms : t'.atoms ≡ t.atoms
  pub tells : told' ≡ option_map (with_events events) told
  pub matches : Matches store' t'

-- ---- what it costs

-- The steps are those of propagations: one from where it begins, and one from after each atom that is closed, where all nogoods were visited and all entries
-- taken up before. None but these makes a visit, and what each costs at most is told by the watches.
pub data IsSpent (store : List Stored) (t : Trailed) (steps : ℕ) : List Stored → Trailed → ℕ → Type 0 where
  First : (store' : List Stored) (t' : Trailed) (steps' : ℕ) → IsBounded store store' t t' steps steps' → IsSpent store t steps store' t' steps'
  Later : (store1 : List Stored) (t1 : Trailed) (steps1 : ℕ) → IsSpent store t steps store1 t1 steps1 → FixIs store1 t1 Quiet → (a : ℕ)
      → (store2 : List Stored) (t2 : Trailed) (steps2 : ℕ) → IsBounded store1 store2 (assigned t1 a False (Closed None)) t2 steps1 steps2
      → IsSpent store t steps store2 t2 steps2

-- ---- what it answers

-- what ends it after a propagation
abbrev pub EndsBy : Ground → List Stored → Trailed → Closing → Type 0
EndsBy g store t ends.Closed = ⊥
EndsBy g store t (ends.Struck n) = FixIs store t (Struck n)
EndsBy g store t (ends.Stuck a) = IsNamed g a × (value_of t.stack a ≡ Some MustBe) × FixIs store t Quiet

-- how a propagation ends: the next atom may be closed, or that is the end
abbrev pub SettledIs : Ground → List Stored → Trailed → Option Closing → Type 0
SettledIs g store t None = FixIs store t Quiet × NoneMustBe g t.stack
SettledIs g store t (Some closing) = EndsBy g store t closing

-- Closed: each atom has a value, none is must-be-true, and nothing is unit or struck. Struck: that nogood is. Stuck: this named atom had no value and
-- is must-be-true, and nothing is unit or struck.
abbrev pub ClosingIs : Ground → List Stored → Trailed → Trailed → Closing → Type 0
ClosingIs g store t t' ends.Closed = IsFull g t'.stack × FixIs store t' Quiet
ClosingIs g store t t' (ends.Struck n) = FixIs store t' (Struck n)
ClosingIs g store t t' (ends.Stuck a) = IsNamed g a × (value_of t.stack a ≡ None) × (value_of t'.stack a ≡ Some MustBe) × FixIs store t' Quiet
