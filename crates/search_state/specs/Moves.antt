-- What a search finds when it looks at its state.
use Rattle.std.specs.Prelude.{◌≡◌, ℕ, ◌<◌, List, map, Option, Some, option_map, slice_get}
use Rattle.lists.specs.Lists.{◌∈◌, HasNoRepeats}
use Rattle.alpha_outside.specs.Outside.{Journal}
use Rattle.alpha_outside.specs.declared.event.Event.{Event}
use Rattle.alpha_outside.specs.declared.literal.Value.TheVariants.{True}
use Rattle.search_values.specs.declared.entry.Entry.{Entry}
use Rattle.search_values.specs.Values.{value_of}
use Rattle.search_values.specs.Nogoods.{Nogood, IsStruck, NoneStruck, NoneUnit}
use Rattle.search_values.specs.Tables.{Made}
use Rattle.search_values.specs.Ids.{Names}
use Rattle.journal_theory.specs.States.{IsName, IsActive}
use Rattle.asp_meaning.specs.Atoms.{Atom}
use Rattle.asp_meaning.specs.Lines.{IsInOrder}
use Rattle.core_meaning.specs.Atoms.{GroundAtom, User}
use Rattle.search_rules.specs.Tests.{Maker}
use Rattle.search_state.specs.Searching.{Searching, ids, names, made, state_of, LitsAreBelow}
use Rattle.propagation.specs.Runs.{Puts, with_events}
use Rattle.propagation.specs.declared.fixpoint.Fix.{Fix}
use Rattle.propagation.specs.declared.fixpoint.Fix.TheVariants.{Quiet, Struck}

-- values that unit nogoods give were put on the stack, one after another, and each was noted before the next
pub record HasPropagated (v v' : Searching) (told told' : Option Journal) : Type 0 where
  pub events : List Event
  pub puts : Puts v.nogoods v.stack events v'.stack
  pub is : v' ≡ record v { stack = v'.stack }
  pub tells : told' ≡ option_map (with_events events) told

-- such values were noted, before a fault
pub record HasNoted (v : Searching) (told told' : Option Journal) : Type 0 where
  pub events : List Event
  pub stack : List Entry
  pub puts : Puts v.nogoods v.stack events stack
  pub tells : told' ≡ option_map (with_events events) told

-- how a propagation ends: nothing is struck or unit, or this nogood is struck
abbrev pub FixIs : Searching → Fix → Type 0
FixIs v Quiet = NoneStruck v.stack v.nogoods × NoneUnit v.stack v.nogoods
FixIs v (Struck n) = (ng : Nogood) × (slice_get v.nogoods n ≡ Some ng) × IsStruck v.stack ng

-- the atoms of all nogoods have ids
abbrev pub NogoodsArePlaced : Searching → Type 0
NogoodsArePlaced v = (ng : Nogood) → ng ∈ v.nogoods → LitsAreBelow (ids v) ng.lits

-- no instance that is noted as a choice has an active body
abbrev pub NoChoice : Searching → Type 0
NoChoice v = (i : ℕ) → i ∈ v.choices → (k : Made Maker) → slice_get (made v) i ≡ Some k → (b : ℕ) → ¬ IsActive (state_of v) k b

-- the id is that of a named atom
abbrev pub IsNamed : Searching → ℕ → Type 0
IsNamed v x = (a : GroundAtom) × IsName (state_of v) x a

-- these are the ids below n of the named atoms that are true, each once
pub record AreTrueNames (v : Searching) (n : ℕ) (atoms : List ℕ) : Type 0 where
  pub all_there : (x : ℕ) → x < n → IsNamed v x → value_of v.stack x ≡ Some True → x ∈ atoms
  pub each_true : (x : ℕ) → x ∈ atoms → (x < n) × IsNamed v x × (value_of v.stack x ≡ Some True)
  pub once : HasNoRepeats atoms

-- these are the named atoms that are true, in the order of a set line
pub record AreTrueIds (v : Searching) (atoms : List ℕ) : Type 0 where
  pub all_there : (x : ℕ) → IsNamed v x → value_of v.stack x ≡ Some True → x ∈ atoms
  pub each_true : (x : ℕ) → x ∈ atoms → (a : Atom) × IsName (state_of v) x (User a) × (value_of v.stack x ≡ Some True)
  pub set : List Atom
  pub names : Names (names v) atoms (map User set)
  pub ordered : IsInOrder set
