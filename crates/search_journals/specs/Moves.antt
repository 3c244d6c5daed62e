-- What a search does next where nothing in particular has to come.
use Rattle.std.specs.Prelude.{◌≡◌, ◌⊎◌, ℕ, ◌<◌, length, Some, None, slice_get}
use Rattle.lists.specs.Lists.{◌∈◌}
use Rattle.alpha_outside.specs.declared.literal.Value.TheVariants.{MustBe}
use Rattle.search_values.specs.Values.{Value, value_of, HasClosed}
use Rattle.search_values.specs.Nogoods.{Nogood, IsStruck, Gives, NoneStruck, NoneUnit}
use Rattle.search_values.specs.Tables.{Made}
use Rattle.journal_theory.specs.States.{IsActive}
use Rattle.search_rules.specs.Tests.{Maker}
use Rattle.search_rules.specs.Faults.{IsOverflow, IsTooLarge}
use Rattle.search_state.specs.Searching.{Searching, ids, made, state_of}
use Rattle.search_state.specs.Moves.{NoChoice, IsNamed}
use Rattle.search_state.specs.Underivable.{CanBeOut}
use Rattle.search_journals.specs.Journals.{IsSomeDue}
use Rattle.search_journals.specs.declared.moves.Move.{Move}
use Rattle.search_journals.specs.declared.moves.Move.TheVariants.{Strike, Join, Justify, Choose, Close, Overflow, TooLarge, Spent, Stuck, Full}

-- no named atom is must-be-true
abbrev pub NoneMustBe : Searching → Type 0
NoneMustBe v = (x : ℕ) → IsNamed v x → ¬ (value_of v.stack x ≡ Some MustBe)

-- every named atom has a value
abbrev pub NoneUnassigned : Searching → Type 0
NoneUnassigned v = (x : ℕ) → IsNamed v x → ¬ (value_of v.stack x ≡ None)

-- nothing is struck or unit
pub record IsQuiet (v : Searching) : Type 0 where
  pub none_struck : NoneStruck v.stack v.nogoods
  pub none_unit : NoneUnit v.stack v.nogoods

-- no atom became must-be-true after one was closed
abbrev pub NoneSince : Searching → Type 0
NoneSince v = NoneMustBe v ⊎ (¬ HasClosed v.stack)

-- each entry was joined, so nothing is due
abbrev pub AllAreJoined : Searching → Type 0
AllAreJoined v = v.joined ≡ length v.stack

-- nothing is due or active
pub record IsIdle (v : Searching) : Type 0 where
  pub none_due : AllAreJoined v
  pub no_choice : NoChoice v

-- some body is active
abbrev pub SomeActive : Searching → Type 0
SomeActive v = (b : ℕ) × (k : Made Maker) × (k ∈ made v) × IsActive (state_of v) k b

-- no named atom stays must-be-true: none is, or more is chosen first
abbrev pub NoneStays : Searching → Type 0
NoneStays v = NoneMustBe v ⊎ SomeActive v

-- the nogood of this id is unit, and gives the atom the value
abbrev pub GivesNow : Searching → ℕ → ℕ → Value → Type 0
GivesNow v n a value = (a < ids v) × ((ng : Nogood) × (slice_get v.nogoods n ≡ Some ng) × Gives v.stack ng a value)

-- this is what comes next
abbrev pub MoveIs : Searching → Move → Type 0
MoveIs v (Strike n) = (ng : Nogood) × (slice_get v.nogoods n ≡ Some ng) × IsStruck v.stack ng
MoveIs v Join = IsQuiet v × NoneSince v × (v.joined < length v.stack)
MoveIs v (Justify x) = IsQuiet v × (¬ HasClosed v.stack) × NoneStays v × CanBeOut v x
MoveIs v (Choose b) = IsQuiet v × NoneSince v × AllAreJoined v × (b < ids v) × ((k : Made Maker) × (k ∈ made v) × IsActive (state_of v) k b)
MoveIs v (Close x) = IsQuiet v × IsIdle v × NoneMustBe v × IsNamed v x × (value_of v.stack x ≡ None)
MoveIs v (Overflow line op x y) = IsOverflow v.core (state_of v) line op x y
MoveIs v (TooLarge line size) = IsTooLarge v.core (state_of v) line size
MoveIs v Spent = (v.left ≡ 0) × IsSomeDue v.core (state_of v)
MoveIs v (Stuck x) = IsQuiet v × IsNamed v x × (value_of v.stack x ≡ Some MustBe) × (HasClosed v.stack ⊎ IsIdle v)
MoveIs v Full = IsQuiet v × IsIdle v × NoneMustBe v × NoneUnassigned v

-- a conflict, a stuck atom or a set, after which something is learned; or the end of the search by what the grounder met
abbrev pub IsHalt : Move → Type 0
IsHalt (Strike n) = Unit {0}
IsHalt Join = ⊥
IsHalt (Justify x) = ⊥
IsHalt (Choose b) = ⊥
IsHalt (Close x) = ⊥
IsHalt (Overflow line op x y) = Unit {0}
IsHalt (TooLarge line size) = Unit {0}
IsHalt Spent = Unit {0}
IsHalt (Stuck x) = Unit {0}
IsHalt Full = Unit {0}
