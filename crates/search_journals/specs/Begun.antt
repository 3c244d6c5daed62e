-- How a search begins, and which halts tell why the grounder stopped.
use Rattle.std.specs.Prelude.{◌≡◌, ℕ, List, Option, Some, None}
use Rattle.alpha_outside.specs.Outside as outside
use Rattle.alpha_outside.specs.declared.pred.Pred.{Pred}
use Rattle.core_rules.specs.declared.rules.Core.{Core}
use Rattle.atom_pool.specs.declared.fault.GroundFault.{GroundFault}
use Rattle.atom_pool.specs.declared.fault.GroundFault.TheVariants as fault
use Rattle.search_rules.specs.Stage.{IsSearchable}
use Rattle.search_state.specs.Searching.{Searching, IsAllTold, fresh}
use Rattle.search_journals.specs.Standing.{Carries, IsReady}
use Rattle.search_journals.specs.Moves.{MoveIs, IsHalt}
use Rattle.search_journals.specs.declared.moves.Move.{Move}
use Rattle.search_journals.specs.declared.moves.Move.TheVariants as move

-- the halt tells why the grounder stopped; want of memory is told by none
abbrev pub IsHaltFor : GroundFault → Move → Type 0
IsHaltFor (fault.Overflow line op x y) m = m ≡ move.Overflow line op x y
IsHaltFor (fault.TooLarge line size) m = m ≡ move.TooLarge line size
IsHaltFor (fault.InstanceBudget due) m = m ≡ move.Spent
IsHaltFor fault.OutOfMemory m = ⊥

-- a search that has done nothing
pub record IsFresh (v : Searching) : Type 0 where
  pub core : Core
  pub preds : List Pred
  pub left : ℕ
  pub is : v ≡ fresh core preds left
  pub searchable : IsSearchable core

-- the grounder was called, and all that it made was noted: wherever the search stood, it stands after
pub record HasBegun (v v' : Searching) (told told' : Option outside.Journal) : Type 0 where
  pub core : v'.core ≡ v.core
  pub all : IsAllTold v'
  pub carries : (held : Option (List ℕ)) (left rest : ℕ) → Carries v v' told told' held held (left, rest) (left, rest)

-- the first step: the search is ready, or has come to a halt
abbrev pub Begins : Searching → Searching → Option outside.Journal → Option outside.Journal → Option Move → Type 0
Begins v v' told told' None = HasBegun v v' told told' × IsReady v'
Begins v v' told told' (Some m) = HasBegun v v' told told' × IsHalt m × MoveIs v' m
