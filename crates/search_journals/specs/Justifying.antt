-- When a justified nogood may be learned, and what that leaves: the search stands where it stood, with one nogood more.
use Rattle.std.specs.Prelude.{◌≡◌, ◌⊎◌, ℕ, List, [], ◌∷◌, length, Option}
use Rattle.alpha_outside.specs.Outside as outside
use Rattle.alpha_outside.specs.declared.pattern.Pattern.{Pattern}
use Rattle.search_state.specs.Searching.{Searching}
use Rattle.search_state.specs.Underivable.{IsUnderivable, IsPatternAt, with_justified}
use Rattle.search_journals.specs.Standing.{IsReady, Carries}
use Rattle.search_journals.specs.Moves.{MoveIs}
use Rattle.search_journals.specs.declared.moves.Move.TheVariants as move

-- there is one pattern, which is that of this atom alone
pub record IsCoverOf (v : Searching) (x : ℕ) (cover : List Pattern) : Type 0 where
  pub pattern : Pattern
  pub one : cover ≡ pattern ∷ []
  pub is : IsPatternAt v x pattern

-- the nogood may be learned: the atom has no value and can be ruled out, or it is stuck
abbrev pub MayJustifyNow : Searching → ℕ → Type 0
MayJustifyNow v x = IsReady v × IsUnderivable v x × (MoveIs v (move.Justify x) ⊎ MoveIs v (move.Stuck x))

-- the nogood that no rule gives the atom was learned, and has this number
pub record HasJustified (v v' : Searching) (told told' : Option outside.Journal) (x n : ℕ) : Type 0 where
  pub carries : (held : Option (List ℕ)) (left rest : ℕ) → Carries v v' told told' held held (left, rest) (left, rest)
  pub is : v' ≡ with_justified v x
  pub number : n ≡ length v.nogoods
