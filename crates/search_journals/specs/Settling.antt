-- What the steps after a conflict, a stuck atom or a set leave.
use Rattle.std.specs.Prelude.{◌≡◌, ◌⊎◌, ℕ, ◌+◌, ◌^◌, ◌<◌, true, List, [], ◌∷◌, ◌++◌, length, Option, Some, None, slice_get}
use Rattle.lists.specs.Lists.{◌∈◌}
use Rattle.alpha_outside.specs.declared.literal.Lit.{Lit}
use Rattle.alpha_outside.specs.Outside as outside
use Rattle.search_values.specs.Values.{chosen, all_at_0}
use Rattle.search_values.specs.Nogoods.{Nogood, IsStruck}
use Rattle.journal_theory.specs.States as phase
use Rattle.journal_theory.specs.Laws.{NoneEmpty}
use Rattle.journal_theory.specs.Events.{How, Decisions, Enumerated, Analysed, Justified, phase_struck, phase_learned, lits_at}
use Rattle.conflict_learning.specs.Analysing.{IsUnitBelow, IsSecondLevel, IsLearned, IsNeeded, HasToResolve}
use Rattle.conflict_learning.specs.Choosing.{IsFirstStruck}
use Rattle.search_state.specs.Searching.{Searching}
use Rattle.search_journals.specs.Standing.{IsKept, IsReady, Carries, CarriesOver, Given, Fits, Stands, Ends, Leaves}
use Rattle.search_journals.specs.Moves.{MoveIs}
use Rattle.search_journals.specs.declared.moves.Move.TheVariants as move
use Rattle.search_journals.specs.declared.ends.Finish.{Finish}
use Rattle.search_journals.specs.declared.ends.Finish.TheVariants as finish
use Rattle.search_journals.specs.declared.ends.End.{End}
use Rattle.search_journals.specs.declared.ends.End.TheVariants as end
use Rattle.search_journals.specs.declared.ends.SearchFault.{SearchFault}

-- ---- the steps

abbrev pub struck_by : Searching → ℕ → Searching
struck_by v n = record v { phase = phase_struck n (all_at_0 v.stack (lits_at v.nogoods n)) }

-- the nogood of literals that were learned
abbrev pub learnt : List Lit → Nogood
learnt ls = record { lits = ls; head = None }

abbrev pub learned_by : Searching → List Lit → Searching
learned_by v ls = record v { nogoods = v.nogoods ++ learnt ls ∷ []; phase = phase_learned v.phase (length v.nogoods) }

abbrev pub kept_by : Searching → ℕ → Searching
kept_by v n = record v { phase = phase.MustJump n }

abbrev pub called_wide : Searching → Searching
called_wide v = record v { phase = phase.MustDecide }

-- the literals chosen were learned, and are to be struck
abbrev pub decided : Searching → Searching
decided v = record v { nogoods = v.nogoods ++ learnt (chosen v.stack) ∷ []; phase = phase.MustStrike (length v.nogoods) }

-- ---- when they may come

-- a nogood was found struck, or is the one just learned
abbrev pub MayStrikeNow : Searching → ℕ → Type 0
MayStrikeNow v n = ((v.phase ≡ phase.Free) × ((ng : Nogood) × (slice_get v.nogoods n ≡ Some ng) × IsStruck v.stack ng))
    ⊎ (v.phase ≡ phase.MustStrike n)

-- the analysis of the struck nogood came to these literals, which are unit after the search went back to this level
pub record IsAnalysedTo (v : Searching) (ls : List Lit) (level : ℕ) : Type 0 where
  pub struck : ℕ
  pub phase_is : v.phase ≡ phase.MustLearn struck
  pub to_resolve : HasToResolve v.stack (lits_at v.nogoods struck)
  pub learned : IsLearned v.nogoods v.stack ls level

-- what analysis gives, or the literals chosen: after an atom was called wide, or after a set that was found while literals were chosen
abbrev pub MayLearnNow : Searching → How → List Lit → Type 0
MayLearnNow v Analysed ls = (level : ℕ) × IsAnalysedTo v ls level
MayLearnNow v Justified ls = ⊥
MayLearnNow v Decisions ls = (ls ≡ chosen v.stack) × NoneEmpty v.nogoods × (v.phase ≡ phase.MustDecide)
MayLearnNow v Enumerated ls = (ls ≡ chosen v.stack) × NoneEmpty v.nogoods × (v.phase ≡ phase.Found) × (¬ (chosen v.stack ≡ []))

-- the nogood of this number is struck, and unit after the search went back to this level, and at none lower
pub record JumpsTo (v : Searching) (n level : ℕ) : Type 0 where
  pub nogood : Nogood
  pub there : slice_get v.nogoods n ≡ Some nogood
  pub struck : IsStruck v.stack nogood
  pub below : IsUnitBelow v.stack nogood.lits
  pub second : IsSecondLevel v.stack nogood.lits level

-- the atom may be called wide: it is stuck, or closed without a reason in a resolvent of the struck nogood
abbrev pub MayCallWide : Searching → ℕ → Type 0
MayCallWide v x = (IsReady v × MoveIs v (move.Stuck x))
    ⊎ ((n : ℕ) × (ng : Nogood) × (v.phase ≡ phase.MustLearn n) × (slice_get v.nogoods n ≡ Some ng) × IsNeeded v.nogoods v.stack ng.lits x)

-- the nogood just learned is to be struck, and either ends the search or is unit after the search went back
pub record IsToStrike (v : Searching) (n : ℕ) : Type 0 where
  pub kept : IsKept v
  pub phase_is : v.phase ≡ phase.MustStrike n
  pub nogood : Nogood
  pub there : slice_get v.nogoods n ≡ Some nogood
  pub struck : IsStruck v.stack nogood
  pub alone : (all_at_0 v.stack nogood.lits ≡ true) ⊎ IsUnitBelow v.stack nogood.lits
  pub firm : ¬ (all_at_0 v.stack nogood.lits ≡ true) → NoneEmpty v.nogoods

-- a struck nogood is to be learned from, the one with which an analysis begins
pub record IsToLearn (v : Searching) (n : ℕ) : Type 0 where
  pub kept : IsKept v
  pub phase_is : v.phase ≡ phase.MustLearn n
  pub first : IsFirstStruck v.nogoods v.stack n
  pub above : ¬ (all_at_0 v.stack (lits_at v.nogoods n) ≡ true)
  pub firm : NoneEmpty v.nogoods

-- a set was shown or passed
pub record IsFound (v : Searching) : Type 0 where
  pub kept : IsKept v
  pub firm : NoneEmpty v.nogoods
  pub phase_is : v.phase ≡ phase.Found

-- the search stands where some legal journal leads, whatever was written and may still be
pub record IsSomewhere (v : Searching) (told : Option outside.Journal) (rest : ℕ) : Type 0 where
  pub given : Given
  pub fits : Fits given v
  pub held : Option (List ℕ)
  pub left : ℕ
  pub stands : Stands given v told held left rest

-- ---- what they leave

-- wherever the search stood before, it stands after, with so many strikes fewer left
abbrev pub Carried : Searching → Searching → Option outside.Journal → Option outside.Journal → ℕ → Type 0
Carried v v' told told' strikes = (held : Option (List ℕ)) (left rest : ℕ)
    → Carries v v' told told' held held (left, rest + strikes) (left, rest)

-- the search is ready again
pub record Again (v v' : Searching) : Type 0 where
  pub core : v'.core ≡ v.core
  pub ready : IsReady v'

-- it is so, or it ends; `rest` is how many nogoods may still be struck
abbrev pub Turned : Searching → Searching → Option outside.Journal → Option outside.Journal → ℕ → ℕ → Option Finish → Type 0
Turned v v' told told' rest rest' None = Again v v'
    × ((held : Option (List ℕ)) (left : ℕ) → Carries v v' told told' held held (left, rest) (left, rest'))
Turned v v' told told' rest rest' (Some how) =
    (held : Option (List ℕ)) (left : ℕ) (g : Given) → Fits g v → 0 < left → Stands g v told held left rest
    → Ends g told' held left rest' how

-- the same, where fewer nogoods may be struck than before if it goes on
abbrev pub Rounds : Searching → Searching → Option outside.Journal → Option outside.Journal → ℕ → ℕ → Option Finish → Type 0
Rounds v v' told told' rest rest' None = (rest' < rest) × Turned v v' told told' rest rest' None
Rounds v v' told told' rest rest' (Some how) = Turned v v' told told' rest rest' (Some how)

-- the literals chosen were learned, of which there are some
pub record HasLearnedChosen (v v' : Searching) : Type 0 where
  pub learned : v'.nogoods ≡ v.nogoods ++ learnt (chosen v.stack) ∷ []
  pub some : ¬ (chosen v.stack ≡ [])
  pub low : (l : Lit) → l ∈ chosen v.stack → l.atom < 2 ^ 32

-- there is less to come: fewer nogoods may be struck, or as many, and literals chosen were learned
abbrev pub IsLess : Searching → Searching → ℕ → ℕ → Type 0
IsLess v v' rest rest' = (rest' < rest) ⊎ ((rest' ≡ rest) × HasLearnedChosen v v')

-- what a round leaves, in which a set may have been written, where the lines of the sets that are listed are `book`; the pairs are how many sets
-- may still be shown, and how many nogoods struck
abbrev pub Outcome : List (List ℕ) → Searching → Searching → Option outside.Journal → Option outside.Journal → Option (List ℕ)
    → Option (List ℕ) → (ℕ × ℕ) → (ℕ × ℕ) → Option Finish → Type 0
Outcome book v v' told told' held held' before after None =
    Again v v' × (0 < after.0) × IsLess v v' before.1 after.1 × CarriesOver book v v' told told' held held' before after
Outcome book v v' told told' held held' before after (Some how) =
    (g : Given) → Fits g v → g.lists.book ≡ book → Stands g v told held before.0 before.1 → Ends g told' held' after.0 after.1 how

-- ---- rounds

-- the search stands where some legal journal leads, where the lines of the sets that are listed are these
pub record StandsSomewhere (book : List (List ℕ)) (v : Searching) (told : Option outside.Journal) (held : Option (List ℕ)) (left rest : ℕ) : Type 0 where
  pub given : Given
  pub fits : Fits given v
  pub lists : given.lists.book ≡ book
  pub stands : Stands given v told held left rest

-- wherever the search stood, it ends
abbrev pub EndsFrom : List (List ℕ) → Searching → Option outside.Journal → Option outside.Journal → Option (List ℕ) → Option (List ℕ) → (ℕ × ℕ)
    → (ℕ × ℕ) → Finish → Type 0
EndsFrom book v told told' held held' before after how = (g : Given) → Fits g v → g.lists.book ≡ book → Stands g v told held before.0 before.1
    → Ends g told' held' after.0 after.1 how

-- or leaves what it may at a fault; the counts of faults are the sink's and the trace's
abbrev pub LeavesFrom : List (List ℕ) → Searching → Option outside.Journal → Option outside.Journal → Option (List ℕ) → Option (List ℕ)
    → (ℕ × ℕ) → (ℕ × ℕ) → (ℕ × ℕ) → SearchFault → Type 0
LeavesFrom book v told told' held held' before sink trace fault = (g : Given) → Fits g v → g.lists.book ≡ book
    → Stands g v told held before.0 before.1 → Leaves g told' held' sink trace fault

-- what a search answers that ends by itself after so many sets
abbrev pub ended : Finish → ℕ → End
ended finish.Finished printed = end.Finished printed
ended finish.LimitReached printed = end.LimitReached printed
ended finish.Conflicts printed = end.Conflicts printed
ended finish.Instances printed = end.Instances printed
ended (finish.Overflow line op x y) printed = end.Overflow line op x y printed
ended (finish.TermTooLarge line size) printed = end.TermTooLarge line size printed
