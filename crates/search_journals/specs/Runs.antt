-- What a step leaves, before the literals chosen are learned: nothing is shown or struck.
use Rattle.std.specs.Prelude.{◌≡◌, ℕ, ◌<◌, ◌≤◌, List, Option, Some, None}
use Rattle.lists.specs.Lists.{◌∈◌}
use Rattle.alpha_outside.specs.Outside as outside
use Rattle.search_values.specs.Nogoods.{Nogood}
use Rattle.search_state.specs.Searching.{Searching}
use Rattle.search_journals.specs.Standing.{Carries, IsReady}
use Rattle.search_journals.specs.Moves.{MoveIs, IsHalt}
use Rattle.search_journals.specs.Measures.{work_left}
use Rattle.search_journals.specs.declared.moves.Move.{Move}

-- the search was ready, and is so again; wherever it stood, it stands after; no nogood was taken away
pub record Runs (v v' : Searching) (told told' : Option outside.Journal) : Type 0 where
  pub core : v'.core ≡ v.core
  pub ready : IsReady v'
  pub stays : (ng : Nogood) → ng ∈ v.nogoods → ng ∈ v'.nogoods
  pub carries : (held : Option (List ℕ)) (left rest : ℕ) → Carries v v' told told' held held (left, rest) (left, rest)

-- the search ran on, and there is no more to do than before
abbrev pub GoesOn : Searching → Searching → Option outside.Journal → Option outside.Journal → Type 0
GoesOn v v' told told' = Runs v v' told told' × (work_left v' ≤ work_left v)

-- a step was taken, after which there is less to do, or the search has come to a halt
abbrev pub Stepped : Searching → Searching → Option outside.Journal → Option outside.Journal → Option Move → Type 0
Stepped v v' told told' None = Runs v v' told told' × (work_left v' < work_left v)
Stepped v v' told told' (Some move) = Runs v v' told told' × IsHalt move × MoveIs v' move
