-- What a search finds to do next may come.
use Rattle.std.proofs.Common.{ℕ, true, List, ◌∷◌, [], inl, inr, refl}
use Rattle.search_values.specs.declared.entry.Entry.{Entry}
use Rattle.search_values.specs.Values.{Value, HasClosed, MustSinceClosed}
use Rattle.journal_theory.specs.States.{NoneActive, IsSettled}
use Rattle.journal_theory.specs.Events.{Put, Choose, Close, Allowed, NoneStuck}
use Rattle.search_rules.specs.Rules.{search_rules}
use Rattle.search_state.specs.Searching.{Searching, made, state_of}
use Rattle.search_state.specs.Moves.{NoChoice}
use Rattle.search_journals.specs.Standing.{IsReady}
use Rattle.search_journals.specs.Moves.{MoveIs, GivesNow, IsQuiet, IsIdle, NoneSince, NoneStays}
use Rattle.search_journals.specs.declared.moves.Move.TheVariants as move
use Rattle.search_state.proofs.JoinLemmas.{all_joined_is_none_due}
use Rattle.search_journals.proofs.Names.{get_at}

-- what became must-be-true since an atom was closed stands above a closed one
since_closed : (stack : List Entry) (x : ℕ) → MustSinceClosed stack x → HasClosed stack
since_closed [] x h = absurd h
since_closed (e ∷ rest) x (inl h) = (h.2.0, inr h.2.1, h.2.2)
since_closed (e ∷ rest) x (inr h) = let k = since_closed rest x h.1 in (k.0, inr k.1, k.2)

-- no atom is stuck where the state isn't settled, and none became must-be-true since an atom was closed
pub none_stuck : (v : Searching) → NoneSince v → ¬ IsSettled (search_rules v.core) (state_of v)
    → NoneStuck (search_rules v.core) (state_of v)
none_stuck v since unsettled x stuck = elim stuck.why [
  | inl settled ↦ unsettled settled
  | inr closed ↦ elim since [
    | inl none ↦ none x stuck.named stuck.must_be
    | inr no_closed ↦ no_closed (since_closed v.stack x closed)
  ]
]

-- nor is one where none stays must-be-true and no atom is closed
pub none_stays_stuck : (v : Searching) → ¬ HasClosed v.stack → NoneStays v → NoneStuck (search_rules v.core) (state_of v)
none_stays_stuck v unclosed (inl none) x stuck = none x stuck.named stuck.must_be
none_stays_stuck v unclosed (inr active) x stuck =
    none_stuck v (inr unclosed) (λ settled. settled.none_active active.1 active.2 active.0 active.3) x stuck

module _ (v : Searching) (ready : IsReady v) where
  -- nothing is active
  none_active : NoChoice v → NoneActive (state_of v)
  none_active none k i b active = let at = get_at (made v) k i in none at.0 (ready.kept.noted at.0 k b at.1 active.has_body) k at.1 b active

  -- the state is settled
  pub settled : IsQuiet v → IsIdle v → IsSettled (search_rules v.core) (state_of v)
  settled quiet idle = record {
    none_struck = quiet.none_struck;
    none_unit = quiet.none_unit;
    none_active = none_active idle.no_choice;
    none_due = all_joined_is_none_due v ready.kept.told ready.kept.joined idle.none_due;
    none_waiting = λ x a name up. refl;
  }

  -- a value that a nogood gives
  pub may_put : (n a : ℕ) (value : Value) → GivesNow v n a value → Allowed (search_rules v.core) [] (state_of v) (Put a value n)
  may_put n a value next = (ready.free, next.1)

  -- a decision on an active body
  pub may_choose : (b : ℕ) → MoveIs v (move.Choose b) → Allowed (search_rules v.core) [] (state_of v) (Choose b true)
  may_choose b next = (
    ready.free,
    next.0.none_struck,
    next.0.none_unit,
    next.4,
    (λ e. cc),
    none_stuck v next.1 (λ settled. settled.none_active next.4.0 next.4.1 b next.4.2),
  )

  -- an unassigned atom is closed
  pub may_close : (x : ℕ) → MoveIs v (move.Close x) → Allowed (search_rules v.core) [] (state_of v) (Close x)
  may_close x next = (
    ready.free,
    next.0.none_struck,
    next.0.none_unit,
    next.3,
    next.4,
    (λ y a name must. next.2 y (a, name) must),
    (λ closing. settled next.0 next.1),
  )
