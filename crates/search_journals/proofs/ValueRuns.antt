-- A run of values that unit nogoods give carries a search on.
use Rattle.std.proofs.Common.{◌≡◌, ℕ, ◌<◌, List, [], ◌∷◌, ◌++◌, refl, sym, ap, subst, arith, append-nil, append_assoc}
use Rattle.std.specs.Prelude.{Option, Some, None, option_map}
use Rattle.alpha_outside.specs.Outside as outside
use Rattle.alpha_outside.specs.Outside.{with_event}
use Rattle.alpha_outside.specs.declared.event.Event as event
use Rattle.alpha_outside.specs.declared.event.Event.TheVariants as say
use Rattle.search_values.specs.declared.entry.Entry.{Entry}
use Rattle.search_values.specs.declared.entry.Why.TheVariants.{Given}
use Rattle.search_values.specs.Values.{entry_on}
use Rattle.search_values.proofs.Basics.{get_in}
use Rattle.propagation.specs.Runs.{Puts, Nothing, Then, with_events}
use Rattle.search_state.specs.Searching.{Searching, ids}
use Rattle.search_state.specs.Moves.{HasPropagated, HasNoted, NogoodsArePlaced}
use Rattle.search_state.proofs.Found.{gives_below}
use Rattle.search_journals.specs.Standing.{IsReady, IsTraceCause, IsTraceFault}
use Rattle.search_journals.specs.Runs.{Runs, GoesOn}
use Rattle.search_journals.specs.declared.ends.SearchFault.{SearchFault}
use Rattle.search_journals.proofs.Standing.{note_fault}
use Rattle.search_journals.proofs.Stepping.{runs_none, runs_on, runs_put, fault_on}

-- no events leave what was told
tells_none : (told : Option outside.Journal) → told ≡ option_map (with_events []) told
tells_none None = refl
tells_none (Some j) = ap (λ (es : List event.Event). let k : Option outside.Journal = Some (record j { events = es }) in k)
    (sym (append-nil j.events))

-- one event more
tells_last : (es : List event.Event) (e : event.Event) (told : Option outside.Journal)
    → option_map (with_events (es ++ e ∷ [])) told ≡ option_map (with_event e) (option_map (with_events es) told)
tells_last es e None = refl
tells_last es e (Some j) = ap (λ (gs : List event.Event). let k : Option outside.Journal = Some (record j { events = gs }) in k)
    (sym (append_assoc j.events es (e ∷ [])))

-- the search with this stack
abbrev on_stack : Searching → List Entry → Searching
on_stack v stack = record v { stack = stack }

module _ (v : Searching) (told : Option outside.Journal) (ready : IsReady v) (placed : NogoodsArePlaced v) (few : ids v < 4294967296) where
  -- values that unit nogoods give, one after another
  puts_run : (events : List event.Event) (stack : List Entry) → Puts v.nogoods v.stack events stack
      → GoesOn v (on_stack v stack) told (option_map (with_events events) told)
  puts_run _ _ Nothing = (subst (λ t. Runs v v told t) (tells_none told) (runs_none v told ready), omega arith)
  puts_run _ _ (Then events stack before n a value ng at gives) =
      let w = on_stack v stack in
      let w' = on_stack v (entry_on stack a value (Given n) ∷ stack) in
      let so_far = puts_run events stack before in
      let low = gives_below stack (ids v) ng (placed ng (get_in v.nogoods n ng at)) a value gives in
      let step = runs_put w w' (option_map (with_events events) told)
      (option_map (with_events (events ++ say.Put a value n ∷ [])) told) n a value so_far.0.ready (low, (ng, at, gives)) refl few
      (tells_last events (say.Put a value n) told) in
      let less = so_far.1 in
      let more = step.1 in (
        runs_on v w w' told (option_map (with_events events) told)
            (option_map (with_events (events ++ say.Put a value n ∷ [])) told) so_far.0 step.0,
        omega (arith, less, more),
      )

  -- a propagation carries the search on
  pub propagated_on : (v' : Searching) (told' : Option outside.Journal) → HasPropagated v v' told told' → GoesOn v v' told told'
  propagated_on v' told' p = subst (λ (w : Searching). GoesOn v w told told') (sym p.is)
      (subst (λ t. GoesOn v (on_stack v v'.stack) told t) (sym p.tells) (puts_run p.events v'.stack p.puts))

  -- and so does what was noted before a fault
  pub noted_fault_on : (told' : Option outside.Journal) (before now : ℕ) (fault : SearchFault) → HasNoted v told told'
      → IsTraceCause before now fault → IsTraceFault v told told' before now fault
  noted_fault_on told' before now fault p cause =
      let runs = subst (λ t. Runs v (on_stack v p.stack) told t) (sym p.tells) (puts_run p.events p.stack p.puts).0 in
      fault_on v (on_stack v p.stack) told told' told' before before now fault runs (omega arith)
      (note_fault (on_stack v p.stack) told' told' before now fault refl cause)
