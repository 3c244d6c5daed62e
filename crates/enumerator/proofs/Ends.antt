-- How a search ends where the grounder stopped.
use Rattle.std.proofs.Common.{◌≡◌, ℕ, ◌+◌, ◌-◌, ◌<◌, ◌≤◌, List, refl, sym, ◌∙◌, ap, subst, arith}
use Rattle.std.specs.Prelude.{Option, Some, None, Ok, Err}
use Rattle.alpha_outside.specs.Outside as outside
use Rattle.search_state.specs.Searching.{Searching, IsAllTold}
use Rattle.search_journals.specs.Standing as standing
use Rattle.search_journals.specs.Standing.{Listed, IsReady, Fits, Stands, Ends}
use Rattle.alpha_outside.specs.declared.pred.Pred.{Pred}
use Rattle.core_rules.specs.declared.rules.Core.{Core}
use Rattle.search_rules.specs.Stage.{IsSearchable}
use Rattle.search_state.specs.Searching.{fresh}
use Rattle.search_journals.specs.Search.{SinkChange, TraceChange, SearchAnswer}
use Rattle.search_journals.specs.Begun.{IsFresh, Begins}
use Rattle.search_journals.specs.Settling.{StandsSomewhere, EndsFrom, LeavesFrom, ended}
use Rattle.search_journals.specs.Moves.{MoveIs, IsHalt}
use Rattle.search_journals.specs.declared.moves.Move.{Move}
use Rattle.search_journals.specs.declared.moves.Move.TheVariants as move
use Rattle.search_settings.specs.declared.Settings.{Settings}
use Rattle.search_journals.specs.declared.ends.End.{End}
use Rattle.search_journals.specs.declared.ends.SearchFault.{SearchFault}
use Rattle.search_journals.specs.declared.ends.Finish.{Finish}
use Rattle.search_journals.specs.declared.ends.Finish.TheVariants as finish
use Rattle.search_journals.proofs.Ending.{ends_instances, ends_overflow, ends_too_large}
use Rattle.search_journals.proofs.Beginning.{stands_first, ends_first, leaves_first}
use Rattle.enumerator.specs.Calls.{IsEndBy, IsStop, StopsIf, IsNew}

-- it ends by what the grounder met
pub ends_stop : (g : standing.Given) (v : Searching) (told : Option outside.Journal) (held : Option (List ℕ)) (left rest : ℕ) → Fits g v
    → Stands g v told held left rest → 0 < left → IsAllTold v → (m : Move) (how : Finish) → IsEndBy m how → MoveIs v m
    → Ends g told held left rest how
ends_stop g v told held left rest fits s room all (move.Strike n) how is next = absurd is
ends_stop g v told held left rest fits s room all move.Join how is next = absurd is
ends_stop g v told held left rest fits s room all (move.Justify x) how is next = absurd is
ends_stop g v told held left rest fits s room all (move.Choose b) how is next = absurd is
ends_stop g v told held left rest fits s room all (move.Close x) how is next = absurd is
ends_stop g v told held left rest fits s room all (move.Overflow line op x y) how is next =
    subst (λ h. Ends g told held left rest h) (sym is) (ends_overflow g v told held left rest fits s room line op x y next)
ends_stop g v told held left rest fits s room all (move.TooLarge line size) how is next =
    subst (λ h. Ends g told held left rest h) (sym is) (ends_too_large g v told held left rest fits s room line size next)
ends_stop g v told held left rest fits s room all move.Spent how is next =
    subst (λ h. Ends g told held left rest h) (sym is) (ends_instances g v told held left rest fits s room all next.0 next.1)
ends_stop g v told held left rest fits s room all (move.Stuck x) how is next = absurd is
ends_stop g v told held left rest fits s room all move.Full how is next = absurd is

-- so it ends wherever it stands
pub stop_ends : (book : List (List ℕ)) (v : Searching) (told : Option outside.Journal) (held : Option (List ℕ)) (left rest : ℕ) → 0 < left → IsAllTold v
    → (m : Move) (how : Finish) → IsEndBy m how → MoveIs v m → EndsFrom book v told told held held (left, rest) (left, rest) how
stop_ends book v told held left rest room all m how is next g fits lists s = ends_stop g v told held left rest fits s room all m how is next

-- a halt that is no conflict, no stuck atom and no set is such an end
pub other_stops : (m : Move) → IsHalt m → ((n : ℕ) → ¬ (m ≡ move.Strike n)) → ((x : ℕ) → ¬ (m ≡ move.Stuck x)) → ¬ (m ≡ move.Full) → IsStop m
other_stops (move.Strike n) halt strike stuck full = absurd (strike n refl)
other_stops move.Join halt strike stuck full = absurd halt
other_stops (move.Justify x) halt strike stuck full = absurd halt
other_stops (move.Choose b) halt strike stuck full = absurd halt
other_stops (move.Close x) halt strike stuck full = absurd halt
other_stops (move.Overflow line op x y) halt strike stuck full = (finish.Overflow line op x y, refl)
other_stops (move.TooLarge line size) halt strike stuck full = (finish.TermTooLarge line size, refl)
other_stops move.Spent halt strike stuck full = (finish.Instances, refl)
other_stops (move.Stuck x) halt strike stuck full = absurd (stuck x refl)
other_stops move.Full halt strike stuck full = absurd (full refl)

-- ---- a search from its beginning

-- a search that has done nothing is fresh
pub new_is_fresh : (settings : Settings) (v : Searching) → IsSearchable v.core → IsNew settings v → IsFresh v
new_is_fresh settings v searchable new =
    record { core = v.core; preds = new.0; left = settings.instances; is = new.1; searchable = searchable }

module _ (core : Core) (settings : Settings) (v : Searching) (new : (preds : List Pred) × (v ≡ fresh core preds settings.instances)) where
  -- a search that was just made is over its core
  pub new_core : v.core ≡ core
  new_core = ap (λ (z : Searching). z.core) new.1

  -- and has done nothing
  pub new_for : IsNew settings v
  new_for = (new.0, new.1 ∙ ap (λ k. fresh k new.0 settings.instances) (sym new_core))

  -- its core is one that can be searched
  pub new_searchable : IsSearchable core → IsSearchable v.core
  new_searchable searchable = subst IsSearchable (sym new_core) searchable

-- where the start came to a halt, it is a stop
pub stop_here : (o : Option Move) (m : Move) → o ≡ Some m → StopsIf o → IsStop m
stop_here o m is stops = subst StopsIf is stops

module _ (v : Searching) (searchable : IsSearchable v.core) (lists : Listed) (settings : Settings) (some : 0 < settings.limit) (sink : SinkChange)
    (trace : TraceChange) (new : IsNew settings v) (v1 : Searching) (told : Option outside.Journal) where
  -- the grounder stopped at the start, and the search ended by that
  pub stop_answers : (o : Option Move) (m : Move) → o ≡ Some m → Begins v v1 trace.told told o → trace.told' ≡ told → sink.held' ≡ sink.held
      → (how : Finish) → IsEndBy m how → (e : End) → e ≡ ended how 0 → SearchAnswer v.core lists.sets settings sink trace (Ok e)
  stop_answers o m is begins same kept how by e e_is =
      let begun = subst (Begins v v1 trace.told told) is begins in
      let at = stop_ends lists.book v1 told sink.held settings.limit settings.conflicts some begun.0.all m how by begun.2 in
      let here = subst (λ t. EndsFrom lists.book v1 told t sink.held sink.held' (settings.limit, settings.conflicts)
      (settings.limit, settings.conflicts) how)
      (sym same)
      (subst (λ h. EndsFrom lists.book v1 told told sink.held h (settings.limit, settings.conflicts) (settings.limit, settings.conflicts) how)
      (sym kept) at) in
      subst (λ z. SearchAnswer v.core lists.sets settings sink trace (Ok z)) (sym e_is)
      (ends_first v.core searchable lists settings some sink trace v new.0 new.1 v1 told begun.0.core
      (begun.0.carries sink.held settings.limit settings.conflicts) settings.limit settings.conflicts how here 0 (omega arith))

  module _ (o : Option Move) (none : o ≡ None) (begins : Begins v v1 trace.told told o) where
    -- else it is ready
    pub ready_first : IsReady v1
    ready_first = (subst (Begins v v1 trace.told told) none begins).1

    -- and stands somewhere
    pub stands_begun : StandsSomewhere lists.book v1 told sink.held settings.limit settings.conflicts
    stands_begun =
        let begun = subst (Begins v v1 trace.told told) none begins in
        stands_first v.core searchable lists settings some sink trace v new.0 new.1 v1 told begun.0.core
        (begun.0.carries sink.held settings.limit settings.conflicts)

    -- a fault of its rounds is one of the search
    pub leaves_begun : (mid : ℕ) (fault : SearchFault) → trace.faults ≤ mid
        → LeavesFrom lists.book v1 told trace.told' sink.held sink.held' (settings.limit, settings.conflicts) (sink.faults, sink.faults')
        (mid, trace.faults') fault → SearchAnswer v.core lists.sets settings sink trace (Err fault)
    leaves_begun mid fault later leaves =
        let begun = subst (Begins v v1 trace.told told) none begins in
        leaves_first v.core searchable lists settings some sink trace v new.0 new.1 v1 told begun.0.core
        (begun.0.carries sink.held settings.limit settings.conflicts) mid fault later leaves

    -- and the end of its rounds is its end
    pub ends_begun : (left rest : ℕ) (how : Finish) → left ≤ settings.limit
        → EndsFrom lists.book v1 told trace.told' sink.held sink.held' (settings.limit, settings.conflicts) (left, rest) how
        → (e : End) → e ≡ ended how (settings.limit - left) → SearchAnswer v.core lists.sets settings sink trace (Ok e)
    ends_begun left rest how fewer ends e e_is =
        let begun = subst (Begins v v1 trace.told told) none begins in
        let all : settings.limit - left + left ≡ settings.limit = omega (arith, fewer) in
        subst (λ z. SearchAnswer v.core lists.sets settings sink trace (Ok z)) (sym e_is)
        (ends_first v.core searchable lists settings some sink trace v new.0 new.1 v1 told begun.0.core
        (begun.0.carries sink.held settings.limit settings.conflicts) left rest how ends (settings.limit - left) all)
