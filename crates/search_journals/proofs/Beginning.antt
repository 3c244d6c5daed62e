-- A search from its beginning: it has done nothing, then it makes and notes what needs no positive atom, and then it goes on until it ends.
use Rattle.std.proofs.Common.{◌≡◌, ℕ, ◌+◌, ◌<◌, ◌≤◌, List, [], refl, sym, ◌∙◌, ap, subst, inl, arith}
use Rattle.std.specs.Prelude.{Option, Ok, Err}
use Rattle.alpha_outside.specs.Outside as outside
use Rattle.alpha_outside.specs.declared.pred.Pred.{Pred}
use Rattle.core_rules.specs.declared.rules.Core.{Core}
use Rattle.search_rules.specs.Stage.{IsSearchable}
use Rattle.search_state.specs.Searching.{Searching, fresh}
use Rattle.search_journals.specs.Search.{SinkChange, TraceChange, SearchAnswer}
use Rattle.search_journals.specs.Standing.{Given, Listed, given_for, Fits, Stands, Carries, Leaves, IsTraceFault}
use Rattle.search_journals.specs.Settling.{StandsSomewhere, EndsFrom, LeavesFrom, ended}
use Rattle.search_settings.specs.declared.Settings.{Settings}
use Rattle.search_journals.specs.declared.ends.SearchFault.{SearchFault}
use Rattle.search_journals.specs.declared.ends.SearchFault.TheVariants.{OutOfMemory}
use Rattle.search_journals.specs.declared.ends.Finish.{Finish}
use Rattle.search_journals.proofs.Standing.{halts_at, round_fault}
use Rattle.search_journals.proofs.Empty.{stands_fresh}
use Rattle.search_journals.proofs.Ending.{leaves_fault}
use Rattle.search_journals.proofs.Rounding.{leaves_later}
use Rattle.search_journals.proofs.Answering.{end_answers, fault_answers}

module _ (core : Core) (searchable : IsSearchable core) (lists : Listed) (settings : Settings) (some : 0 < settings.limit) (sink : SinkChange)
    (trace : TraceChange) where
  -- what the search was given
  abbrev given : Given
  given = given_for core lists trace.told sink.held settings

  -- where there is no memory for a search, nothing is written or told
  pub nothing_answers : sink.held' ≡ sink.held → trace.told' ≡ trace.told → SearchAnswer core lists.sets settings sink trace (Err OutOfMemory)
  nothing_answers kept same =
      fault_answers core searchable lists settings sink trace OutOfMemory
      (subst (λ held. Leaves given trace.told' held (sink.faults, sink.faults') (trace.faults, trace.faults') OutOfMemory) (sym kept)
      (inl (halts_at given (fresh core [] settings.instances) trace.told trace.told' sink.held settings.limit settings.conflicts
      refl same some (stands_fresh given []))))

  module _ (v : Searching) (preds : List Pred) (is : v ≡ fresh core preds settings.instances) where
    -- the search is over the core
    pub fits_fresh : Fits given v
    fits_fresh = ap (λ (z : Searching). z.core) is

    -- and stands where no event has come
    pub stands_here : Stands given v trace.told sink.held settings.limit settings.conflicts
    stands_here = subst (λ (z : Searching). Stands given z trace.told sink.held settings.limit settings.conflicts) (sym is)
        (stands_fresh given preds)

    -- a fault before any set is written
    pub first_fault : sink.held' ≡ sink.held → (fault : SearchFault)
        → IsTraceFault v trace.told trace.told' trace.faults trace.faults' fault → SearchAnswer core lists.sets settings sink trace (Err fault)
    first_fault kept fault f =
        fault_answers core searchable lists settings sink trace fault
        (subst (λ held. Leaves given trace.told' held (sink.faults, sink.faults') (trace.faults, trace.faults') fault) (sym kept)
        (leaves_fault v trace.told trace.told' settings.conflicts trace.faults trace.faults' (sink.faults, sink.faults') fault
        (round_fault v trace.told trace.told' settings.conflicts trace.faults trace.faults' fault f) given fits_fresh sink.held settings.limit some
        stands_here))

    module _ (v' : Searching) (told : Option outside.Journal) (same : v'.core ≡ v.core)
        (carries : Carries v v' trace.told told sink.held sink.held (settings.limit, settings.conflicts)
        (settings.limit, settings.conflicts)) where
      -- after what needs no positive atom was made and noted the search is over the core
      begun_fits : Fits given v'
      begun_fits = same ∙ fits_fresh

      -- and stands where a journal leads
      begun_stands : Stands given v' told sink.held settings.limit settings.conflicts
      begun_stands = carries given fits_fresh stands_here

      -- so it stands somewhere
      pub stands_first : StandsSomewhere lists.book v' told sink.held settings.limit settings.conflicts
      stands_first = record { given = given; fits = begun_fits; lists = refl; stands = begun_stands }

      -- where it ends by itself from there it answers as it promises
      pub ends_first : (left rest : ℕ) (how : Finish) → EndsFrom lists.book v' told trace.told' sink.held sink.held'
          (settings.limit, settings.conflicts) (left, rest) how → (printed : ℕ) → printed + left ≡ settings.limit
          → SearchAnswer core lists.sets settings sink trace (Ok (ended how printed))
      ends_first left rest how ends printed all = end_answers core searchable lists settings sink trace left rest how
          (ends given begun_fits refl begun_stands) printed all

      -- and where it ends by a fault
      pub leaves_first : (mid : ℕ) (fault : SearchFault) → trace.faults ≤ mid
          → LeavesFrom lists.book v' told trace.told' sink.held sink.held' (settings.limit, settings.conflicts) (sink.faults, sink.faults')
          (mid, trace.faults') fault → SearchAnswer core lists.sets settings sink trace (Err fault)
      leaves_first mid fault later leaves =
          fault_answers core searchable lists settings sink trace fault
          (leaves_later given trace.told' sink.held' sink.faults sink.faults sink.faults' trace.faults mid trace.faults' fault
          (omega arith) later (leaves given begun_fits refl begun_stands))
