-- The promises of a run, from what its work came to.
use Rattle.std.proofs.Common.{◌≡◌, ◌⊎◌, inl, inr, refl, sym, subst, ◌∙◌, ℕ, ◌<◌, true, false, List, [], Option, Some, None}
use Rattle.alpha_outside.specs.declared.event.Event.{Event}
use Rattle.alpha_outside.specs.Outside.{Journal}
use Rattle.asp_syntax.specs.declared.tree.Statement.{Statement}
use Rattle.asp_meaning.specs.Atoms.{Atom}
use Rattle.search_settings.specs.declared.Settings.{Settings}
use Rattle.search_journals.specs.Search.{SinkChange, TraceChange, Journaled}
use Rattle.search_journals.specs.Journals.{Adds}
use Rattle.program_files.specs.Files.{Told}
use Rattle.command_line.specs.declared.request.Solve.{Solve}
use Rattle.alpha.specs.declared.status.Status.{Status}
use Rattle.alpha.specs.declared.status.Status.TheVariants as status
use Rattle.alpha_outside.specs.Outside.{Rose}
use Rattle.alpha.specs.Journals.{Task, AreListed, core_for, most_of, HasSpent, HasEnded, HasOverflow, HasTooLarge}
use Rattle.alpha.specs.Texts.{has_message}
use Rattle.alpha.specs.Promises.{Counts, IsTaskOf, IsProgramOf, IsAppended, OnlyAppends, OutputIs, OnlyNotes, TraceNameIs, IsUnsearched, IsRefusedWords, IsCaused, trace_name, begun}
use Rattle.alpha.specs.Outcomes.{IsStill, IsTaskFor, WroteAll, Searched, ended, cut_off, untraced, memory, cut_off_memory}
use Rattle.alpha.specs.Outcomes.{Outcome, usage, no_memory, too_long, unreadable, refused, list_too_long, list_unreadable, list_refused, unnamed, searched}
use Rattle.alpha.proofs.Appended.{kept_is, only_appends, only_keeps, only_notes, only_still, name_still, name_kept, name_given}
use Rattle.alpha.proofs.Noted.{told_by}
use Rattle.alpha.proofs.Shown.{noted_alone, ended_output, cut_output, lines_output}

-- one request is asked for
same_solve : (r q : Solve) → Some r ≡ Some q → r ≡ q
same_solve r q e = cc

module _ (k : Task) (sink : SinkChange) (trace : TraceChange) where
  -- ---- a search that ended by itself

  ended_quiet : (s : Status) → WroteAll k sink trace s → has_message s ≡ false
  ended_quiet (status.Finished printed) w = refl
  ended_quiet (status.LimitReached printed) w = refl
  ended_quiet (status.BudgetSpent kind number printed) w = refl
  ended_quiet (status.TermTooLarge line size printed) w = refl
  ended_quiet (status.Overflow line op left right printed) w = refl
  ended_quiet status.Usage w = absurd w.ends
  ended_quiet (status.Refused r) w = absurd w.ends
  ended_quiet (status.TextTooLong name) w = absurd w.ends
  ended_quiet (status.ReadFault name) w = absurd w.ends
  ended_quiet (status.AfterRefused line) w = absurd w.ends
  ended_quiet status.WriteFault w = absurd w.ends
  ended_quiet status.TraceFault w = absurd w.ends
  ended_quiet status.OutOfMemory w = absurd w.ends

  module _ (request : Solve) (told : Told) (shelf : Counts) (before : TraceChange)
      (from : (let t : TraceChange = record before { told = begun request.trace before.told } in trace ≡ t))
      (of : IsTaskOf (Some request) told k) where
    -- what is so of the search is so of the run
    of_task : (IsSo : Task → TraceChange → Type 0) → IsSo k trace → (t : Task) × IsTaskOf (Some request) told t
        × IsSo t (record before { told = begun request.trace before.told })
    of_task IsSo so = (k, of, subst (λ t. IsSo k t) from so)

    ended_caused : (s : Status) → WroteAll k sink trace s → IsCaused (Some request) told shelf sink before s
    ended_caused (status.Finished printed) w = of_task (λ t u. (printed < t.settings.limit) × HasEnded t u) (
      subst (λ n. n < k.settings.limit) (sym w.ends.0) w.ends.1,
      record { journal = w.journaled.journal; told = told_by k trace w.lines w.journaled; ended = w.ends.3 },
    )
    ended_caused (status.LimitReached printed) w = of_task (λ t u. printed ≡ t.settings.limit) (w.ends.0 ∙ sym w.ends.1)
    ended_caused (status.BudgetSpent kind number printed) w =
        of_task (λ t u. (printed < t.settings.limit) × (number ≡ most_of kind t.settings) × HasSpent t u kind number) (
          subst (λ n. n < k.settings.limit) (sym w.ends.0) w.ends.1,
          w.ends.2,
          record {
            journal = w.journaled.journal;
            told = told_by k trace w.lines w.journaled;
            used = w.ends.3;
            one_more = w.ends.4;
          },
        )
    ended_caused (status.Overflow line op left right printed) w =
        of_task (λ t u. (printed < t.settings.limit) × HasOverflow t u line op left right) (
          subst (λ n. n < k.settings.limit) (sym w.ends.0) w.ends.1,
          record { journal = w.journaled.journal; told = told_by k trace w.lines w.journaled; overflow = w.ends.2 },
        )
    ended_caused (status.TermTooLarge line size printed) w =
        of_task (λ t u. (printed < t.settings.limit) × HasTooLarge t u line size) (
          subst (λ n. n < k.settings.limit) (sym w.ends.0) w.ends.1,
          record { journal = w.journaled.journal; told = told_by k trace w.lines w.journaled; too_large = w.ends.2 },
        )
    ended_caused status.Usage w = absurd w.ends
    ended_caused (status.Refused r) w = absurd w.ends
    ended_caused (status.TextTooLong long) w = absurd w.ends
    ended_caused (status.ReadFault read) w = absurd w.ends
    ended_caused (status.AfterRefused line) w = absurd w.ends
    ended_caused status.WriteFault w = absurd w.ends
    ended_caused status.TraceFault w = absurd w.ends
    ended_caused status.OutOfMemory w = absurd w.ends

    -- its program is that of the files
    this_program : IsProgramOf told request.files k.program
    this_program =
        let same : of.request ≡ request = same_solve of.request request (sym of.asked) in
        subst (λ (r : Solve). IsProgramOf told r.files k.program) same of.program

    -- the count of the trace's faults is that of the whole run
    whole_rose : Rose trace.faults trace.faults' → Rose before.faults before.faults'
    whole_rose rose = subst (λ (t : TraceChange). Rose t.faults t.faults') from rose

    searched_caused : (s : Status) → Searched k sink trace s → IsCaused (Some request) told shelf sink before s
    searched_caused s (ended w) = ended_caused s w
    searched_caused s (cut_off rose w) = (rose, (request, refl, (k.program, this_program)))
    searched_caused s (untraced rose w) = (whole_rose rose, (request, refl, (k.program, this_program)))
    searched_caused s (memory w) = tt
    searched_caused s (cut_off_memory rose w) = tt

  -- ---- want of memory in place of a status that has a message

  searched_memory : (s : Status) → has_message s ≡ true → Searched k sink trace s → Searched k sink trace status.OutOfMemory
  searched_memory s m (ended w) = let q = ended_quiet s w in absurd (cc)
  searched_memory s m (cut_off rose w) = cut_off_memory rose w
  searched_memory s m (untraced rose w) = memory (noted_alone k sink trace w)
  searched_memory s m (memory w) = memory w
  searched_memory s m (cut_off_memory rose w) = cut_off_memory rose w

  -- ---- what was written and noted

  searched_appends : (s : Status) → Searched k sink trace s → OnlyAppends sink.held sink.held'
  searched_appends s (ended w) = only_appends sink.held sink.held' _ w.bytes
  searched_appends s (cut_off rose w) = only_appends sink.held sink.held' _ w.bytes
  searched_appends s (untraced rose (inl w)) = only_appends sink.held sink.held' _ w.0.bytes
  searched_appends s (untraced rose (inr w)) = only_appends sink.held sink.held' _ w.0.bytes
  searched_appends s (memory (inl w)) = only_appends sink.held sink.held' _ w.bytes
  searched_appends s (memory (inr w)) = only_appends sink.held sink.held' _ w.bytes
  searched_appends s (cut_off_memory rose w) = only_appends sink.held sink.held' _ w.bytes

  -- some events were told
  abbrev Noted : Type 0
  Noted = (events : List Event) × Adds trace.told trace.told' events

  journal_notes : (lines : List (List ℕ)) → Journaled (core_for k.program) k.listed trace lines → Noted
  journal_notes lines j = (j.tells.0, j.tells.1)

  searched_notes : (s : Status) → Searched k sink trace s → Noted
  searched_notes s (ended w) = journal_notes w.lines w.journaled
  searched_notes s (cut_off rose w) = journal_notes w.lines w.journaled
  searched_notes s (untraced rose (inl w)) = journal_notes w.0.lines w.0.journaled
  searched_notes s (untraced rose (inr w)) = journal_notes w.0.lines w.0.journaled
  searched_notes s (memory (inl w)) = journal_notes w.lines w.journaled
  searched_notes s (memory (inr w)) = journal_notes w.lines w.journaled
  searched_notes s (cut_off_memory rose w) = journal_notes w.lines w.journaled

  searched_output : (b : List ℕ) → IsAppended sink.held sink.held' b → (s : Status) → Searched k sink trace s → OutputIs sink.faults sink.faults' s b
  searched_output b is s (ended w) = ended_output k sink trace b is s w
  searched_output b is s (cut_off rose w) = cut_output k sink trace b is w
  searched_output b is s (untraced rose w) = lines_output k sink trace b is (noted_alone k sink trace w)
  searched_output b is s (memory w) = inl (lines_output k sink trace b is w)
  searched_output b is s (cut_off_memory rose w) = inr (rose, cut_output k sink trace b is w)

  -- a status of a run that searched nothing has a message, so no search ended with it
  unsearched_speaks : (s : Status) → IsUnsearched s → has_message s ≡ true
  unsearched_speaks status.Usage is = refl
  unsearched_speaks (status.Refused r) is = refl
  unsearched_speaks (status.TextTooLong name) is = refl
  unsearched_speaks (status.ReadFault name) is = refl
  unsearched_speaks (status.AfterRefused line) is = refl
  unsearched_speaks (status.Finished printed) is = absurd is
  unsearched_speaks (status.LimitReached printed) is = absurd is
  unsearched_speaks (status.BudgetSpent kind number printed) is = absurd is
  unsearched_speaks (status.TermTooLarge line size printed) is = absurd is
  unsearched_speaks (status.Overflow line op left right printed) is = absurd is
  unsearched_speaks status.WriteFault is = absurd is
  unsearched_speaks status.TraceFault is = absurd is
  unsearched_speaks status.OutOfMemory is = absurd is

  not_unsearched : (s : Status) → IsUnsearched s → Searched k sink trace s → ⊥
  not_unsearched s is (ended w) = let q = ended_quiet s w in let m = unsearched_speaks s is in cc
  not_unsearched s is (cut_off rose w) = is
  not_unsearched s is (untraced rose w) = is
  not_unsearched s is (memory w) = is
  not_unsearched s is (cut_off_memory rose w) = is

-- ---- the name of the trace's file

-- a run with this status may have stopped before the file was named
abbrev MayStop : Status → Type 0
MayStop status.Usage = Unit {0}
MayStop (status.Refused r) = Unit {0}
MayStop (status.TextTooLong name) = Unit {0}
MayStop (status.ReadFault name) = Unit {0}
MayStop (status.AfterRefused line) = Unit {0}
MayStop status.TraceFault = Unit {0}
MayStop status.OutOfMemory = Unit {0}
MayStop _ = ⊥

module _ (told told' : Option Journal) where
  -- then it is what it was
  kept_name : (name : Option (List ℕ)) (s : Status) → MayStop s → told' ≡ told → TraceNameIs name told told' s
  kept_name None s may same = name_still told told' same
  kept_name (Some name) status.Usage may same = inl (name_still told told' same)
  kept_name (Some name) (status.Refused r) may same = inl (name_still told told' same)
  kept_name (Some name) (status.TextTooLong long) may same = inl (name_still told told' same)
  kept_name (Some name) (status.ReadFault read) may same = inl (name_still told told' same)
  kept_name (Some name) (status.AfterRefused line) may same = inl (name_still told told' same)
  kept_name (Some name) status.TraceFault may same = inl (name_still told told' same)
  kept_name (Some name) status.OutOfMemory may same = inl (name_still told told' same)
  kept_name (Some name) status.WriteFault may same = absurd may
  kept_name (Some name) (status.Finished printed) may same = absurd may
  kept_name (Some name) (status.LimitReached printed) may same = absurd may
  kept_name (Some name) (status.BudgetSpent kind number printed) may same = absurd may
  kept_name (Some name) (status.TermTooLarge line size printed) may same = absurd may
  kept_name (Some name) (status.Overflow line op left right printed) may same = absurd may

  -- and after it was named it is this one
  named_name : (name : Option (List ℕ)) (s : Status) (events : List Event) → Adds (begun name told) told' events → TraceNameIs name told told' s
  named_name None s events adds = name_kept told told' events adds
  named_name (Some name) status.Usage events adds = inr (name_given told told' name events adds)
  named_name (Some name) (status.Refused r) events adds = inr (name_given told told' name events adds)
  named_name (Some name) (status.TextTooLong long) events adds = inr (name_given told told' name events adds)
  named_name (Some name) (status.ReadFault read) events adds = inr (name_given told told' name events adds)
  named_name (Some name) (status.AfterRefused line) events adds = inr (name_given told told' name events adds)
  named_name (Some name) status.TraceFault events adds = inr (name_given told told' name events adds)
  named_name (Some name) status.OutOfMemory events adds = inr (name_given told told' name events adds)
  named_name (Some name) status.WriteFault events adds = name_given told told' name events adds
  named_name (Some name) (status.Finished printed) events adds = name_given told told' name events adds
  named_name (Some name) (status.LimitReached printed) events adds = name_given told told' name events adds
  named_name (Some name) (status.BudgetSpent kind number printed) events adds = name_given told told' name events adds
  named_name (Some name) (status.TermTooLarge line size printed) events adds = name_given told told' name events adds
  named_name (Some name) (status.Overflow line op left right printed) events adds = name_given told told' name events adds

-- ---- what was searched

-- one of the tasks
abbrev task_of : (P : List Statement) (bytes : List ℕ) (A : List (List Atom)) → AreListed bytes A → Settings → Task
task_of P bytes A are settings = record { program = P; bytes = bytes; listed = A; are_listed = are; settings = settings }

-- it is for what was read
task_for : (P : List Statement) (bytes : List ℕ) (A : List (List Atom)) (are : AreListed bytes A) (settings : Settings)
    → IsTaskFor P bytes settings (task_of P bytes A are settings)
task_for P bytes A are settings = record { program = refl; list = refl; settings_are = refl }

module _ (told : Told) (shelf : Counts) (sink : SinkChange) (trace : TraceChange) where
  memory_of : (asks : Option Solve) (s : Status) → has_message s ≡ true → Outcome told shelf sink trace asks s
      → Outcome told shelf sink trace asks status.OutOfMemory
  memory_of asks s m (usage kept) = no_memory kept
  memory_of asks s m (no_memory kept) = no_memory kept
  memory_of asks s m (too_long among rose long kept) = no_memory kept
  memory_of asks s m (unreadable among rose kept) = no_memory kept
  memory_of asks s m (refused text is why kept) = no_memory kept
  memory_of asks s m (list_too_long P of after rose long kept) = no_memory kept
  memory_of asks s m (list_unreadable after rose kept) = no_memory kept
  memory_of asks s m (list_refused P name bytes of after file within first kept) = no_memory kept
  memory_of asks s m (unnamed P bytes of list rose kept) = no_memory kept
  memory_of asks s m (searched {request} P bytes of list A are all) =
      searched P bytes of list A are (λ k is. searched_memory k sink (record trace { told = begun request.trace trace.told }) s m (all k is))

  -- the outcome of the status that is answered in the end
  pub reported :
      (asks : Option Solve) (s t : Status) → Outcome told shelf sink trace asks s
      → (t ≡ s) ⊎ ((has_message s ≡ true) × (t ≡ status.OutOfMemory)) → Outcome told shelf sink trace asks t
  reported asks s t o (inl same) = subst (Outcome told shelf sink trace asks) (sym same) o
  reported asks s t o (inr less) = subst (Outcome told shelf sink trace asks) (sym less.1) (memory_of asks s less.0 o)

  -- ---- byte for byte

  module _ (b : List ℕ) (is : IsAppended sink.held sink.held' b) where
    nothing : IsStill sink trace → b ≡ []
    nothing kept = kept_is sink.held sink.held' b is kept.bytes

    pub output : (asks : Option Solve) (s : Status) → Outcome told shelf sink trace asks s → OutputIs sink.faults sink.faults' s b
    output asks s (usage kept) = nothing kept
    output asks s (no_memory kept) = inl (record { lines = []; bytes = nothing kept; sets = tt })
    output asks s (too_long among rose long kept) = nothing kept
    output asks s (unreadable among rose kept) = nothing kept
    output asks s (refused text t why kept) = nothing kept
    output asks s (list_too_long P of after rose long kept) = nothing kept
    output asks s (list_unreadable after rose kept) = nothing kept
    output asks s (list_refused P name bytes of after file within first kept) = nothing kept
    output asks s (unnamed P bytes of list rose kept) = record { lines = []; bytes = nothing kept; sets = tt }
    output asks s (searched {request} P bytes of list A are all) =
        let k = task_of P bytes A are request.settings in
        searched_output k sink (record trace { told = begun request.trace trace.told }) b is s (all k (task_for P bytes A are request.settings))

  -- ---- nothing but appending

  still_appends : IsStill sink trace → OnlyAppends sink.held sink.held'
  still_appends kept = only_keeps sink.held sink.held' kept.bytes

  still_notes : IsStill sink trace → OnlyNotes trace.told trace.told'
  still_notes kept = only_still trace.told trace.told' kept.events

  pub output_appends : (asks : Option Solve) (s : Status) → Outcome told shelf sink trace asks s → OnlyAppends sink.held sink.held'
  output_appends asks s (usage kept) = still_appends kept
  output_appends asks s (no_memory kept) = still_appends kept
  output_appends asks s (too_long among rose long kept) = still_appends kept
  output_appends asks s (unreadable among rose kept) = still_appends kept
  output_appends asks s (refused text t why kept) = still_appends kept
  output_appends asks s (list_too_long P of after rose long kept) = still_appends kept
  output_appends asks s (list_unreadable after rose kept) = still_appends kept
  output_appends asks s (list_refused P name bytes of after file within first kept) = still_appends kept
  output_appends asks s (unnamed P bytes of list rose kept) = still_appends kept
  output_appends asks s (searched {request} P bytes of list A are all) =
      let k = task_of P bytes A are request.settings in
      searched_appends k sink (record trace { told = begun request.trace trace.told }) s (all k (task_for P bytes A are request.settings))

  pub events_appended : (asks : Option Solve) (s : Status) → Outcome told shelf sink trace asks s → OnlyNotes trace.told trace.told'
  events_appended asks s (usage kept) = still_notes kept
  events_appended asks s (no_memory kept) = still_notes kept
  events_appended asks s (too_long among rose long kept) = still_notes kept
  events_appended asks s (unreadable among rose kept) = still_notes kept
  events_appended asks s (refused text t why kept) = still_notes kept
  events_appended asks s (list_too_long P of after rose long kept) = still_notes kept
  events_appended asks s (list_unreadable after rose kept) = still_notes kept
  events_appended asks s (list_refused P name bytes of after file within first kept) = still_notes kept
  events_appended asks s (unnamed P bytes of list rose kept) = still_notes kept
  events_appended asks s (searched {request} P bytes of list A are all) =
      let k = task_of P bytes A are request.settings in
      let n = searched_notes k sink (record trace { told = begun request.trace trace.told }) s (all k (task_for P bytes A are request.settings)) in
      only_notes trace.told trace.told' request.trace n.0 n.1

  -- ---- the name of the trace's file

  pub name_is : (asks : Option Solve) (s : Status) → Outcome told shelf sink trace asks s → TraceNameIs (trace_name asks) trace.told trace.told' s
  name_is asks s (usage kept) = kept_name trace.told trace.told' None s tt kept.events
  name_is asks s (no_memory kept) = kept_name trace.told trace.told' (trace_name asks) s tt kept.events
  name_is asks s (too_long {request} among rose long kept) = kept_name trace.told trace.told' request.trace s tt kept.events
  name_is asks s (unreadable {request} among rose kept) = kept_name trace.told trace.told' request.trace s tt kept.events
  name_is asks s (refused {request} text t why kept) = kept_name trace.told trace.told' request.trace s tt kept.events
  name_is asks s (list_too_long {request} P of after rose long kept) = kept_name trace.told trace.told' request.trace s tt kept.events
  name_is asks s (list_unreadable {request} after rose kept) = kept_name trace.told trace.told' request.trace s tt kept.events
  name_is asks s (list_refused {request} P name bytes of after file within first kept) =
      kept_name trace.told trace.told' request.trace s tt kept.events
  name_is asks s (unnamed {request} P bytes of list rose kept) = kept_name trace.told trace.told' request.trace s tt kept.events
  name_is asks s (searched {request} P bytes of list A are all) =
      let k = task_of P bytes A are request.settings in
      let n = searched_notes k sink (record trace { told = begun request.trace trace.told }) s (all k (task_for P bytes A are request.settings)) in
      named_name trace.told trace.told' request.trace s n.0 n.1

  -- where nothing was searched nothing was noted
  pub unnoted : (asks : Option Solve) (s : Status) → Outcome told shelf sink trace asks s → IsUnsearched s → trace.told' ≡ trace.told
  unnoted asks s (usage kept) is = kept.events
  unnoted asks s (no_memory kept) is = kept.events
  unnoted asks s (too_long among rose long kept) is = kept.events
  unnoted asks s (unreadable among rose kept) is = kept.events
  unnoted asks s (refused text t why kept) is = kept.events
  unnoted asks s (list_too_long P of after rose long kept) is = kept.events
  unnoted asks s (list_unreadable after rose kept) is = kept.events
  unnoted asks s (list_refused P name bytes of after file within first kept) is = kept.events
  unnoted asks s (unnamed P bytes of list rose kept) is = kept.events
  unnoted asks s (searched {request} P bytes of list A are all) is =
      let k = task_of P bytes A are request.settings in
      absurd (not_unsearched k sink (record trace { told = begun request.trace trace.told }) s is
      (all k (task_for P bytes A are request.settings)))

  -- ---- each status by its cause

  pub caused : (asks : Option Solve) (s : Status) → Outcome told shelf sink trace asks s → IsCaused asks told shelf sink trace s
  caused asks s (usage kept) = refl
  caused asks s (no_memory kept) = tt
  caused asks s (too_long {request} among rose long kept) = (request, refl, inl (among, rose, long))
  caused asks s (unreadable {request} among rose kept) = (request, refl, inl among, rose)
  caused asks s (refused {request} text t why kept) = (request, refl, (text, t, why))
  caused asks s (list_too_long {request} P of after rose long kept) = (request, refl, inr (after, rose, (request, refl, (P, of)), long))
  caused asks s (list_unreadable {request} after rose kept) = (request, refl, inr after, rose)
  caused asks s (list_refused {request} P name bytes of after file within first kept) =
      (request, refl, (P, of), (name, bytes, after, file, first))
  caused asks s (unnamed {request} P bytes of list rose kept) = (rose, (request, refl, (P, of)))
  caused asks s (searched {request} P bytes of list A are all) =
      let k = task_of P bytes A are request.settings in
      let from : TraceChange = record trace { told = begun request.trace trace.told } in
      searched_caused k sink from request told shelf trace refl
      (record { request = request; asked = refl; program = of; list = list; settings = refl }) s (all k (task_for P bytes A are request.settings))

  pub refused_words : (asks : Option Solve) (s : Status) → Outcome told shelf sink trace asks s → asks ≡ None → IsRefusedWords s
  refused_words asks s (usage kept) none = tt
  refused_words asks s (no_memory kept) none = tt
  refused_words asks s (too_long among rose long kept) none = absurd (cc)
  refused_words asks s (unreadable among rose kept) none = absurd (cc)
  refused_words asks s (refused text t why kept) none = absurd (cc)
  refused_words asks s (list_too_long P of after rose long kept) none = absurd (cc)
  refused_words asks s (list_unreadable after rose kept) none = absurd (cc)
  refused_words asks s (list_refused P name bytes of after file within first kept) none = absurd (cc)
  refused_words asks s (unnamed P bytes of list rose kept) none = absurd (cc)
  refused_words asks s (searched P bytes of list A are all) none = absurd (cc)
