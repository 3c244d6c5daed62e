-- From how words and files were read to what came of them.
use Rattle.std.proofs.Common.{◌≡◌, ◌+◌, refl, sym, ap, subst, ℕ, ◌≤◌, List, [], Option, Some, None, arith}
use Rattle.std.specs.Prelude.{IfSome, ◌↔◌}
use Rattle.std.proofs.KnownBytes.{Keeps-refl}
use Rattle.lists.specs.Lists.{Each}
use Rattle.alpha_outside.specs.Outside.{RoseBy, Journal}
use Rattle.asp_syntax.specs.declared.tree.Statement.{Statement}
use Rattle.asp_meaning.specs.Atoms.{Atom}
use Rattle.search_journals.specs.Search.{SinkChange, TraceChange, AreLinesOfSets}
use Rattle.program_files.specs.Files.{Told}
use Rattle.program_files.specs.Faults.{IsFilesCause, IsListedCause}
use Rattle.program_files.specs.declared.fault.FilesFault.{FilesFault}
use Rattle.program_files.specs.declared.fault.FilesFault.TheVariants as files
use Rattle.command_line.specs.declared.request.Solve.{Solve}
use Rattle.alpha.specs.declared.status.Status.{Status}
use Rattle.alpha.specs.declared.status.Status.TheVariants as status
use Rattle.alpha.specs.Journals.{Task, AreListed}
use Rattle.alpha.specs.TextAnswers.{IsStopOf}
use Rattle.alpha.specs.Promises.{Counts, IsTextOf, IsProgramOf, IsListOf, begun}
use Rattle.alpha.specs.Outcomes.{IsStill, IsCoreOf, IsBookOf, IsCoreStop, IsListStop, IsTraceStop, Searched, files_status}
use Rattle.alpha.specs.Outcomes.{Outcome, usage, no_memory, too_long, unreadable, refused, list_too_long, list_unreadable, list_refused, unnamed, searched}
use Rattle.std.specs.Prelude.{Result, Ok, Err, IfOk, IfErr, OnOk, length}
use Rattle.lists.specs.Lists.{HasNoRepeats}
use Rattle.alpha_outside.specs.Outside.{FileIs}
use Rattle.core_rules.specs.declared.rules.Core.{Core}
use Rattle.core_meaning.specs.AnswerSets.{HasCoreSets}
use Rattle.asp_meaning.specs.Programs.{IsAnswerSet}
use Rattle.asp_safety.specs.Faults.{IsAccepted as IsSafe}
use Rattle.after_book.specs.Parts.{ended_lines, IsFine}
use Rattle.program_files.specs.Files.{most_listed_bytes, IsLonger}
use Rattle.alpha.specs.Journals.{core_for}
use Rattle.alpha.specs.TextAnswers.{IsBuiltText, IsProgramText, IsFaultOf}
use Rattle.alpha.proofs.TextLemmas.{program_text, fault_text}
use Rattle.alpha.proofs.SolveLemmas.{rose_later}
use Rattle.alpha.proofs.LaterFaults.{searched_from}

-- a count that rose by so much from a later value rose by so much from an earlier one
rose_by_later : (by a b c : ℕ) → a ≤ b → RoseBy by b c → RoseBy by a c
rose_by_later by a b c later rose = omega (arith, later, rose)

-- nothing was written or noted
pub still : (held : Option (List ℕ)) (faults : ℕ) (told : Option Journal) (noted : ℕ)
    → IsStill (record { held = held; held' = held; faults = faults; faults' = faults }) (record { told = told; told' = told; faults = noted; faults' = noted })
still held faults told noted = record { bytes = Keeps-refl held; events = refl }

-- ---- files

-- files that give no text give no core
pub files_stop : (names : List (List ℕ)) (told : Told) (shelf : Counts) (f : FilesFault)
    → IsFilesCause names told shelf.taken shelf.taken' shelf.faults shelf.faults' f → IsCoreStop told names shelf (files_status f)
files_stop names told shelf (files.TooLong name) cause = cause
files_stop names told shelf (files.Unreadable name) cause = (cause.0, cause.1)
files_stop names told shelf files.OutOfMemory cause = tt

-- nor does a text that is refused
pub text_stop : (names : List (List ℕ)) (told : Told) (shelf : Counts) (text : List ℕ) (s : Status) → IsTextOf told names text
    → IsStopOf text s → IsCoreStop told names shelf s
text_stop names told shelf text (status.Refused r) of why = (text, of, why)
text_stop names told shelf text status.OutOfMemory of why = tt
text_stop names told shelf text (status.Finished printed) of why = absurd why
text_stop names told shelf text status.Usage of why = absurd why
text_stop names told shelf text (status.TextTooLong name) of why = absurd why
text_stop names told shelf text (status.ReadFault name) of why = absurd why
text_stop names told shelf text (status.AfterRefused line) of why = absurd why
text_stop names told shelf text status.WriteFault of why = absurd why
text_stop names told shelf text status.TraceFault of why = absurd why
text_stop names told shelf text (status.LimitReached printed) of why = absurd why
text_stop names told shelf text (status.BudgetSpent kind number printed) of why = absurd why
text_stop names told shelf text (status.TermTooLarge line size printed) of why = absurd why
text_stop names told shelf text (status.Overflow line op left right printed) of why = absurd why

-- a file of sets that can't be had gives no book
pub list_stop : (name : List ℕ) (told : Told) (shelf : Counts) (f : FilesFault)
    → IsListedCause name told shelf.taken shelf.taken' shelf.faults shelf.faults' f → IsListStop told (Some name) shelf (files_status f)
list_stop name told shelf (files.TooLong long) cause = (ap Some (sym cause.0), cause.1, subst (λ n. IfSome told (λ fs. IsLonger fs most_listed_bytes n)) (sym cause.0) cause.2)
list_stop name told shelf (files.Unreadable read) cause = (ap Some (sym cause.0), cause.1)
list_stop name told shelf files.OutOfMemory cause = tt

-- what is said of the counts from a later moment on is so from an earlier one on
list_stop_from : (told : Told) (after : Option (List ℕ)) (faults middle faults' taken between taken' : ℕ) → faults ≤ middle → taken ≤ between
    → (s : Status) → IsListStop told after (record { faults = middle; faults' = faults'; taken = between; taken' = taken' }) s
    → IsListStop told after (record { faults = faults; faults' = faults'; taken = taken; taken' = taken' }) s
list_stop_from told after faults middle faults' taken between taken' first second (status.TextTooLong long) stop =
    (stop.0, rose_by_later (most_listed_bytes + 1) taken between taken' second stop.1, stop.2)
list_stop_from told after faults middle faults' taken between taken' first second (status.ReadFault name) stop =
    (stop.0, rose_later faults middle faults' first stop.1)
list_stop_from told after faults middle faults' taken between taken' first second (status.AfterRefused line) stop = stop
list_stop_from told after faults middle faults' taken between taken' first second status.OutOfMemory stop = tt
list_stop_from told after faults middle faults' taken between taken' first second (status.Refused r) stop = absurd stop
list_stop_from told after faults middle faults' taken between taken' first second status.Usage stop = absurd stop
list_stop_from told after faults middle faults' taken between taken' first second status.WriteFault stop = absurd stop
list_stop_from told after faults middle faults' taken between taken' first second status.TraceFault stop = absurd stop
list_stop_from told after faults middle faults' taken between taken' first second (status.Finished printed) stop = absurd stop
list_stop_from told after faults middle faults' taken between taken' first second (status.LimitReached printed) stop = absurd stop
list_stop_from told after faults middle faults' taken between taken' first second (status.BudgetSpent kind number printed) stop = absurd stop
list_stop_from told after faults middle faults' taken between taken' first second (status.TermTooLarge line size printed) stop = absurd stop
list_stop_from told after faults middle faults' taken between taken' first second (status.Overflow line op left right printed) stop = absurd stop

-- and what is said of the same files
pub list_stop_later : (told same : Told) → same ≡ told → (after : Option (List ℕ)) (faults middle faults' taken between taken' : ℕ)
    → faults ≤ middle → taken ≤ between
    → (s : Status) → IsListStop same after (record { faults = middle; faults' = faults'; taken = between; taken' = taken' }) s
    → IsListStop told after (record { faults = faults; faults' = faults'; taken = taken; taken' = taken' }) s
list_stop_later told same is after faults middle faults' taken between taken' first second s stop =
    list_stop_from told after faults middle faults' taken between taken' first second s
    (subst (λ t. IsListStop t after (record { faults = middle; faults' = faults'; taken = between; taken' = taken' }) s) is stop)

-- ---- a core

-- the core of a text that is that of a program
pub core_found : (text : List ℕ) (P : List Statement) (r : Result Core Status) → IsBuiltText text P → IfOk r (λ core. core ≡ core_for P)
    → OnOk r (IsSafe P) → OnOk r ((I : List Atom) → HasNoRepeats I → IsAnswerSet P I ↔ HasCoreSets (core_for P) I)
    → IfOk r (λ core. (Q : List Statement) × IsProgramText text Q × IsCoreOf Q core)
core_found text P (Ok core) built is safe sets = (P, program_text text P built safe, record { is = is; answer_sets = sets })
core_found text P (Err s) built is safe sets = tt

-- or why there is none
pub core_stopped : (text : List ℕ) (P : List Statement) (r : Result Core Status) → IsBuiltText text P → IfErr r (IsFaultOf P) → IfErr r (IsStopOf text)
core_stopped text P (Ok core) built fault = tt
core_stopped text P (Err s) built fault = fault_text text P s built fault

-- the core of files whose text is that of a program
pub core_of_files : (told : Told) (names : List (List ℕ)) (text : List ℕ) (r : Result Core Status) → IsTextOf told names text
    → IfOk r (λ core. (P : List Statement) × IsProgramText text P × IsCoreOf P core)
    → IfOk r (λ core. (P : List Statement) × IsProgramOf told names P × IsCoreOf P core)
core_of_files told names text (Ok core) of found = (found.0, (text, of, found.1), found.2)
core_of_files told names text (Err s) of found = tt

pub stop_of_files : (told : Told) (names : List (List ℕ)) (shelf : Counts) (text : List ℕ) (r : Result Core Status) → IsTextOf told names text
    → IfErr r (IsStopOf text) → IfErr r (IsCoreStop told names shelf)
stop_of_files told names shelf text (Ok core) of stop = tt
stop_of_files told names shelf text (Err s) of stop = text_stop names told shelf text s of stop

-- ---- a book

-- where no file of sets is named there are no bytes
pub none_named : (told : Told) → IsListOf told None []
none_named None = tt
none_named (Some files) = refl

-- where one is, they are its
pub one_named : (told : Told) (name bytes : List ℕ) → FileIs told name bytes → length bytes ≤ most_listed_bytes → Each IsFine (ended_lines bytes)
    → IsListOf told (Some name) bytes
one_named None name bytes file within fine = tt
one_named (Some files) name bytes file within fine = (file, within, fine)

-- where the request names none there are none
pub none_there : (told : Told) (after : Option (List ℕ)) → after ≡ None → IsListOf told after []
none_there told after none = subst (λ o. IsListOf told o []) (sym none) (none_named told)

-- and where it names one that was read
pub one_there : (told : Told) (after : Option (List ℕ)) (name spelled bytes whole : List ℕ) → after ≡ Some name → spelled ≡ name
    → FileIs told spelled whole → length whole ≤ most_listed_bytes → bytes ≡ whole → Each IsFine (ended_lines bytes) → IsListOf told after bytes
one_there told after name spelled bytes whole is same file within are fine =
    let named = subst (λ n. FileIs told n whole) same file in
    subst (λ o. IsListOf told o bytes) (sym is)
    (one_named told name bytes (subst (λ b. FileIs told name b) (sym are) named) (subst (λ b. length b ≤ most_listed_bytes) (sym are) within) fine)

-- ---- an outcome

-- nothing was asked for
pub no_request : (told : Told) (shelf : Counts) (sink : SinkChange) (trace : TraceChange) (asks : Option Solve) → asks ≡ None → IsStill sink trace
    → Outcome told shelf sink trace asks status.Usage
no_request told shelf sink trace asks none kept = subst (λ a. Outcome told shelf sink trace a status.Usage) (sym none) (usage kept)

module _ (told : Told) (shelf : Counts) (sink : SinkChange) (trace : TraceChange) (request : Solve) where
  -- there was no core
  pub without_core : (s : Status) → IsCoreStop told request.files shelf s → IsStill sink trace → Outcome told shelf sink trace (Some request) s
  without_core (status.TextTooLong long) stop kept = too_long stop.0 stop.1 stop.2 kept
  without_core (status.ReadFault name) stop kept = unreadable stop.0 stop.1 kept
  without_core (status.Refused r) stop kept = refused stop.0 stop.1 stop.2 kept
  without_core status.OutOfMemory stop kept = no_memory kept
  without_core status.Usage stop kept = absurd stop
  without_core (status.AfterRefused line) stop kept = absurd stop
  without_core status.WriteFault stop kept = absurd stop
  without_core status.TraceFault stop kept = absurd stop
  without_core (status.Finished printed) stop kept = absurd stop
  without_core (status.LimitReached printed) stop kept = absurd stop
  without_core (status.BudgetSpent kind number printed) stop kept = absurd stop
  without_core (status.TermTooLarge line size printed) stop kept = absurd stop
  without_core (status.Overflow line op left right printed) stop kept = absurd stop

  -- there was no book
  pub without_book : (P : List Statement) → IsProgramOf told request.files P → (s : Status) → IsListStop told request.after shelf s
      → IsStill sink trace → Outcome told shelf sink trace (Some request) s
  without_book P of (status.TextTooLong long) stop kept = list_too_long P of stop.0 stop.1 stop.2 kept
  without_book P of (status.ReadFault name) stop kept = list_unreadable stop.0 stop.1 kept
  without_book P of (status.AfterRefused line) stop kept = list_refused P stop.0 stop.1 of stop.2 stop.3 stop.4 stop.5 kept
  without_book P of status.OutOfMemory stop kept = no_memory kept
  without_book P of (status.Refused r) stop kept = absurd stop
  without_book P of status.Usage stop kept = absurd stop
  without_book P of status.WriteFault stop kept = absurd stop
  without_book P of status.TraceFault stop kept = absurd stop
  without_book P of (status.Finished printed) stop kept = absurd stop
  without_book P of (status.LimitReached printed) stop kept = absurd stop
  without_book P of (status.BudgetSpent kind number printed) stop kept = absurd stop
  without_book P of (status.TermTooLarge line size printed) stop kept = absurd stop
  without_book P of (status.Overflow line op left right printed) stop kept = absurd stop

  -- the file of the journal wasn't named
  pub without_name : (P : List Statement) → IsProgramOf told request.files P → (bytes : List ℕ) → IsListOf told request.after bytes
      → (s : Status) → IsTraceStop trace.faults trace.faults' s → IsStill sink trace → Outcome told shelf sink trace (Some request) s
  without_name P of bytes list status.TraceFault stop kept = unnamed P bytes of list stop kept
  without_name P of bytes list status.OutOfMemory stop kept = no_memory kept
  without_name P of bytes list (status.TextTooLong long) stop kept = absurd stop
  without_name P of bytes list (status.ReadFault name) stop kept = absurd stop
  without_name P of bytes list (status.AfterRefused line) stop kept = absurd stop
  without_name P of bytes list (status.Refused r) stop kept = absurd stop
  without_name P of bytes list status.Usage stop kept = absurd stop
  without_name P of bytes list status.WriteFault stop kept = absurd stop
  without_name P of bytes list (status.Finished printed) stop kept = absurd stop
  without_name P of bytes list (status.LimitReached printed) stop kept = absurd stop
  without_name P of bytes list (status.BudgetSpent kind number printed) stop kept = absurd stop
  without_name P of bytes list (status.TermTooLarge line size printed) stop kept = absurd stop
  without_name P of bytes list (status.Overflow line op left right printed) stop kept = absurd stop

  -- all was searched, from where the journal's file was named on
  pub with_search : (P : List Statement) → IsProgramOf told request.files P → (bytes : List ℕ) → IsListOf told request.after bytes
      → (core : Core) → IsCoreOf P core → (book : List (List ℕ)) → IsBookOf bytes book → (s : Status) → (named : Option Journal)
      → named ≡ begun request.trace trace.told → (faults : ℕ) → trace.faults ≤ faults
      → ((k : Task) → IsCoreOf k.program core → k.settings ≡ request.settings → AreLinesOfSets book k.listed
      → Searched k sink (record { told = named; told' = trace.told'; faults = faults; faults' = trace.faults' }) s)
      → Outcome told shelf sink trace (Some request) s
  with_search P of bytes list core is book lines s named from faults later all =
      searched P bytes of list lines.some.0 lines.some.1 (λ k it.
      subst (λ t. Searched k sink (record trace { told = t }) s) from
      (searched_from k sink named trace.told' trace.faults faults trace.faults' later s
      (all k (subst (λ Q. IsCoreOf Q core) (sym it.program) is) it.settings_are
      (lines.each k.listed (subst (λ bs. AreListed bs k.listed) it.list k.are_listed)))))
