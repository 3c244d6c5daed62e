-- What the work of a run comes to, by its status: its cause, what it wrote and what it noted. The promises of a run follow from it.
use Rattle.std.specs.Prelude.{◌≡◌, ◌⊎◌, ◌↔◌, ◌+◌, ◌<◌, ◌≤◌, ℕ, List, [], ◌∷◌, ◌++◌, length, take, Option, Some, None, IfSome}
use Rattle.std.specs.Io.KnownBytes.{Appends, Keeps}
use Rattle.lists.specs.Lists.{◌∈◌, Each, HasNoRepeats, concat}
use Rattle.alpha_outside.specs.Outside.{Rose, RoseBy, FileIs}
use Rattle.asp_syntax.specs.declared.tree.Statement.{Statement}
use Rattle.asp_meaning.specs.Atoms.{Atom}
use Rattle.asp_meaning.specs.Programs.{IsAnswerSet}
use Rattle.asp_meaning.specs.Output.{IsBraceLine}
use Rattle.journal_theory.specs.Journals.{IsFinished}
use Rattle.core_rules.specs.declared.rules.Core.{Core}
use Rattle.core_meaning.specs.AnswerSets.{HasCoreSets}
use Rattle.search_rules.specs.Faults.{IsOverflow, IsTooLarge}
use Rattle.search_journals.specs.Journals.{Step}
use Rattle.search_journals.specs.Search.{SinkChange, TraceChange, AreLinesOfSets, Journaled}
use Rattle.search_journals.specs.declared.ends.End.{End}
use Rattle.search_journals.specs.declared.ends.End.TheVariants as end
use Rattle.search_settings.specs.declared.Settings.{Settings}
use Rattle.program_files.specs.Files.{Told, most_bytes, most_listed_bytes, MakesTooLong, IsLonger}
use Rattle.program_files.specs.declared.fault.FilesFault.{FilesFault}
use Rattle.program_files.specs.declared.fault.FilesFault.TheVariants as files
use Rattle.command_line.specs.declared.request.Solve.{Solve}
use Rattle.after_book.specs.Listed.{IsFirstRefused}
use Rattle.alpha.specs.Journals.{Task, AreListed, core_for, state_after, used_in, most_of, HasOneMore}
use Rattle.alpha.specs.Texts.{last_line_of}
use Rattle.alpha.specs.TextAnswers.{IsRefusedText}
use Rattle.alpha.specs.Promises.{Counts, IsNewLine, HaveAllOthers, IsTextOf, IsProgramOf, IsListOf, IsLastLine, begun}
use Rattle.alpha.specs.declared.status.BudgetKind.TheVariants as budget
use Rattle.alpha.specs.declared.status.Refusal.{Refusal}
use Rattle.alpha.specs.declared.status.Status.{Status}
use Rattle.alpha.specs.declared.status.Status.TheVariants as status

-- nothing was written or noted
pub record IsStill (sink : SinkChange) (trace : TraceChange) : Type 0 where
  pub bytes : Keeps sink.held sink.held'
  pub events : trace.told' ≡ trace.told

-- ---- a search

-- the core of the program, whose answer sets it has
pub record IsCoreOf (P : List Statement) (core : Core) : Type 0 where
  pub is : core ≡ core_for P
  pub answer_sets : (I : List Atom) → HasNoRepeats I → IsAnswerSet P I ↔ HasCoreSets (core_for P) I

-- the status of a search with these settings that ended by itself
abbrev pub status_of : Settings → End → Status
status_of settings (end.Finished printed) = status.Finished printed
status_of settings (end.LimitReached printed) = status.LimitReached printed
status_of settings (end.Conflicts printed) = status.BudgetSpent budget.Conflicts settings.conflicts printed
status_of settings (end.Instances printed) = status.BudgetSpent budget.Instances settings.instances printed
status_of settings (end.Overflow line op left right printed) = status.Overflow line op left right printed
status_of settings (end.TermTooLarge line size printed) = status.TermTooLarge line size printed

-- lines of answer sets that aren't listed, no two of them equal
pub record AreNewLines (k : Task) (lines : List (List ℕ)) : Type 0 where
  pub each : Each (IsNewLine k) lines
  pub once : HasNoRepeats lines
  pub whole : Each IsBraceLine lines

-- how a run ends by itself, after these lines and this journal: at the limit exactly where as many lines were written
abbrev pub EndsAs : Task → List (List ℕ) → List Step → Status → Type 0
EndsAs k lines journal (status.Finished printed) =
    (printed ≡ length lines) × (length lines < k.settings.limit) × HaveAllOthers k lines × IsFinished (state_after k journal)
EndsAs k lines journal (status.LimitReached printed) = (printed ≡ length lines) × (k.settings.limit ≡ length lines)
EndsAs k lines journal (status.BudgetSpent kind number printed) =
    (printed ≡ length lines) × (length lines < k.settings.limit) × (number ≡ most_of kind k.settings) × (used_in kind journal ≡ number)
    × HasOneMore kind (core_for k.program) (state_after k journal)
EndsAs k lines journal (status.Overflow line op left right printed) =
    (printed ≡ length lines) × (length lines < k.settings.limit) × IsOverflow (core_for k.program) (state_after k journal) line op left right
EndsAs k lines journal (status.TermTooLarge line size printed) =
    (printed ≡ length lines) × (length lines < k.settings.limit) × IsTooLarge (core_for k.program) (state_after k journal) line size
EndsAs k lines journal _ = ⊥

-- the lines of answer sets, as the journal says, and then the last line
pub record WroteAll (k : Task) (sink : SinkChange) (trace : TraceChange) (s : Status) : Type 0 where
  pub lines : List (List ℕ)
  pub bytes : Appends sink.held sink.held' (concat lines ++ last_line_of s)
  pub sets : AreNewLines k lines
  pub journaled : Journaled (core_for k.program) k.listed trace lines
  pub ends : EndsAs k lines journaled.journal s

-- the lines of answer sets, as the journal says
pub record Wrote (k : Task) (sink : SinkChange) (trace : TraceChange) : Type 0 where
  pub lines : List (List ℕ)
  pub bytes : Appends sink.held sink.held' (concat lines)
  pub sets : AreNewLines k lines
  pub journaled : Journaled (core_for k.program) k.listed trace lines

-- and then the whole line of another one, which isn't in the journal
pub record WroteOneMore (k : Task) (sink : SinkChange) (trace : TraceChange) : Type 0 where
  pub lines : List (List ℕ)
  pub next : List ℕ
  pub bytes : Appends sink.held sink.held' (concat (lines ++ next ∷ []))
  pub sets : AreNewLines k (lines ++ next ∷ [])
  pub journaled : Journaled (core_for k.program) k.listed trace lines

-- either, with fewer lines in the journal than may be written
abbrev pub WroteFewer : Task → SinkChange → TraceChange → Type 0
WroteFewer k sink trace = ((w : Wrote k sink trace) × (length w.lines < k.settings.limit)) ⊎ ((w : WroteOneMore k sink trace) × (length w.lines < k.settings.limit))

-- the line of another answer set than these, or the last line behind them
abbrev pub IsNext : Task → List (List ℕ) → List ℕ → Type 0
IsNext k lines next = (IsNewLine k next × IsBraceLine next × (¬ (next ∈ lines))) ⊎ IsLastLine (length lines) next

-- the lines of answer sets, as the journal says, and then a front of another one or of the last line
pub record WroteFront (k : Task) (sink : SinkChange) (trace : TraceChange) : Type 0 where
  pub lines : List (List ℕ)
  pub next : List ℕ
  pub cut : ℕ
  pub bytes : Appends sink.held sink.held' (concat lines ++ take cut next)
  pub sets : AreNewLines k lines
  pub journaled : Journaled (core_for k.program) k.listed trace lines
  pub next_is : IsNext k lines next

-- what came of a task, by the status: the search ended by itself, or the output, the trace or memory stopped it
pub data Searched (k : Task) (sink : SinkChange) (trace : TraceChange) : Status → Type 0 where
  ended : {s : Status} → WroteAll k sink trace s → Searched k sink trace s
  cut_off : Rose sink.faults sink.faults' → WroteFront k sink trace → Searched k sink trace status.WriteFault
  untraced : Rose trace.faults trace.faults' → WroteFewer k sink trace → Searched k sink trace status.TraceFault
  memory : Wrote k sink trace ⊎ WroteOneMore k sink trace → Searched k sink trace status.OutOfMemory
  cut_off_memory : Rose sink.faults sink.faults' → WroteFront k sink trace → Searched k sink trace status.OutOfMemory

-- ---- what is read before

-- the status for files that give no text
abbrev pub files_status : FilesFault → Status
files_status (files.TooLong name) = status.TextTooLong name
files_status (files.Unreadable name) = status.ReadFault name
files_status files.OutOfMemory = status.OutOfMemory

-- why there is no core: a file is too long or can't be read, or their text is refused
abbrev pub IsCoreStop : Told → List (List ℕ) → Counts → Status → Type 0
IsCoreStop told names shelf (status.TextTooLong long) =
    (long ∈ names) × RoseBy (most_bytes + 1) shelf.taken shelf.taken' × IfSome told (λ files. MakesTooLong files names long)
IsCoreStop told names shelf (status.ReadFault name) = (name ∈ names) × Rose shelf.faults shelf.faults'
IsCoreStop told names shelf (status.Refused r) = (text : List ℕ) × IsTextOf told names text × IsRefusedText text r
IsCoreStop told names shelf status.OutOfMemory = Unit {0}
IsCoreStop told names shelf _ = ⊥

-- why there is no book: the file of sets is too long or can't be read, or a line of it is refused
abbrev pub IsListStop : Told → Option (List ℕ) → Counts → Status → Type 0
IsListStop told after shelf (status.TextTooLong long) = (after ≡ Some long) × RoseBy (most_listed_bytes + 1) shelf.taken shelf.taken'
    × IfSome told (λ files. IsLonger files most_listed_bytes long)
IsListStop told after shelf (status.ReadFault name) = (after ≡ Some name) × Rose shelf.faults shelf.faults'
IsListStop told after shelf (status.AfterRefused line) = (name : List ℕ) × (bytes : List ℕ) × (after ≡ Some name) × FileIs told name bytes
    × (length bytes ≤ most_listed_bytes) × IsFirstRefused bytes line
IsListStop told after shelf status.OutOfMemory = Unit {0}
IsListStop told after shelf _ = ⊥

-- why no file was named to the trace; the counts are those of its faults, before and after
abbrev pub IsTraceStop : ℕ → ℕ → Status → Type 0
IsTraceStop faults faults' status.TraceFault = Rose faults faults'
IsTraceStop faults faults' status.OutOfMemory = Unit {0}
IsTraceStop faults faults' _ = ⊥

-- the book has the lines of the sets that the bytes list
pub record IsBookOf (bytes : List ℕ) (book : List (List ℕ)) : Type 0 where
  pub some : (A : List (List Atom)) × AreListed bytes A
  pub each : (A : List (List Atom)) → AreListed bytes A → AreLinesOfSets book A

-- ---- a run

-- the task is this one
pub record IsTaskFor (P : List Statement) (bytes : List ℕ) (settings : Settings) (k : Task) : Type 0 where
  pub program : k.program ≡ P
  pub list : k.bytes ≡ bytes
  pub settings_are : k.settings ≡ settings

-- what came of the words and the told files, by the status: something was refused, or its task was searched
pub data Outcome (told : Told) (shelf : Counts) (sink : SinkChange) (trace : TraceChange) : Option Solve → Status → Type 0 where
  usage : IsStill sink trace → Outcome told shelf sink trace None status.Usage
  no_memory : {asks : Option Solve} → IsStill sink trace → Outcome told shelf sink trace asks status.OutOfMemory
  -- the program files, in order
  too_long :
      {request : Solve} {long : List ℕ} → long ∈ request.files → RoseBy (most_bytes + 1) shelf.taken shelf.taken'
      → IfSome told (λ files. MakesTooLong files request.files long) → IsStill sink trace
      → Outcome told shelf sink trace (Some request) (status.TextTooLong long)
  unreadable :
      {request : Solve} {name : List ℕ} → name ∈ request.files → Rose shelf.faults shelf.faults' → IsStill sink trace
      → Outcome told shelf sink trace (Some request) (status.ReadFault name)
  -- their text
  refused :
      {request : Solve} {r : Refusal} (text : List ℕ) → IsTextOf told request.files text → IsRefusedText text r → IsStill sink trace
      → Outcome told shelf sink trace (Some request) (status.Refused r)
  -- the file of sets
  list_too_long :
      {request : Solve} {long : List ℕ} (P : List Statement) → IsProgramOf told request.files P → request.after ≡ Some long
      → RoseBy (most_listed_bytes + 1) shelf.taken shelf.taken'
      → IfSome told (λ files. IsLonger files most_listed_bytes long) → IsStill sink trace
      → Outcome told shelf sink trace (Some request) (status.TextTooLong long)
  list_unreadable :
      {request : Solve} {name : List ℕ} → request.after ≡ Some name → Rose shelf.faults shelf.faults' → IsStill sink trace
      → Outcome told shelf sink trace (Some request) (status.ReadFault name)
  list_refused :
      {request : Solve} {line : ℕ} (P : List Statement) (name bytes : List ℕ) → IsProgramOf told request.files P → request.after ≡ Some name
      → FileIs told name bytes → length bytes ≤ most_listed_bytes → IsFirstRefused bytes line → IsStill sink trace
      → Outcome told shelf sink trace (Some request) (status.AfterRefused line)
  -- the file of the journal
  unnamed :
      {request : Solve} (P : List Statement) (bytes : List ℕ) → IsProgramOf told request.files P → IsListOf told request.after bytes
      → Rose trace.faults trace.faults' → IsStill sink trace → Outcome told shelf sink trace (Some request) status.TraceFault
  -- the search, of whatever task is one of this program, of the sets that these bytes list, and of these settings
  searched :
      {request : Solve} {s : Status} (P : List Statement) (bytes : List ℕ) → IsProgramOf told request.files P → IsListOf told request.after bytes
      → (A : List (List Atom)) → AreListed bytes A
      → ((k : Task) → IsTaskFor P bytes request.settings k → Searched k sink (record trace { told = begun request.trace trace.told }) s)
      → Outcome told shelf sink trace (Some request) s
