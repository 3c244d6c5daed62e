-- What the clauses of a run say.
use Rattle.std.specs.Prelude.{◌≡◌, ◌⊎◌, ◌<◌, ◌≤◌, ◌+◌, ℕ, List, [], ◌++◌, length, take, option_map, Option, Some, None, IfSome}
use Rattle.lists.specs.Lists.{◌∈◌, Each, HasNoRepeats, concat}
use Rattle.alpha_outside.specs.declared.event.Event.{Event}
use Rattle.alpha_outside.specs.Outside.{Rose, RoseBy, FileIs, Journal, named}
use Rattle.program_files.specs.Files.{Told, most_bytes, most_listed_bytes, IsJoinedText, MakesTooLong, IsLonger}
use Rattle.command_line.specs.declared.request.Solve.{Solve}
use Rattle.after_book.specs.Parts.{ended_lines, IsFine}
use Rattle.after_book.specs.Listed.{IsFirstRefused}
use Rattle.asp_syntax.specs.declared.tree.Statement.{Statement}
use Rattle.asp_meaning.specs.Atoms.{Atom}
use Rattle.asp_meaning.specs.Programs.{IsAnswerSet}
use Rattle.asp_meaning.specs.Lines.{IsSetLine}
use Rattle.search_journals.specs.Search.{SinkChange, TraceChange, IsAmong}
use Rattle.alpha.specs.TextAnswers.{IsProgramText, IsRefusedText}
use Rattle.alpha.specs.Texts.{last_line_of, message_of}
use Rattle.alpha.specs.Journals.{Task, most_of, HasSpent, HasEnded, HasOverflow, HasTooLarge}
use Rattle.alpha.specs.declared.status.Refusal.{Refusal}
use Rattle.alpha.specs.declared.status.Status.{Status}
use Rattle.alpha.specs.declared.status.Status.TheVariants as status

-- ---- what is asked, and of which files

-- these are the bytes of the file of sets that aren't to be printed, each line of which may stand there; or none, where no such file is named
abbrev pub IsListFile : (List ℕ → Option (List ℕ)) → Option (List ℕ) → List ℕ → Type 0
IsListFile files None bytes = bytes ≡ []
IsListFile files (Some name) bytes = (files name ≡ Some bytes) × (length bytes ≤ most_listed_bytes) × Each IsFine (ended_lines bytes)

-- the words ask for files that are told and within their limits: the program files have the program's joined text, and the file of sets lists
-- those of the task
pub record IsAccepted (asks : Option Solve) (told : Told) (k : Task) : Type 0 where
  pub request : Solve
  pub files : List ℕ → Option (List ℕ)
  pub text : List ℕ
  pub asked : asks ≡ Some request
  pub told_is : told ≡ Some files
  pub joined : IsJoinedText files request.files text
  pub program : IsProgramText text k.program
  pub list : IsListFile files request.after k.bytes
  pub settings : k.settings ≡ request.settings

-- the words ask for program files that are told and within their limit, and their joined text is refused for this
pub record IsRefusedFile (asks : Option Solve) (told : Told) (refusal : Refusal) : Type 0 where
  pub request : Solve
  pub files : List ℕ → Option (List ℕ)
  pub text : List ℕ
  pub asked : asks ≡ Some request
  pub told_is : told ≡ Some files
  pub joined : IsJoinedText files request.files text
  pub refused : IsRefusedText text refusal

-- the words ask for program files that are told, of which this one makes them too long
pub record IsOverlong (asks : Option Solve) (told : Told) (name : List ℕ) : Type 0 where
  pub request : Solve
  pub files : List ℕ → Option (List ℕ)
  pub asked : asks ≡ Some request
  pub told_is : told ≡ Some files
  pub above : MakesTooLong files request.files name

-- the words ask for program files that are told and are those of a program, and for this file of sets beside them, which is told
pub record IsBesideList (asks : Option Solve) (told : Told) (name bytes : List ℕ) : Type 0 where
  pub request : Solve
  pub files : List ℕ → Option (List ℕ)
  pub text : List ℕ
  pub program : List Statement
  pub asked : asks ≡ Some request
  pub told_is : told ≡ Some files
  pub joined : IsJoinedText files request.files text
  pub program_is : IsProgramText text program
  pub after : request.after ≡ Some name
  pub file : files name ≡ Some bytes

-- such a file is too long
abbrev pub IsOverlongList : Option Solve → Told → List ℕ → Type 0
IsOverlongList asks told name = (bytes : List ℕ) × IsBesideList asks told name bytes × (most_listed_bytes < length bytes)

-- or, within its limit, it is refused for this line
abbrev pub IsRefusedList : Option Solve → Told → ℕ → Type 0
IsRefusedList asks told line =
    (name : List ℕ) × (bytes : List ℕ) × IsBesideList asks told name bytes × (length bytes ≤ most_listed_bytes) × IsFirstRefused bytes line

-- where the files are told, this is the joined text of those of these names
abbrev pub IsTextOf : Told → List (List ℕ) → List ℕ → Type 0
IsTextOf told names text = IfSome told (λ files. IsJoinedText files names text)

-- and it is that of P
abbrev pub IsProgramOf : Told → List (List ℕ) → List Statement → Type 0
IsProgramOf told names P = (text : List ℕ) × IsTextOf told names text × IsProgramText text P

-- where the files are told, these are the bytes of the file of sets
abbrev pub IsListOf : Told → Option (List ℕ) → List ℕ → Type 0
IsListOf told after bytes = IfSome told (λ files. IsListFile files after bytes)

-- the words ask for this, and where the files are told, they are those of the task
pub record IsTaskOf (asks : Option Solve) (told : Told) (k : Task) : Type 0 where
  pub request : Solve
  pub asked : asks ≡ Some request
  pub program : IsProgramOf told request.files k.program
  pub list : IsListOf told request.after k.bytes
  pub settings : k.settings ≡ request.settings

-- ---- what is printed

-- the line of an answer set of the program that isn't listed
pub record IsNewLine (k : Task) (line : List ℕ) : Type 0 where
  pub set : List Atom
  pub answer_set : IsAnswerSet k.program set
  pub unlisted : ¬ IsAmong k.listed set
  pub is : IsSetLine set line

-- every answer set is listed, or has its line among these
abbrev pub HaveAllOthers : Task → List (List ℕ) → Type 0
HaveAllOthers k lines = (I : List Atom) → IsAnswerSet k.program I → IsAmong k.listed I ⊎ ((line : List ℕ) × (line ∈ lines) × IsSetLine I line)

-- ---- what is written

-- the sink tells its bytes, and these were appended
abbrev pub IsAppended : Option (List ℕ) → Option (List ℕ) → List ℕ → Type 0
IsAppended held held' b = (before : List ℕ) × (held ≡ Some before) × (held' ≡ Some (before ++ b))

-- where the sink tells its bytes, it goes on to tell them, and all that became of them is that some were appended, or none
abbrev pub OnlyAppends : Option (List ℕ) → Option (List ℕ) → Type 0
OnlyAppends held held' = IfSome held (λ _. (b : List ℕ) × IsAppended held held' b)

-- the line of some set
abbrev pub IsLineOfSet : List ℕ → Type 0
IsLineOfSet line = (I : List Atom) × HasNoRepeats I × IsSetLine I line

-- whole set lines
pub record IsSetLines (b : List ℕ) : Type 0 where
  pub lines : List (List ℕ)
  pub bytes : b ≡ concat lines
  pub sets : Each IsLineOfSet lines

-- the lines of so many sets, and then the last line
pub record IsWholeOutput (s : Status) (printed : ℕ) (b : List ℕ) : Type 0 where
  pub lines : List (List ℕ)
  pub bytes : b ≡ concat lines ++ last_line_of s
  pub sets : Each IsLineOfSet lines
  pub count : printed ≡ length lines

-- a run with this status has a last line, which says so many
abbrev pub HasPrinted : ℕ → Status → Type 0
HasPrinted n (status.Finished printed) = printed ≡ n
HasPrinted n (status.LimitReached printed) = printed ≡ n
HasPrinted n (status.BudgetSpent kind number printed) = printed ≡ n
HasPrinted n (status.TermTooLarge line size printed) = printed ≡ n
HasPrinted n (status.Overflow line op left right printed) = printed ≡ n
HasPrinted n _ = ⊥

-- a last line that says so many
abbrev pub IsLastLine : ℕ → List ℕ → Type 0
IsLastLine printed line = (s : Status) × HasPrinted printed s × (line ≡ last_line_of s)

-- whole set lines, and then a front of a set line or of the last line
pub record IsCutOutput (b : List ℕ) : Type 0 where
  pub lines : List (List ℕ)
  pub next : List ℕ
  pub cut : ℕ
  pub bytes : b ≡ concat lines ++ take cut next
  pub sets : Each IsLineOfSet lines
  pub next_is : IsLineOfSet next ⊎ IsLastLine (length lines) next

-- the bytes that a run with this status appends to the output, by its sink's count of faults before and after
abbrev pub OutputIs : ℕ → ℕ → Status → List ℕ → Type 0
OutputIs faults faults' (status.Finished printed) b = IsWholeOutput (status.Finished printed) printed b
OutputIs faults faults' (status.LimitReached printed) b = IsWholeOutput (status.LimitReached printed) printed b
OutputIs faults faults' (status.BudgetSpent kind number printed) b = IsWholeOutput (status.BudgetSpent kind number printed) printed b
OutputIs faults faults' (status.TermTooLarge line size printed) b = IsWholeOutput (status.TermTooLarge line size printed) printed b
OutputIs faults faults' (status.Overflow line op left right printed) b = IsWholeOutput (status.Overflow line op left right printed) printed b
OutputIs faults faults' status.WriteFault b = IsCutOutput b
OutputIs faults faults' status.TraceFault b = IsSetLines b
OutputIs faults faults' status.OutOfMemory b = IsSetLines b ⊎ (Rose faults faults' × IsCutOutput b)
OutputIs faults faults' status.Usage b = b ≡ []
OutputIs faults faults' (status.Refused r) b = b ≡ []
OutputIs faults faults' (status.TextTooLong name) b = b ≡ []
OutputIs faults faults' (status.ReadFault name) b = b ≡ []
OutputIs faults faults' (status.AfterRefused line) b = b ≡ []

-- a front of these bytes, perhaps empty or whole
abbrev pub IsFront : List ℕ → List ℕ → Type 0
IsFront b whole = (cut : ℕ) × (b ≡ take cut whole)

-- the status's message, or a front of it where the count of faults rose; at want of memory a front of it
abbrev pub MessageIs : ℕ → ℕ → Status → List ℕ → Type 0
MessageIs faults faults' status.OutOfMemory m = IsFront m (message_of status.OutOfMemory)
MessageIs faults faults' s m = (m ≡ message_of s) ⊎ (Rose faults faults' × IsFront m (message_of s))

-- ---- what is noted

-- what a trace tells after the file of this name was named to it, if one was
abbrev pub begun : Option (List ℕ) → Option Journal → Option Journal
begun None told = told
begun (Some name) told = option_map (named name) told

-- the file that the words name for the journal
abbrev pub trace_name : Option Solve → Option (List ℕ)
trace_name None = None
trace_name (Some request) = request.trace

-- the trace tells its events, and these were appended
abbrev pub IsNoted : Option Journal → Option Journal → List Event → Type 0
IsNoted told told' E = (before : Journal) × (now : Journal) × (told ≡ Some before) × (told' ≡ Some now) × (now.events ≡ before.events ++ E)

-- where the trace tells its events, it goes on to tell them, and all that became of them is that some were appended, or none
abbrev pub OnlyNotes : Option Journal → Option Journal → Type 0
OnlyNotes told told' = IfSome told (λ _. (E : List Event) × IsNoted told told' E)

-- where the trace tells the name of its file, it is this one
abbrev pub NameIs : List ℕ → Option Journal → Type 0
NameIs name told = IfSome told (λ now. now.name ≡ Some name)

-- where the trace tells the name of its file, it is what it was
abbrev pub NameIsKept : Option Journal → Option Journal → Type 0
NameIsKept told told' = IfSome told (λ before. IfSome told' (λ now. now.name ≡ before.name))

-- the name that the trace tells after a run with this status: that of the file that the words name, where a search ended by itself or writing
-- failed; else it may also be what it was. Where the words name none, it is what it was
abbrev pub TraceNameIs : Option (List ℕ) → Option Journal → Option Journal → Status → Type 0
TraceNameIs None told told' s = NameIsKept told told'
TraceNameIs (Some name) told told' (status.Finished printed) = NameIs name told'
TraceNameIs (Some name) told told' (status.LimitReached printed) = NameIs name told'
TraceNameIs (Some name) told told' (status.BudgetSpent kind number printed) = NameIs name told'
TraceNameIs (Some name) told told' (status.Overflow line op left right printed) = NameIs name told'
TraceNameIs (Some name) told told' (status.TermTooLarge line size printed) = NameIs name told'
TraceNameIs (Some name) told told' status.WriteFault = NameIs name told'
TraceNameIs (Some name) told told' s = NameIsKept told told' ⊎ NameIs name told'

-- the status of a run that searched nothing
abbrev pub IsUnsearched : Status → Type 0
IsUnsearched status.Usage = Unit {0}
IsUnsearched (status.Refused r) = Unit {0}
IsUnsearched (status.TextTooLong name) = Unit {0}
IsUnsearched (status.ReadFault name) = Unit {0}
IsUnsearched (status.AfterRefused line) = Unit {0}
IsUnsearched _ = ⊥

-- ---- which status comes

-- the status of a run in which nothing outside failed, and whose words and file were accepted
abbrev pub IsEnded : Status → Type 0
IsEnded (status.Finished printed) = Unit {0}
IsEnded (status.LimitReached printed) = Unit {0}
IsEnded (status.BudgetSpent kind number printed) = Unit {0}
IsEnded (status.TermTooLarge line size printed) = Unit {0}
IsEnded (status.Overflow line op left right printed) = Unit {0}
IsEnded status.OutOfMemory = Unit {0}
IsEnded _ = ⊥

-- the status of a run whose words are refused
abbrev pub IsRefusedWords : Status → Type 0
IsRefusedWords status.Usage = Unit {0}
IsRefusedWords status.OutOfMemory = Unit {0}
IsRefusedWords _ = ⊥

-- the status is this one, or there was no memory
abbrev pub Gives : Status → Status → Type 0
Gives s wanted = (s ≡ wanted) ⊎ (s ≡ status.OutOfMemory)

-- the counts of a shelf, before and after: faults, and bytes taken
pub record Counts : Type 0 where
  pub faults : ℕ
  pub faults' : ℕ
  pub taken : ℕ
  pub taken' : ℕ

-- the words ask for program files, and where the files are told, they are those of some program
abbrev pub IsOfProgram : Option Solve → Told → Type 0
IsOfProgram asks told = (request : Solve) × (asks ≡ Some request) × ((P : List Statement) × IsProgramOf told request.files P)

-- the task of a search, and the trace from where its file was named on
abbrev pub IsSearched : Option Solve → Told → TraceChange → (Task → TraceChange → Type 0) → Type 0
IsSearched asks told trace IsSo = (k : Task) × IsTaskOf asks told k × IsSo k (record trace { told = begun (trace_name asks) trace.told })

-- Each status but want of memory comes only by its cause: for the words, the told files, and the shelf, the output's sink and the trace
-- before and after the run. A search that ends by itself reaches the limit exactly where it wrote as many sets.
abbrev pub IsCaused : Option Solve → Told → Counts → SinkChange → TraceChange → Status → Type 0
IsCaused asks told shelf sink trace (status.Finished printed) =
    IsSearched asks told trace (λ k t. (printed < k.settings.limit) × HasEnded k t)
IsCaused asks told shelf sink trace (status.LimitReached printed) = IsSearched asks told trace (λ k t. printed ≡ k.settings.limit)
IsCaused asks told shelf sink trace (status.BudgetSpent kind number printed) =
    IsSearched asks told trace (λ k t. (printed < k.settings.limit) × (number ≡ most_of kind k.settings) × HasSpent k t kind number)
IsCaused asks told shelf sink trace (status.Overflow line op left right printed) =
    IsSearched asks told trace (λ k t. (printed < k.settings.limit) × HasOverflow k t line op left right)
IsCaused asks told shelf sink trace (status.TermTooLarge line size printed) =
    IsSearched asks told trace (λ k t. (printed < k.settings.limit) × HasTooLarge k t line size)
IsCaused asks told shelf sink trace status.Usage = asks ≡ None
IsCaused asks told shelf sink trace (status.Refused refusal) =
    (request : Solve) × (asks ≡ Some request) × ((text : List ℕ) × IsTextOf told request.files text × IsRefusedText text refusal)
IsCaused asks told shelf sink trace (status.AfterRefused line) =
    (request : Solve) × (asks ≡ Some request) × ((P : List Statement) × IsProgramOf told request.files P)
    × ((name : List ℕ) × (bytes : List ℕ) × (request.after ≡ Some name) × FileIs told name bytes × IsFirstRefused bytes line)
IsCaused asks told shelf sink trace (status.TextTooLong long) = (request : Solve) × (asks ≡ Some request)
    × (((long ∈ request.files) × RoseBy (most_bytes + 1) shelf.taken shelf.taken' × IfSome told (λ files. MakesTooLong files request.files long))
    ⊎ ((request.after ≡ Some long) × RoseBy (most_listed_bytes + 1) shelf.taken shelf.taken' × IsOfProgram asks told
    × IfSome told (λ files. IsLonger files most_listed_bytes long)))
IsCaused asks told shelf sink trace (status.ReadFault name) = (request : Solve) × (asks ≡ Some request)
    × ((name ∈ request.files) ⊎ (request.after ≡ Some name)) × Rose shelf.faults shelf.faults'
IsCaused asks told shelf sink trace status.WriteFault = Rose sink.faults sink.faults' × IsOfProgram asks told
IsCaused asks told shelf sink trace status.TraceFault = Rose trace.faults trace.faults' × IsOfProgram asks told
IsCaused asks told shelf sink trace status.OutOfMemory = Unit {0}
