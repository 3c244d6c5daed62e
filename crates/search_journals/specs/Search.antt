-- What a search writes and tells, by its answer.
use Rattle.std.specs.Prelude.{◌≡◌, ◌⊎◌, ◌<◌, ◌≤◌, ℕ, List, [], ◌∷◌, ◌++◌, map, length, take, reverse, Option, Result, Ok, Err}
use Rattle.std.specs.Io.KnownBytes.{Appends}
use Rattle.lists.specs.Lists.{◌∈◌, Each, HasNoRepeats, SameSet, concat}
use Rattle.alpha_outside.specs.Outside as outside
use Rattle.alpha_outside.specs.Outside.{Rose}
use Rattle.asp_meaning.specs.Atoms.{Atom}
use Rattle.asp_meaning.specs.Lines.{IsSetLine}
use Rattle.asp_meaning.specs.Output.{IsBraceLine}
use Rattle.asp_meaning.specs.Readable.{IsReadable}
use Rattle.core_rules.specs.declared.rules.Core.{Core}
use Rattle.core_meaning.specs.Atoms.{GroundAtom, User}
use Rattle.core_meaning.specs.AnswerSets.{HasCoreSets}
use Rattle.journal_theory.specs.States.{State}
use Rattle.journal_theory.specs.Journals.{Legal, replay, IsFinished}
use Rattle.search_rules.specs.Rules.{search_rules}
use Rattle.search_rules.specs.Faults.{IsOverflow, IsTooLarge}
use Rattle.search_journals.specs.Journals.{Step, Tells, strikes, makes, SomeStruck, IsSomeDue, AreLinesOf}
use Rattle.search_settings.specs.declared.Settings.{Settings}
use Rattle.search_journals.specs.declared.ends.End.{End}
use Rattle.search_journals.specs.declared.ends.End.TheVariants.{Finished, LimitReached, Conflicts, Instances, Overflow, TermTooLarge}
use Rattle.search_journals.specs.declared.ends.SearchFault.{SearchFault}
use Rattle.search_journals.specs.declared.ends.SearchFault.TheVariants.{WriteFault, TraceFault, OutOfMemory}

-- a sink before and after the call: the bytes that it holds, and its count of faults
pub record SinkChange : Type 0 where
  pub held : Option (List ℕ)
  pub held' : Option (List ℕ)
  pub faults : ℕ
  pub faults' : ℕ

-- a trace before and after the call
pub record TraceChange : Type 0 where
  pub told : Option outside.Journal
  pub told' : Option outside.Journal
  pub faults : ℕ
  pub faults' : ℕ

-- ---- sets that are listed

-- these lines are those of these sets, whose names and texts are those of the language: each set has a line among them, and each line is
-- that of a set
pub record AreLinesOfSets (lines : List (List ℕ)) (A : List (List Atom)) : Type 0 where
  pub line_of : (I : List Atom) → I ∈ A → (line : List ℕ) × (line ∈ lines) × Each IsReadable I × IsSetLine I line
  pub set_of : (line : List ℕ) → line ∈ lines → (I : List Atom) × (I ∈ A) × Each IsReadable I × IsSetLine I line

-- the set is one of these
abbrev pub IsAmong : List (List Atom) → List Atom → Type 0
IsAmong A I = (J : List Atom) × (J ∈ A) × SameSet I J

-- the same sets, as atoms of a core
abbrev pub core_sets : List (List Atom) → List (List GroundAtom)
core_sets A = map (map User) A

-- ---- lines

-- the line of the atoms of the program in a core answer set that isn't listed
pub record IsCoreSetLine (core : Core) (A : List (List Atom)) (line : List ℕ) : Type 0 where
  pub set : List Atom
  pub once : HasNoRepeats set
  pub has_core_sets : HasCoreSets core set
  pub unlisted : ¬ IsAmong A set
  pub is : IsSetLine set line

-- lines of core answer sets that aren't listed, no two of them equal
pub record AreCoreSetLines (core : Core) (A : List (List Atom)) (lines : List (List ℕ)) : Type 0 where
  pub each : Each (IsCoreSetLine core A) lines
  pub once : HasNoRepeats lines
  pub whole : Each IsBraceLine lines

-- every core answer set is listed, or has its line among these
abbrev pub HaveAllOf : Core → List (List Atom) → List (List ℕ) → Type 0
HaveAllOf core A lines = (I : List Atom) → HasNoRepeats I → HasCoreSets core I
    → IsAmong A I ⊎ ((line : List ℕ) × (line ∈ lines) × IsSetLine I line)

-- ---- what is written and told

-- a legal journal was told, and the lines of the answer sets that it shows are these, in the order in which they were shown
pub record Journaled (core : Core) (A : List (List Atom)) (trace : TraceChange) (lines : List (List ℕ)) : Type 0 where
  pub journal : List Step
  pub legal : Legal (search_rules core) (core_sets A) journal
  pub tells : Tells core trace.told trace.told' journal
  pub shown : AreLinesOf (replay (search_rules core) journal) (reverse (State.shown (replay (search_rules core) journal))) lines

-- these lines were written, which are those of answer sets, as the journal says
pub record Wrote (core : Core) (A : List (List Atom)) (sink : SinkChange) (trace : TraceChange) : Type 0 where
  pub lines : List (List ℕ)
  pub bytes : Appends sink.held sink.held' (concat lines)
  pub sets : AreCoreSetLines core A lines
  pub journaled : Journaled core A trace lines

-- and then a front of the line of another answer set, which isn't in the journal
pub record WroteFront (core : Core) (A : List (List Atom)) (sink : SinkChange) (trace : TraceChange) : Type 0 where
  pub lines : List (List ℕ)
  pub next : List ℕ
  pub cut : ℕ
  pub bytes : Appends sink.held sink.held' (concat lines ++ take cut next)
  pub sets : AreCoreSetLines core A lines
  pub journaled : Journaled core A trace lines
  pub next_set : IsCoreSetLine core A next
  pub next_whole : IsBraceLine next
  pub next_new : ¬ (next ∈ lines)

-- or the whole line of another one
pub record WroteOneMore (core : Core) (A : List (List Atom)) (sink : SinkChange) (trace : TraceChange) : Type 0 where
  pub lines : List (List ℕ)
  pub next : List ℕ
  pub bytes : Appends sink.held sink.held' (concat (lines ++ next ∷ []))
  pub sets : AreCoreSetLines core A (lines ++ next ∷ [])
  pub journaled : Journaled core A trace lines

-- fewer lines than the limit were written, and no more nogoods were noted as struck, and instances as made, than the budgets allow
pub record IsWithin (settings : Settings) (lines : List (List ℕ)) (journal : List Step) : Type 0 where
  pub sets : length lines < settings.limit
  pub struck : strikes journal ≤ settings.conflicts
  pub made : makes journal ≤ settings.instances

-- How a search ends by itself, after these lines and this journal. It is finished only where the journal has ended, and at the limit exactly
-- where as many lines were written
abbrev pub EndIs : Core → List (List Atom) → Settings → List (List ℕ) → List Step → End → Type 0
EndIs core A settings lines journal (Finished printed) =
    (printed ≡ length lines) × IsWithin settings lines journal × HaveAllOf core A lines × IsFinished (replay (search_rules core) journal)
EndIs core A settings lines journal (LimitReached printed) = (printed ≡ length lines) × (settings.limit ≡ length lines)
    × (strikes journal ≤ settings.conflicts) × (makes journal ≤ settings.instances)
EndIs core A settings lines journal (Conflicts printed) =
    (printed ≡ length lines) × IsWithin settings lines journal × (strikes journal ≡ settings.conflicts)
    × SomeStruck (replay (search_rules core) journal)
EndIs core A settings lines journal (Instances printed) =
    (printed ≡ length lines) × IsWithin settings lines journal × (makes journal ≡ settings.instances)
    × IsSomeDue core (replay (search_rules core) journal)
EndIs core A settings lines journal (Overflow line op x y printed) =
    (printed ≡ length lines) × IsWithin settings lines journal × IsOverflow core (replay (search_rules core) journal) line op x y
EndIs core A settings lines journal (TermTooLarge line size printed) =
    (printed ≡ length lines) × IsWithin settings lines journal × IsTooLarge core (replay (search_rules core) journal) line size

-- lines within the limit and the budget, or one more, which isn't in the journal: what is written where a note fails or memory is wanting
abbrev pub WroteSome : Core → List (List Atom) → Settings → SinkChange → TraceChange → Type 0
WroteSome core A settings sink trace =
    ((wrote : Wrote core A sink trace) × IsWithin settings wrote.lines wrote.journaled.journal)
    ⊎ ((wrote : WroteOneMore core A sink trace) × IsWithin settings wrote.lines wrote.journaled.journal)

-- a search that is given these sets as listed ends by itself having written what it says; a fault of writing or tracing comes only where the object's count rose
abbrev pub SearchAnswer : Core → List (List Atom) → Settings → SinkChange → TraceChange → Result End SearchFault → Type 0
SearchAnswer core A settings sink trace (Ok end) = (wrote : Wrote core A sink trace)
    × EndIs core A settings wrote.lines wrote.journaled.journal end
SearchAnswer core A settings sink trace (Err WriteFault) =
    Rose sink.faults sink.faults' × ((wrote : WroteFront core A sink trace) × IsWithin settings wrote.lines wrote.journaled.journal)
SearchAnswer core A settings sink trace (Err TraceFault) = Rose trace.faults trace.faults' × WroteSome core A settings sink trace
SearchAnswer core A settings sink trace (Err OutOfMemory) = WroteSome core A settings sink trace
