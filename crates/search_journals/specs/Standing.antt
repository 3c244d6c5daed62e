-- Where a search stands: its state is the one that a legal journal leads to, which was told, and the lines of the sets shown were written.
use Rattle.std.specs.Prelude.{◌≡◌, ◌⊎◌, ℕ, ◌+◌, ◌<◌, ◌≤◌, List, [], ◌++◌, length, reverse, take, Option, Some, slice_get}
use Rattle.std.specs.Io.KnownBytes.{Appends}
use Rattle.lists.specs.Lists.{◌∈◌, concat}
use Rattle.alpha_outside.specs.Outside as outside
use Rattle.alpha_outside.specs.Outside.{Rose}
use Rattle.asp_meaning.specs.Atoms.{Atom}
use Rattle.core_meaning.specs.Atoms.{GroundAtom}
use Rattle.search_values.specs.declared.entry.Entry.{Entry}
use Rattle.search_values.specs.Values.{level_of}
use Rattle.search_values.specs.Tables.{Made}
use Rattle.journal_theory.specs.States.{State, Free, IsFull, AreTrueUserAtoms, IsSetOf}
use Rattle.journal_theory.specs.Journals.{Legal, replay, IsFinished}
use Rattle.journal_theory.specs.Laws.{NoneEmpty, EachBackIsFar}
use Rattle.core_rules.specs.declared.rules.Core.{Core}
use Rattle.search_rules.specs.Tests.{Maker}
use Rattle.search_rules.specs.Rules.{Reached, search_rules}
use Rattle.search_rules.specs.Stage.{IsSearchable}
use Rattle.search_rules.specs.Faults.{IsOverflow, IsTooLarge}
use Rattle.lazy_grounder.specs.Lawful.{IsLawful}
use Rattle.search_state.specs.Searching.{Searching, IsAllTold, ids, made, state_of}
use Rattle.search_state.specs.Grounding.{HasLawfulStack}
use Rattle.search_state.specs.Joined.{IsJoined}
use Rattle.search_journals.specs.Search.{AreLinesOfSets, core_sets}
use Rattle.search_journals.specs.Journals.{Step, Tells, strikes, makes, SomeStruck, IsSomeDue, IsLineOfIds, AreLinesOf}
use Rattle.search_settings.specs.declared.Settings.{Settings}
use Rattle.search_journals.specs.declared.ends.SearchFault.{SearchFault}
use Rattle.search_journals.specs.declared.ends.SearchFault.TheVariants.{WriteFault, TraceFault, OutOfMemory}
use Rattle.search_journals.specs.declared.ends.Finish.{Finish}
use Rattle.search_journals.specs.declared.ends.Finish.TheVariants as finish

-- the state without the sets found and the nogoods kept, of which a search has no list
abbrev pub unlisted : Reached → Reached
unlisted s = record s { shown = []; passed = []; kept = [] }

-- ---- the lines written

-- the lines of the sets that the journal shows were written; the newest comes first here
pub record Hands (core : Core) (held held' : Option (List ℕ)) (journal : List Step) : Type 0 where
  pub lines : List (List ℕ)
  pub are : AreLinesOf (replay (search_rules core) journal) (State.shown (replay (search_rules core) journal)) lines
  pub bytes : Appends held held' (concat (reverse lines))

-- ---- standing

-- sets that are listed, and their lines
pub record Listed : Type 0 where
  pub book : List (List ℕ)
  pub sets : List (List Atom)
  pub are : AreLinesOfSets book sets

-- what a search was given: its core, the sets that are listed, and what was told and written before
pub record Given : Type 0 where
  pub core : Core
  pub lists : Listed
  pub told : Option outside.Journal
  pub held : Option (List ℕ)
  pub limit : ℕ
  pub conflicts : ℕ
  pub instances : ℕ

-- the sets that are listed, as atoms of the core
abbrev pub listed : Given → List (List GroundAtom)
listed g = core_sets g.lists.sets

-- what a search with these settings was given
abbrev pub given_for : Core → Listed → Option outside.Journal → Option (List ℕ) → Settings → Given
given_for core lists told held settings = record {
  core = core;
  lists = lists;
  told = told;
  held = held;
  limit = settings.limit;
  conflicts = settings.conflicts;
  instances = settings.instances;
}

-- the search stands where this journal leads
pub record StandsAt (g : Given) (v : Searching) (told : Option outside.Journal) (held : Option (List ℕ)) (left rest : ℕ)
    (journal : List Step) : Type 0 where
  pub legal : Legal (search_rules g.core) (listed g) journal
  -- each Back went as far as the nogood stayed unit
  pub far : EachBackIsFar (search_rules g.core) journal
  pub is : state_of v ≡ unlisted (replay (search_rules g.core) journal)
  pub tells : Tells g.core g.told told journal
  pub hands : Hands g.core g.held held journal
  pub sets_left : length (State.shown (replay (search_rules g.core) journal)) + left ≡ g.limit
  pub strikes_left : strikes journal + rest ≡ g.conflicts
  pub instances_left : length v.ground.instances + v.left ≡ g.instances

-- it stands where some journal leads
abbrev pub Stands : Given → Searching → Option outside.Journal → Option (List ℕ) → ℕ → ℕ → Type 0
Stands g v told held left rest = (journal : List Step) × StandsAt g v told held left rest journal

-- the given core is that of the search
abbrev pub Fits : Given → Searching → Type 0
Fits g v = v.core ≡ g.core

-- wherever it stood before, it stands after
abbrev pub Carries : Searching → Searching → Option outside.Journal → Option outside.Journal → Option (List ℕ) → Option (List ℕ) → (ℕ × ℕ)
    → (ℕ × ℕ) → Type 0
Carries v v' told told' held held' before after =
    (g : Given) → Fits g v → Stands g v told held before.0 before.1 → Stands g v' told' held' after.0 after.1

-- the same, where the lines of the sets that are listed are these
abbrev pub CarriesOver : List (List ℕ) → Searching → Searching → Option outside.Journal → Option outside.Journal → Option (List ℕ)
    → Option (List ℕ) → (ℕ × ℕ) → (ℕ × ℕ) → Type 0
CarriesOver book v v' told told' held held' before after =
    (g : Given) → Fits g v → g.lists.book ≡ book → Stands g v told held before.0 before.1 → Stands g v' told' held' after.0 after.1

-- ---- faults

-- fewer sets than may be were shown, and no more nogoods struck and instances made than may be
pub record IsInside (g : Given) (journal : List Step) : Type 0 where
  pub sets : length (State.shown (replay (search_rules g.core) journal)) < g.limit
  pub struck : strikes journal ≤ g.conflicts
  pub made : makes journal ≤ g.instances

-- a legal journal was told, and its lines were written
pub record Halts (g : Given) (told : Option outside.Journal) (held : Option (List ℕ)) : Type 0 where
  pub journal : List Step
  pub legal : Legal (search_rules g.core) (listed g) journal
  pub tells : Tells g.core g.told told journal
  pub hands : Hands g.core g.held held journal
  pub inside : IsInside g journal

-- and a front of the line of a set that may be shown next
pub record HaltsWithin (g : Given) (told : Option outside.Journal) (held : Option (List ℕ)) : Type 0 where
  pub journal : List Step
  pub legal : Legal (search_rules g.core) (listed g) journal
  pub tells : Tells g.core g.told told journal
  pub lines : List (List ℕ)
  pub are : AreLinesOf (replay (search_rules g.core) journal) (State.shown (replay (search_rules g.core) journal)) lines
  pub ids : List ℕ
  pub next : List ℕ
  pub cut : ℕ
  pub bytes : Appends g.held held (concat (reverse lines) ++ take cut next)
  pub free : State.phase (replay (search_rules g.core) journal) ≡ Free
  pub full : IsFull (search_rules g.core) (replay (search_rules g.core) journal)
  pub atoms : AreTrueUserAtoms (search_rules g.core) (replay (search_rules g.core) journal) ids
  pub line : IsLineOfIds (replay (search_rules g.core) journal) ids next
  pub unlisted : (atoms : List GroundAtom) → atoms ∈ listed g → ¬ IsSetOf (replay (search_rules g.core) journal) ids atoms
  pub inside : IsInside g journal

-- or the whole of it
abbrev pub HaltsBehind : Given → Option outside.Journal → Option (List ℕ) → Type 0
HaltsBehind g told held = (h : HaltsWithin g told held) × (length h.next ≡ h.cut)

-- why a trace's call failed: its count of faults rose, or memory was wanting
abbrev pub IsTraceCause : ℕ → ℕ → SearchFault → Type 0
IsTraceCause before now WriteFault = ⊥
IsTraceCause before now TraceFault = Rose before now
IsTraceCause before now OutOfMemory = Unit {0}

-- a fault while nothing is written, where a set may still be shown
pub record IsTraceFault (v : Searching) (told told' : Option outside.Journal) (before now : ℕ) (fault : SearchFault) : Type 0 where
  pub halts : (g : Given) → Fits g v → (held : Option (List ℕ)) (left rest : ℕ) → 0 < left → Stands g v told held left rest
      → Halts g told' held
  pub cause : IsTraceCause before now fault

-- the same, where so many nogoods could still be struck
pub record IsRoundFault (v : Searching) (told told' : Option outside.Journal) (rest before now : ℕ) (fault : SearchFault) : Type 0 where
  pub halts : (g : Given) → Fits g v → (held : Option (List ℕ)) (left : ℕ) → 0 < left → Stands g v told held left rest → Halts g told' held
  pub cause : IsTraceCause before now fault

-- what a search leaves at a fault; the counts of faults are the sink's and the trace's
abbrev pub Leaves : Given → Option outside.Journal → Option (List ℕ) → (ℕ × ℕ) → (ℕ × ℕ) → SearchFault → Type 0
Leaves g told held sink trace WriteFault = Rose sink.0 sink.1 × HaltsWithin g told held
Leaves g told held sink trace TraceFault = Rose trace.0 trace.1 × (Halts g told held ⊎ HaltsBehind g told held)
Leaves g told held sink trace OutOfMemory = Halts g told held ⊎ HaltsBehind g told held

-- ---- what a search keeps between events

-- each instance with a body atom is noted as a choice
abbrev pub ChoicesAreNoted : Searching → Type 0
ChoicesAreNoted v = (i : ℕ) (k : Made Maker) (b : ℕ) → slice_get (made v) i ≡ Some k → k.body ≡ Some b → i ∈ v.choices

-- no nogood is empty where a level is open
abbrev pub IsGrounded : Searching → Type 0
IsGrounded v = (level_of v.stack ≡ 0) ⊎ NoneEmpty v.nogoods

-- the atoms on the stack have ids that were noted
abbrev pub StackIsPlaced : Searching → Type 0
StackIsPlaced v = (e : Entry) → e ∈ v.stack → e.atom < ids v

-- what a search always keeps
pub record IsKept (v : Searching) : Type 0 where
  pub searchable : IsSearchable v.core
  pub lawful : IsLawful v.core v.ground
  pub told : IsAllTold v
  pub noted : ChoicesAreNoted v
  pub placed : StackIsPlaced v
  pub stack : HasLawfulStack v
  -- each instance whose positive atoms are all among those of the joined entries is made
  pub joined : IsJoined v

-- so it is, and nothing in particular has to come
pub record IsReady (v : Searching) : Type 0 where
  pub kept : IsKept v
  pub free : v.phase ≡ Free
  pub grounded : IsGrounded v

-- ---- the end

-- how it ends, where so many sets may still be shown and so many nogoods struck
abbrev pub EndsBy : Given → List Step → ℕ → ℕ → Finish → Type 0
EndsBy g journal left rest finish.Finished = (0 < left) × IsFinished (replay (search_rules g.core) journal)
EndsBy g journal left rest finish.LimitReached = left ≡ 0
EndsBy g journal left rest finish.Conflicts = (0 < left) × (rest ≡ 0) × SomeStruck (replay (search_rules g.core) journal)
EndsBy g journal left rest finish.Instances = (0 < left) × (makes journal ≡ g.instances)
    × IsSomeDue g.core (replay (search_rules g.core) journal)
EndsBy g journal left rest (finish.Overflow line op x y) = (0 < left) × IsOverflow g.core (replay (search_rules g.core) journal) line op x y
EndsBy g journal left rest (finish.TermTooLarge line size) = (0 < left) × IsTooLarge g.core (replay (search_rules g.core) journal) line size

-- it ends where some journal leads
pub record Ends (g : Given) (told : Option outside.Journal) (held : Option (List ℕ)) (left rest : ℕ) (how : Finish) : Type 0 where
  pub journal : List Step
  pub legal : Legal (search_rules g.core) (listed g) journal
  pub tells : Tells g.core g.told told journal
  pub hands : Hands g.core g.held held journal
  pub sets_left : length (State.shown (replay (search_rules g.core) journal)) + left ≡ g.limit
  pub strikes_left : strikes journal + rest ≡ g.conflicts
  pub made_within : makes journal ≤ g.instances
  pub how_is : EndsBy g journal left rest how
