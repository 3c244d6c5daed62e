-- Journals: the state that one leads to, which are legal, how the project's events are read, and where a search is finished.
use Rattle.std.specs.Prelude.{◌≡◌, ◌<◌, ◌⊎◌, ℕ, true, false, List, [], ◌∷◌, ◌++◌, length}
use Rattle.lists.specs.Lists.{Each}
use Rattle.alpha_outside.specs.declared.event.Event as outside
use Rattle.alpha_outside.specs.declared.event.Event.TheVariants as say
use Rattle.search_values.specs.Instances.{Rules}
use Rattle.search_values.specs.Tables.{Made}
use Rattle.journal_theory.specs.States.{Free, State}
pub use Rattle.journal_theory.specs.States.{IsFinished}
use Rattle.journal_theory.specs.Events.{Justified, Event, NameTerm, NameAtom, NameBody, Number, Make, Put, Choose, Close, Strike, Keep, Learn, Justify, CallWide, Back, Show, Pass, happens, Allowed}

-- the state before any event
abbrev pub start : {N A K : Type 0} → Rules N A K → State N A K
start core = record { numbers = core.no_numbers; terms = []; names = []; made = []; nogoods = []; stack = []; shown = []; passed = []; kept = []; closing = false; phase = Free }

-- the state after a journal, whose newest event comes first
abbrev pub replay : {N A K : Type 0} → Rules N A K → List (Event A K) → State N A K
replay core [] = start core
replay core (e ∷ earlier) = happens core (replay core earlier) e

-- each event was allowed by the replay of those before it, where `listed` holds the sets that the file lists
abbrev pub Legal : {N A K : Type 0} → Rules N A K → List (List A) → List (Event A K) → Type 0
Legal core listed [] = Unit {0}
Legal core listed (e ∷ earlier) = Legal core listed earlier × Allowed core listed (replay core earlier) e

-- ---- the project's events

-- in this state the project's event says this one: an id that it names anew is the next one, and its predicate, its maker and their argument
-- ids stand for the atom and the maker by the terms so far. A justified nogood has the patterns of its cover, and others have none
abbrev pub Says : {N A K : Type 0} → Rules N A K → State N A K → outside.Event → Event A K → Type 0
Says core s (say.Term id node) e = (id ≡ length s.terms) × (e ≡ NameTerm node)
Says {N} {A} {K} core s (say.Atom id pred args) e =
    (id ≡ length s.names) × Each (λ t. t < length s.terms) args × ((a : A) × (core.names_atom s.terms pred args a ≡ true) × (e ≡ NameAtom a))
Says core s (say.Body id inst) e = (id ≡ length s.names) × (inst ≡ length s.made) × (e ≡ NameBody)
Says {N} {A} {K} core s (say.Numbered atom number) e = (a : A) × (e ≡ Number atom a number)
Says {N} {A} {K} core s (say.Made inst maker) e =
    (inst ≡ length s.made) × ((k : Made K) × (core.names_maker s.terms maker k.maker ≡ true) × (e ≡ Make k))
Says core s (say.Put atom value by) e = e ≡ Put atom value by
Says core s (say.Chosen body up) e = e ≡ Choose body up
Says core s (say.Closed atom) e = e ≡ Close atom
Says core s (say.Struck nogood) e = e ≡ Strike nogood
Says core s (say.Kept nogood) e = e ≡ Keep nogood
Says core s (say.Learned nogood how lits cover) e =
    (nogood ≡ length s.nogoods) × (((cover ≡ []) × (e ≡ Learn how lits)) ⊎ ((how ≡ Justified) × (e ≡ Justify cover lits)))
Says core s (say.Back level) e = e ≡ Back level
Says core s (say.Wide atom count) e = (count ≡ 256) × (e ≡ CallWide atom)
Says core s (say.Shown atoms) e = e ≡ Show atoms
Says core s (say.Passed atoms) e = e ≡ Pass atoms

-- the project's events, the newest last, say this journal, whose newest event comes first
abbrev pub SaysAll : {N A K : Type 0} → Rules N A K → List outside.Event → List (Event A K) → Type 0
SaysAll core events [] = events ≡ []
SaysAll core events (e ∷ earlier) =
    (before : List outside.Event) × (last : outside.Event) × (events ≡ before ++ last ∷ []) × SaysAll core before earlier × Says core (replay core earlier) last e

-- each atom that was called wide was so in the state before, where `is_wide` says which are. No law of the search rests on it: it is asked beside
-- them, over the rules that atoms come from, for these laws know no rules with variables
abbrev pub EachIsWide : {N A K : Type 0} → Rules N A K → (State N A K → ℕ → Type 0) → List (Event A K) → Type 0
EachIsWide core is_wide [] = Unit {0}
EachIsWide core is_wide (CallWide x ∷ earlier) = is_wide (replay core earlier) x × EachIsWide core is_wide earlier
EachIsWide core is_wide (_ ∷ earlier) = EachIsWide core is_wide earlier

-- a list of the project's events is a legal journal: it says one, and calls wide what is
abbrev pub IsLegal : {N A K : Type 0} → Rules N A K → (State N A K → ℕ → Type 0) → List (List A) → List outside.Event → Type 0
IsLegal {N} {A} {K} core is_wide listed events = (journal : List (Event A K)) × Legal core listed journal × EachIsWide core is_wide journal × SaysAll core events journal
