-- What the events that a run notes say, and what was written with them.
use Rattle.std.specs.Prelude.{◌≡◌, ◌⊎◌, ◌+◌, ℕ, ℤ, List, [], ◌∷◌, ◌++◌}
use Rattle.alpha_outside.specs.declared.kinds.ArithOp.{ArithOp}
use Rattle.alpha_outside.specs.declared.event.Event.{Event}
use Rattle.alpha_outside.specs.declared.event.Event.TheVariants as event
use Rattle.lists.specs.Lists.{◌∈◌}
use Rattle.asp_syntax.specs.declared.tree.Statement.{Statement}
use Rattle.asp_meaning.specs.Atoms.{Atom}
use Rattle.after_book.specs.Listed.{IsListed}
use Rattle.search_settings.specs.declared.Settings.{Settings}
use Rattle.core_rules.specs.declared.rules.Core.{Core}
use Rattle.single_rules.specs.Splitting.{singles_of}
use Rattle.rewriting.specs.CoreRules.{core_of}
use Rattle.search_values.specs.Instances.{Rules}
use Rattle.journal_theory.specs.Journals.{Legal, SaysAll, replay, IsFinished}
use Rattle.core_meaning.specs.Atoms.{GroundAtom}
use Rattle.search_rules.specs.Tests.{Maker}
use Rattle.search_rules.specs.Rules.{Numbers, Reached, search_rules}
use Rattle.search_rules.specs.Faults.{IsOverflow, IsTooLarge}
use Rattle.search_journals.specs.Search.{TraceChange, IsAmong, core_sets}
use Rattle.search_journals.specs.Journals.{Step, Tells, strikes, makes, SomeStruck, IsSomeDue, AreLinesOf}
use Rattle.alpha.specs.declared.status.BudgetKind.{BudgetKind}
use Rattle.alpha.specs.declared.status.BudgetKind.TheVariants as budget
use Rattle.alpha.specs.declared.status.Status.{Status}
use Rattle.alpha.specs.declared.status.Status.TheVariants as status

-- ---- what is searched

-- these are the sets that the bytes list, as lines of a file of sets
pub record AreListed (bytes : List ℕ) (A : List (List Atom)) : Type 0 where
  pub each : (I : List Atom) → I ∈ A → IsListed bytes I
  pub all : (I : List Atom) → IsListed bytes I → IsAmong A I

-- what a run searches: a program, the sets that aren't to be printed, as bytes list them, and how far the search may go
pub record Task : Type 0 where
  pub program : List Statement
  pub bytes : List ℕ
  pub listed : List (List Atom)
  pub are_listed : AreListed bytes listed
  pub settings : Settings

-- the core of a program
abbrev pub core_for : List Statement → Core
core_for P = core_of (singles_of P)

-- the rules of a search for its answer sets
abbrev pub rules_for : List Statement → Rules Numbers GroundAtom Maker
rules_for P = search_rules (core_for P)

-- ---- what events tell

-- the sets of the `Shown` events, in order
abbrev pub shown_sets : List Event → List (List ℕ)
shown_sets [] = []
shown_sets (event.Shown ids ∷ more) = ids ∷ shown_sets more
shown_sets (_ ∷ more) = shown_sets more

-- how many `Struck` events there are
abbrev pub struck_events : List Event → ℕ
struck_events [] = 0
struck_events (event.Struck nogood ∷ more) = struck_events more + 1
struck_events (_ ∷ more) = struck_events more

-- how many `Made` events there are
abbrev pub made_events : List Event → ℕ
made_events [] = 0
made_events (event.Made inst maker ∷ more) = made_events more + 1
made_events (_ ∷ more) = made_events more

-- ---- journals

-- the journal was told, and is legal for the task
pub record WasTold (k : Task) (trace : TraceChange) (journal : List Step) : Type 0 where
  pub legal : Legal (rules_for k.program) (core_sets k.listed) journal
  pub tells : Tells (core_for k.program) trace.told trace.told' journal

-- the events are the journal, which is legal for the task
pub record IsSaid (k : Task) (E : List Event) (journal : List Step) : Type 0 where
  pub legal : Legal (rules_for k.program) (core_sets k.listed) journal
  pub says : SaysAll (rules_for k.program) E journal

-- the state after the journal
abbrev pub state_after : Task → List Step → Reached
state_after k journal = replay (rules_for k.program) journal

-- the events are a legal journal for the task
abbrev pub AreLegal : Task → List Event → Type 0
AreLegal k E = (journal : List Step) × IsSaid k E journal

-- ---- lines

-- the events are a legal journal for the task, and the lines are those of its `Shown` events, in order
pub record AreShownLines (k : Task) (E : List Event) (lines : List (List ℕ)) : Type 0 where
  pub journal : List Step
  pub said : IsSaid k E journal
  pub lines_are : AreLinesOf (state_after k journal) (shown_sets E) lines

-- the same, but for one whole line more
abbrev pub AreShownLinesAndOne : Task → List Event → List (List ℕ) → Type 0
AreShownLinesAndOne k E lines = (noted : List (List ℕ)) × (next : List ℕ) × (lines ≡ noted ++ next ∷ []) × AreShownLines k E noted

-- the lines that a run with this status wrote, by its events: after a fault or want of memory there may be one more
abbrev pub LinesAre : Task → Status → List Event → List (List ℕ) → Type 0
LinesAre k status.WriteFault E lines = AreShownLines k E lines ⊎ AreShownLinesAndOne k E lines
LinesAre k status.TraceFault E lines = AreShownLines k E lines ⊎ AreShownLinesAndOne k E lines
LinesAre k status.OutOfMemory E lines = AreShownLines k E lines ⊎ AreShownLinesAndOne k E lines
LinesAre k s E lines = AreShownLines k E lines

-- ---- budgets

-- the most of what a budget counts
abbrev pub most_of : BudgetKind → Settings → ℕ
most_of budget.Conflicts settings = settings.conflicts
most_of budget.Instances settings = settings.instances

-- how much of this budget the events used: nogoods that were struck, or instances that were made
abbrev pub used_by : BudgetKind → List Event → ℕ
used_by budget.Conflicts E = struck_events E
used_by budget.Instances E = made_events E

-- the same of a journal
abbrev pub used_in : BudgetKind → List Step → ℕ
used_in budget.Conflicts journal = strikes journal
used_in budget.Instances journal = makes journal

-- the search would have to use more: a nogood is struck, or an instance is due that isn't made
abbrev pub HasOneMore : BudgetKind → Core → Reached → Type 0
HasOneMore budget.Conflicts core s = SomeStruck s
HasOneMore budget.Instances core s = IsSomeDue core s

-- a legal journal was told, in which so much of this budget was used, and one more would have to be after it
pub record HasSpent (k : Task) (trace : TraceChange) (kind : BudgetKind) (number : ℕ) : Type 0 where
  pub journal : List Step
  pub told : WasTold k trace journal
  pub used : used_in kind journal ≡ number
  pub one_more : HasOneMore kind (core_for k.program) (state_after k journal)

-- the events are a legal journal for the task with so many `Struck` events, and one more nogood is struck in its replay; or with so many `Made`
-- events, and an instance that is due isn't made in its replay
pub record AreSpent (k : Task) (E : List Event) (kind : BudgetKind) (number : ℕ) : Type 0 where
  pub journal : List Step
  pub said : IsSaid k E journal
  pub count : used_by kind E ≡ number
  pub one_more : HasOneMore kind (core_for k.program) (state_after k journal)

-- ---- the end

-- a legal journal was told, and it has ended: its last nogood was struck at level 0, or a set was found while no literal was chosen
pub record HasEnded (k : Task) (trace : TraceChange) : Type 0 where
  pub journal : List Step
  pub told : WasTold k trace journal
  pub ended : IsFinished (state_after k journal)

-- the events are a legal journal for the task, which has ended so
pub record AreEnded (k : Task) (E : List Event) : Type 0 where
  pub journal : List Step
  pub said : IsSaid k E journal
  pub ended : IsFinished (state_after k journal)

-- ---- a term that is too large

-- a legal journal was told, after which a rule of this line has a term, or a part of one, of so many symbols
pub record HasTooLarge (k : Task) (trace : TraceChange) (line size : ℕ) : Type 0 where
  pub journal : List Step
  pub told : WasTold k trace journal
  pub too_large : IsTooLarge (core_for k.program) (state_after k journal) line size

-- the events are a legal journal for the task, in whose replay a rule of this line has such a term
pub record AreTooLarge (k : Task) (E : List Event) (line size : ℕ) : Type 0 where
  pub journal : List Step
  pub said : IsSaid k E journal
  pub too_large : IsTooLarge (core_for k.program) (state_after k journal) line size

-- ---- an operation that has no place in 64 bits

-- a legal journal was told, after which an operation of a rule of this line has these operands, and no result in 64 bits
pub record HasOverflow (k : Task) (trace : TraceChange) (line : ℕ) (op : ArithOp) (left right : ℤ) : Type 0 where
  pub journal : List Step
  pub told : WasTold k trace journal
  pub overflow : IsOverflow (core_for k.program) (state_after k journal) line op left right

-- the events are a legal journal for the task, in whose replay an operation of a rule of this line is so
pub record AreOverflow (k : Task) (E : List Event) (line : ℕ) (op : ArithOp) (left right : ℤ) : Type 0 where
  pub journal : List Step
  pub said : IsSaid k E journal
  pub overflow : IsOverflow (core_for k.program) (state_after k journal) line op left right
