-- Events: the state after each, and in which states it may come.
use Rattle.std.specs.Prelude.{◌≡◌, ℕ, ◌<◌, ◌⊎◌, Bool, true, false, List, [], ◌∷◌, ◌++◌, Option, Some, None, slice_get, length}
use Rattle.lists.specs.Lists.{◌∈◌, ◌⊆◌, Each, SameSet}
use Rattle.alpha_outside.specs.declared.node.Node.{Node}
use Rattle.alpha_outside.specs.declared.node.Node.TheVariants.{Int, Symbol, Text, Fun}
use Rattle.alpha_outside.specs.declared.pattern.Pattern.{Pattern}
pub use Rattle.alpha_outside.specs.declared.event.How.{How}
pub use Rattle.alpha_outside.specs.declared.event.How.TheVariants.{Analysed, Justified, Decisions, Enumerated}
use Rattle.search_values.specs.declared.entry.Why.TheVariants.{Given, Chosen, Closed}
use Rattle.search_values.specs.declared.entry.Entry.{Entry}
use Rattle.search_values.specs.Values.{Value, True, MustBe, False, Lit, value_of, level_of, entry_on, back_to, all_at_0, chosen, HasClosed, explain, decision}
use Rattle.search_values.specs.Nogoods.{Nogood, IsStruck, Gives, NoneStruck, NoneUnit}
use Rattle.search_values.specs.Instances.{Instance, Rules}
use Rattle.search_values.specs.Tables.{Made, BodyFits, nogoods_of}
use Rattle.journal_theory.specs.Resolution.{IsAnalysed}
use Rattle.journal_theory.specs.Covers.{MayJustify, IsWanted}
use Rattle.search_values.specs.Ids.{Named, BodyOf, Denotes}
use Rattle.journal_theory.specs.States.{Phase, Free, MustLearn, MustDecide, Found, MustStrike, MustJump, Over, State, IsName, IsPending, IsUp, IsActive, IsMade, IsSettled, IsFull, AreTrueUserAtoms, IsSetOf}
pub use Rattle.journal_theory.specs.States.{NoneStuck, IsFinished}

-- one event of a journal, over atoms and makers. The project's events speak of ids: `Journals` says how those are read
pub data Event (A K : Type 0) : Type 0 where
  -- the next term
  NameTerm : Node → Event A K
  -- the next atom is this named one
  NameAtom : A → Event A K
  -- the next atom is the body atom of the instance that comes next
  NameBody : Event A K
  -- the atom of this id, which is this member, gets this number
  Number : ℕ → A → ℕ → Event A K
  Make : Made K → Event A K
  -- the atom gets the value by this nogood
  Put : ℕ → Value → ℕ → Event A K
  Choose : ℕ → Bool → Event A K
  Close : ℕ → Event A K
  Strike : ℕ → Event A K
  -- the struck nogood, which will be unit after levels are taken away
  Keep : ℕ → Event A K
  Learn : How → List Lit → Event A K
  -- the next nogood, which is justified by a cover of these patterns
  Justify : List Pattern → List Lit → Event A K
  -- the atom of this id is wide: too much leads to it for a cover
  CallWide : ℕ → Event A K
  Back : ℕ → Event A K
  Show : List ℕ → Event A K
  Pass : List ℕ → Event A K

-- ---- what may follow a stuck atom and a struck nogood
--
-- A stuck atom is followed by a nogood that is justified for it, or it is called wide and the literals chosen are learned; then that nogood is noted
-- as struck. A struck nogood whose literals all stand at level 0 ends the journal. Another is followed by nogoods that are justified for closed
-- atoms, as many as are needed, and then by an analysed nogood and Back; or it is kept, and Back follows; or an atom is called wide, and the
-- literals chosen are learned and noted as struck. A set that is found is followed by the nogood of the literals chosen and by Back.

-- after the nogood of this number was noted as struck, of which it is told whether all its literals stand at level 0
abbrev pub phase_struck : ℕ → Bool → Phase
phase_struck n true = Over
phase_struck n false = MustLearn n

-- after the nogood of this number was learned: the literals chosen are struck where an atom was called wide; else levels are to be taken away
abbrev pub phase_learned : Phase → ℕ → Phase
phase_learned MustDecide n = MustStrike n
phase_learned _ n = MustJump n

-- the value of the atom that a nogood names first
abbrev pub first_value : List Lit → List Entry → Option Value
first_value [] stack = None
first_value (l ∷ ls) stack = value_of stack l.atom

-- after the nogood of this number was justified for an atom with this value: that of a stuck atom is struck; that of an atom without a value makes it
-- false, as any nogood that is unit may; that of a closed atom is its reason, and what was struck is still to be learned from
abbrev pub phase_justified : Phase → Option Value → ℕ → Phase
phase_justified Free None n = Free
phase_justified Free (Some v) n = MustStrike n
phase_justified phase v n = phase

-- a struck nogood may be noted where nothing in particular has to come, and the nogood just learned where it is to be noted
abbrev pub MayStrike : Phase → ℕ → Type 0
MayStrike phase n = (phase ≡ Free) ⊎ (phase ≡ MustStrike n)

-- the literals of a nogood, where there is one
abbrev pub lits_in : Option Nogood → List Lit
lits_in None = []
lits_in (Some ng) = ng.lits

-- the literals of the nogood with this id
abbrev pub lits_at : List Nogood → ℕ → List Lit
lits_at ngs n = lits_in (slice_get ngs n)

-- the form of a nogood that is learned: what analysis gives, after a struck nogood that isn't of literals chosen alone (nothing is resolved with
-- such a one, and it is kept); the literals chosen, directly after an atom was called wide; or
-- the literals chosen, of which there are some, directly after a set was shown or passed. A justified nogood is learned by an event of its own
abbrev pub MayLearn : {N A K : Type 0} → Rules N A K → State N A K → How → List Lit → Type 0
MayLearn core s Analysed ls = ((n : ℕ) × (s.phase ≡ MustLearn n) × (¬ (lits_at s.nogoods n ⊆ chosen s.stack))) × IsAnalysed s.nogoods s.stack ls
MayLearn core s Justified ls = ⊥
MayLearn core s Decisions ls = (ls ≡ chosen s.stack) × (s.phase ≡ MustDecide)
MayLearn core s Enumerated ls = (ls ≡ chosen s.stack) × (s.phase ≡ Found) × (¬ (ls ≡ []))

-- ---- the state after an event

-- the state with one more entry
abbrev pub pushed : {N A K : Type 0} → State N A K → Entry → State N A K
pushed s e = record s { stack = e ∷ s.stack }

-- the stack after a nogood of these literals was justified, which says first that its atom is true: it is the reason of the atom's closed entry,
-- where there is one without a reason
abbrev pub explain_first : List Lit → ℕ → List Entry → List Entry
explain_first [] n stack = stack
explain_first (l ∷ ls) n stack = explain l.atom n stack

-- each event adds to what it names, gives a value, opens or takes away levels, or changes what has to come next
abbrev pub happens : {N A K : Type 0} → Rules N A K → State N A K → Event A K → State N A K
happens core s (NameTerm node) = record s { terms = s.terms ++ node ∷ [] }
happens core s (NameAtom a) = record s { names = s.names ++ Named a ∷ [] }
happens core s NameBody = record s { names = s.names ++ BodyOf (length s.made) ∷ [] }
happens core s (Number x a number) = record s { numbers = core.give s.numbers a }
happens core s (Make k) = record s { made = s.made ++ k ∷ []; nogoods = s.nogoods ++ nogoods_of k }
happens core s (Put a v n) = pushed s (entry_on s.stack a v (Given n))
happens core s (Choose b up) = record s { stack = entry_on s.stack b (decision up) Chosen ∷ s.stack; closing = false }
happens core s (Close a) = record s { stack = entry_on s.stack a False (Closed None) ∷ s.stack; closing = true }
happens core s (Strike n) = record s { phase = phase_struck n (all_at_0 s.stack (lits_at s.nogoods n)) }
happens core s (Keep n) = record s { kept = n ∷ s.kept; phase = MustJump n }
happens core s (Learn how ls) = record s {
  nogoods = s.nogoods ++ record { lits = ls; head = None } ∷ [];
  phase = phase_learned s.phase (length s.nogoods);
}
happens core s (Justify patterns ls) = record s {
  nogoods = s.nogoods ++ record { lits = ls; head = None } ∷ [];
  stack = explain_first ls (length s.nogoods) s.stack;
  phase = phase_justified s.phase (first_value ls s.stack) (length s.nogoods);
}
happens core s (CallWide x) = record s { phase = MustDecide }
happens core s (Back level) = record s { stack = back_to level s.stack; closing = false; phase = Free }
happens core s (Show ids) = record s { shown = ids ∷ s.shown; phase = Found }
happens core s (Pass ids) = record s { passed = ids ∷ s.passed; phase = Found }

-- ---- in which states an event may come

-- the term's parts are terms so far
abbrev pub PartsBelow : ℕ → Node → Type 0
PartsBelow n (Int i) = Unit {0}
PartsBelow n (Symbol name) = Unit {0}
PartsBelow n (Text text) = Unit {0}
PartsBelow n (Fun name []) = ⊥
PartsBelow n (Fun name (x ∷ xs)) = (x < n) × Each (λ y. y < n) xs

-- an instance with a body atom comes where its body atom was named, and one without where none waits for its instance
abbrev pub BodyIsNext : {N A K : Type 0} → State N A K → Option ℕ → Type 0
BodyIsNext s None = (b : ℕ) → ¬ IsPending s b
BodyIsNext s (Some b) = IsPending s b

-- the nogood of these literals is a superset of no earlier one
abbrev pub IsNew : List Nogood → List Lit → Type 0
IsNew ngs ls = (ng : Nogood) → ng ∈ ngs → ¬ (ng.lits ⊆ ls)

-- the nogood with this id is unit on the stack
abbrev pub IsUnitAt : List Entry → List Nogood → ℕ → Type 0
IsUnitAt stack ngs n = (ng : Nogood) × (slice_get ngs n ≡ Some ng) × ((a : ℕ) × (v : Value) × Gives stack ng a v)

-- the event may come in this state, where `listed` holds the sets that a file lists
abbrev pub Allowed : {N A K : Type 0} → Rules N A K → List (List A) → State N A K → Event A K → Type 0
Allowed core listed s (NameTerm node) = (¬ IsFinished s) × (¬ (node ∈ s.terms)) × PartsBelow (length s.terms) node
Allowed core listed s (NameAtom a) = (s.phase ≡ Free) × ((x : ℕ) → ¬ IsName s x a) × (core.may_be_named s.numbers a ≡ true)
Allowed core listed s NameBody = (s.phase ≡ Free) × ((b : ℕ) → ¬ IsPending s b) × NoneStuck core s
Allowed core listed s (Number x a number) =
    (s.phase ≡ Free) × IsName s x a × IsUp s x × (core.is_numbered s.numbers a ≡ false) × (number ≡ core.next_number s.numbers a)
    × (¬ HasClosed s.stack)
Allowed {N} {A} {K} core listed s (Make k) =
    (s.phase ≡ Free)
    × (¬ IsMade core s k.maker)
    × ((i : Instance A) × (core.instance_of s.numbers k.maker ≡ Some i) × Denotes s.names k.inst i)
    × ((p : ℕ) → p ∈ k.inst.pos → IsUp s p)
    × BodyFits k.inst.kind k.inst.neg k.body
    × BodyIsNext s k.body
    × NoneStuck core s
Allowed core listed s (Put a v n) = (s.phase ≡ Free) × ((ng : Nogood) × (slice_get s.nogoods n ≡ Some ng) × Gives s.stack ng a v)
Allowed {N} {A} {K} core listed s (Choose b up) =
    (s.phase ≡ Free) × NoneStruck s.stack s.nogoods × NoneUnit s.stack s.nogoods
    × ((k : Made K) × (k ∈ s.made) × IsActive s k b)
    × (up ≡ false → value_of s.stack b ≡ None)
    × NoneStuck core s
Allowed {N} {A} {K} core listed s (Close x) =
    (s.phase ≡ Free) × NoneStruck s.stack s.nogoods × NoneUnit s.stack s.nogoods
    × ((a : A) × IsName s x a)
    × (value_of s.stack x ≡ None)
    × ((y : ℕ) (a : A) → IsName s y a → ¬ (value_of s.stack y ≡ Some MustBe))
    × (s.closing ≡ false → IsSettled core s)
Allowed core listed s (Strike n) = MayStrike s.phase n × ((ng : Nogood) × (slice_get s.nogoods n ≡ Some ng) × IsStruck s.stack ng)
Allowed core listed s (Keep n) =
    (s.phase ≡ MustLearn n) × (¬ (n ∈ s.kept))
    × ((level : ℕ) × (level < level_of s.stack) × IsUnitAt (back_to level s.stack) s.nogoods n)
Allowed core listed s (Learn how ls) = MayLearn core s how ls × IsNew s.nogoods ls
Allowed core listed s (Justify patterns ls) = MayJustify core s patterns ls × IsNew s.nogoods ls
Allowed core listed s (CallWide x) = IsWanted core s x × (¬ (value_of s.stack x ≡ None))
Allowed core listed s (Back level) = (level < level_of s.stack) × ((n : ℕ) × (s.phase ≡ MustJump n) × IsUnitAt (back_to level s.stack) s.nogoods n)
Allowed {N} {A} {K} core listed s (Show ids) =
    (s.phase ≡ Free) × IsFull core s × AreTrueUserAtoms core s ids
    × ((atoms : List A) → atoms ∈ listed → ¬ IsSetOf s ids atoms)
    × ((earlier : List ℕ) → earlier ∈ s.shown → ¬ SameSet ids earlier)
Allowed {N} {A} {K} core listed s (Pass ids) =
    (s.phase ≡ Free) × IsFull core s × AreTrueUserAtoms core s ids
    × ((atoms : List A) × (atoms ∈ listed) × IsSetOf s ids atoms)
