-- The state of a search, what its ids mean in a set of atoms, and which states are settled, stuck or full.
use Rattle.std.specs.Prelude.{◌≡◌, ℕ, ◌⊎◌, Bool, true, false, List, [], ◌∷◌, Option, Some, None, slice_get, length}
use Rattle.lists.specs.Lists.{◌∈◌}
use Rattle.alpha_outside.specs.declared.node.Node.{Node}
use Rattle.search_values.specs.declared.entry.Entry.{Entry}
use Rattle.search_values.specs.Values.{Value, True, MustBe, Lit, lit, value_of, chosen, Holds, MustSinceClosed}
use Rattle.search_values.specs.Nogoods.{Nogood, NoneStruck, NoneUnit}
use Rattle.search_values.specs.Instances.{Kind, Plain, Choice, Constraint, Instance, body_true, Rules, IsExtension, IsAnswerUnder}
use Rattle.search_values.specs.Ids.{AtomNode, Named, BodyOf, named_true, node_true, Names}
use Rattle.search_values.specs.Tables.{Made}

-- what has to come next
pub data Phase : Type 0 where
  -- nothing in particular
  Free : Phase
  -- the nogood of this number is struck, and the search has to learn from it
  MustLearn : ℕ → Phase
  -- an atom was called wide, and the literals chosen are to be learned
  MustDecide : Phase
  -- a set was shown or passed
  Found : Phase
  -- the nogood just learned is to be noted as struck
  MustStrike : ℕ → Phase
  -- the levels above one at which the nogood just learned or kept is unit are to be taken away
  MustJump : ℕ → Phase
  -- the journal has ended
  Over : Phase

-- what a journal leads to; ids are places in the lists of terms, names, instances and nogoods
pub record State (N A K : Type 0) : Type 0 where
  -- the numbers given to members so far
  pub numbers : N
  pub terms : List Node
  pub names : List (AtomNode A)
  pub made : List (Made K)
  pub nogoods : List Nogood
  -- the assigned atoms, the newest entry first
  pub stack : List Entry
  -- the sets that were shown, and those that were passed, as the ids of their atoms
  pub shown : List (List ℕ)
  pub passed : List (List ℕ)
  -- the nogoods that were kept, the newest first
  pub kept : List ℕ
  -- whether a Closed has come since the last Chosen or Back
  pub closing : Bool
  pub phase : Phase

-- ---- what ids mean

-- the id is that of this named atom
abbrev pub IsName : {N A K : Type 0} → State N A K → ℕ → A → Type 0
IsName s x a = slice_get s.names x ≡ Some (Named a)

-- the id is the body atom of the instance that comes next
abbrev pub IsPending : {N A K : Type 0} → State N A K → ℕ → Type 0
IsPending s x = slice_get s.names x ≡ Some (BodyOf (length s.made))

-- whether the atom of the id, named or of a body, is true in the set
abbrev pub truth : {N A K : Type 0} → State N A K → (A → Bool) → ℕ → Bool
truth s c x = node_true (named_true s.names c) s.made c (slice_get s.names x)

-- the set makes all these literals true
abbrev pub Agrees : {N A K : Type 0} → State N A K → (A → Bool) → List Lit → Type 0
Agrees s c ls = (l : Lit) → l ∈ ls → truth s c l.atom ≡ l.positive

-- ---- sets that are still to come, and sound nogoods

-- the set was shown or passed
abbrev pub WasFound : {N A K : Type 0} → State N A K → List ℕ → Type 0
WasFound s ids = (ids ∈ s.shown) ⊎ (ids ∈ s.passed)

-- these are the ids of the user atoms of the set
abbrev pub AreUserAtoms : {N A K : Type 0} → Rules N A K → State N A K → (A → Bool) → List ℕ → Type 0
AreUserAtoms {N} {A} core s c ids =
    ((a : A) → core.is_user a ≡ true → c a ≡ true → (x : ℕ) × (x ∈ ids) × IsName s x a)
    × ((x : ℕ) → x ∈ ids → (a : A) × IsName s x a × (c a ≡ true) × (core.is_user a ≡ true))

-- a core answer set, under a numbering that extends the one so far for it, whose user atoms are no set that was shown or passed
pub record IsOpen {N A K : Type 0} (core : Rules N A K) (s : State N A K) (c : A → Bool) : Type 0 where
  pub numbering : N
  pub extending : IsExtension core s.numbers numbering c
  pub answers : IsAnswerUnder core numbering c
  pub not_found : (ids : List ℕ) → WasFound s ids → ¬ AreUserAtoms core s c ids

-- sound: no such set makes all the literals true
abbrev pub IsSound : {N A K : Type 0} → Rules N A K → State N A K → List Lit → Type 0
IsSound {N} {A} core s ls = (c : A → Bool) → IsOpen core s c → ¬ Agrees s c ls

-- ---- what is left to do in a state

-- the atom is true or must-be-true
abbrev pub IsUp : {N A K : Type 0} → State N A K → ℕ → Type 0
IsUp s x = Holds s.stack (lit x true)

-- active: the instance's body atom is unassigned or must-be-true, all its positive atoms are true, and no negative one is true or
-- must-be-true
pub record IsActive {N A K : Type 0} (s : State N A K) (k : Made K) (b : ℕ) : Type 0 where
  pub has_body : k.body ≡ Some b
  pub not_yet : (value_of s.stack b ≡ None) ⊎ (value_of s.stack b ≡ Some MustBe)
  pub pos_true : (p : ℕ) → p ∈ k.inst.pos → value_of s.stack p ≡ Some True
  pub neg_not_up : (n : ℕ) → n ∈ k.inst.neg → ¬ IsUp s n

-- nothing is active
abbrev pub NoneActive : {N A K : Type 0} → State N A K → Type 0
NoneActive {N} {A} {K} s = (k : Made K) → k ∈ s.made → (b : ℕ) → ¬ IsActive s k b

-- the maker's instance was made
abbrev pub IsMade : {N A K : Type 0} → Rules N A K → State N A K → K → Type 0
IsMade {N} {A} {K} core s m = (k : Made K) × (k ∈ s.made) × (core.same_maker k.maker m ≡ true)

-- nothing is due: each core instance whose positive atoms are true or must-be-true was made
abbrev pub NoneDue : {N A K : Type 0} → Rules N A K → State N A K → Type 0
NoneDue {N} {A} {K} core s =
    (m : K) (i : Instance A) → core.instance_of s.numbers m ≡ Some i → ((a : A) → a ∈ i.pos → (x : ℕ) × IsName s x a × IsUp s x) → IsMade core s m

-- nothing is waiting: each atom that is true or must-be-true has its number, where it needs one
abbrev pub NoneWaiting : {N A K : Type 0} → Rules N A K → State N A K → Type 0
NoneWaiting {N} {A} core s = (x : ℕ) (a : A) → IsName s x a → IsUp s x → core.is_numbered s.numbers a ≡ true

-- settled: nothing is unit, struck, active, due or waiting
pub record IsSettled {N A K : Type 0} (core : Rules N A K) (s : State N A K) : Type 0 where
  pub none_struck : NoneStruck s.stack s.nogoods
  pub none_unit : NoneUnit s.stack s.nogoods
  pub none_active : NoneActive s
  pub none_due : NoneDue core s
  pub none_waiting : NoneWaiting core s

-- stuck: a named atom that is must-be-true where the state is settled, or that became so after a Closed that is on the stack and is so where
-- nothing is unit or struck
pub record IsStuck {N A K : Type 0} (core : Rules N A K) (s : State N A K) (x : ℕ) : Type 0 where
  pub named : (a : A) × IsName s x a
  pub must_be : value_of s.stack x ≡ Some MustBe
  pub none_struck : NoneStruck s.stack s.nogoods
  pub none_unit : NoneUnit s.stack s.nogoods
  pub why : IsSettled core s ⊎ MustSinceClosed s.stack x

-- no atom is stuck. An instance is made and a body is named or chosen only then; else what has to follow a stuck atom comes, and only terms and
-- atoms may be named before it
abbrev pub NoneStuck : {N A K : Type 0} → Rules N A K → State N A K → Type 0
NoneStuck core s = (x : ℕ) → ¬ IsStuck core s x

-- the journal has ended: a nogood was struck at level 0, or a set was found while no literal was chosen. So the search is finished
abbrev pub IsFinished : {N A K : Type 0} → State N A K → Type 0
IsFinished s = (s.phase ≡ Over) ⊎ ((s.phase ≡ Found) × (chosen s.stack ≡ []))

-- a set may be shown or passed: every named and every body atom has a value, none is must-be-true, and nothing is struck, due or waiting
pub record IsFull {N A K : Type 0} (core : Rules N A K) (s : State N A K) : Type 0 where
  pub all_valued : (x : ℕ) (n : AtomNode A) → slice_get s.names x ≡ Some n → (v : Value) × (value_of s.stack x ≡ Some v)
  pub none_must_be : (x : ℕ) → ¬ (value_of s.stack x ≡ Some MustBe)
  pub none_struck : NoneStruck s.stack s.nogoods
  pub none_due : NoneDue core s
  pub none_waiting : NoneWaiting core s

-- the ids are those of the user atoms that are true, in the order of a set line
pub record AreTrueUserAtoms {N A K : Type 0} (core : Rules N A K) (s : State N A K) (ids : List ℕ) : Type 0 where
  pub all_there : (x : ℕ) (a : A) → IsName s x a → core.is_user a ≡ true → value_of s.stack x ≡ Some True → x ∈ ids
  pub each_true : (x : ℕ) → x ∈ ids → (a : A) × IsName s x a × (core.is_user a ≡ true) × (value_of s.stack x ≡ Some True)
  pub atoms : List A
  pub names : Names s.names ids atoms
  pub ordered : core.in_line_order atoms ≡ true

-- the ids name exactly the atoms of this set
abbrev pub IsSetOf : {N A K : Type 0} → State N A K → List ℕ → List A → Type 0
IsSetOf {N} {A} s ids atoms =
    ((a : A) → a ∈ atoms → (x : ℕ) × (x ∈ ids) × IsName s x a)
    × ((x : ℕ) → x ∈ ids → (a : A) × (a ∈ atoms) × IsName s x a)
