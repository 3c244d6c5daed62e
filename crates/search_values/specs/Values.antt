-- Values of atoms, literals, and the stack of entries that a search keeps.
use Rattle.std.specs.Prelude.{◌≡◌, ℕ, ◌+◌, ◌⊎◌, Bool, true, false, ◌&&◌, ◌||◌, cond, nat_eq, nat_le, List, [], ◌∷◌, Option, Some, None, is_none}
use Rattle.lists.specs.Lists.{◌∈◌}
pub use Rattle.alpha_outside.specs.declared.literal.Value.{Value}
pub use Rattle.alpha_outside.specs.declared.literal.Value.TheVariants.{True, MustBe, False}
pub use Rattle.alpha_outside.specs.declared.literal.Lit.{Lit}
pub use Rattle.search_values.specs.declared.entry.Why.{Why}
pub use Rattle.search_values.specs.declared.entry.Why.TheVariants.{Given, Chosen, Closed}
pub use Rattle.search_values.specs.declared.entry.Entry.{Entry}

-- whether the value says that the atom is in the set: it is true or must-be-true
abbrev pub is_up : Value → Bool
is_up True = true
is_up MustBe = true
is_up False = false

-- the literal of this atom with this sign
abbrev pub lit : ℕ → Bool → Lit
lit atom positive = record { atom = atom; positive = positive }

-- ---- the stack, whose newest entry comes first

-- the value of an atom is that of its newest entry; an atom without an entry is unassigned
abbrev pub value_of : List Entry → ℕ → Option Value
value_of [] a = None
value_of (e ∷ rest) a = cond (nat_eq e.atom a) (Some e.value) (value_of rest a)

-- a positive literal holds where its atom is true or must-be-true, a negative one where it is false
abbrev pub Holds : List Entry → Lit → Type 0
Holds stack l = (v : Value) × (value_of stack l.atom ≡ Some v) × (is_up v ≡ l.positive)

-- the value by which a literal of this sign holds without a must-be-true
abbrev pub full_value : Bool → Value
full_value true = True
full_value false = False

-- a positive literal holds fully where its atom is true, a negative one where it is false
abbrev pub HoldsFully : List Entry → Lit → Type 0
HoldsFully stack l = value_of stack l.atom ≡ Some (full_value l.positive)

-- ---- levels

-- how many levels an entry opens: a decision and a closed atom open one
abbrev pub opened : Why → ℕ
opened (Given n) = 0
opened Chosen = 1
opened (Closed reason) = 1

-- the level of the newest entry: how many levels are open
abbrev pub level_of : List Entry → ℕ
level_of [] = 0
level_of (e ∷ rest) = level_of rest + opened e.why

-- the entry that this value becomes on the stack: its level is the number of levels that are open with it
abbrev pub entry_on : List Entry → ℕ → Value → Why → Entry
entry_on stack atom value why = record { atom = atom; value = value; level = level_of stack + opened why; why = why }

-- the stack without the levels above this one: an atom that was must-be-true below them is so again
abbrev pub back_to : ℕ → List Entry → List Entry
back_to level [] = []
back_to level (e ∷ rest) = cond (nat_le (level_of rest + opened e.why) level) (e ∷ rest) (back_to level rest)

-- the level of an atom's first value, which is that of its oldest entry
abbrev pub first_level : List Entry → ℕ → ℕ
first_level [] a = 0
first_level (e ∷ rest) a = cond (nat_eq e.atom a && is_none (value_of rest a)) (level_of rest + opened e.why) (first_level rest a)

-- whether all literals stand at level 0, by the first values of their atoms
abbrev pub all_at_0 : List Entry → List Lit → Bool
all_at_0 stack [] = true
all_at_0 stack (l ∷ ls) = nat_eq (first_level stack l.atom) 0 && all_at_0 stack ls

-- ---- the literals chosen

-- an entry adds its literal to those chosen where it is a decision on an atom that was unassigned just before
abbrev pub chosen_with : Why → Option Value → Lit → List Lit → List Lit
chosen_with (Given n) before l ls = ls
chosen_with Chosen None l ls = l ∷ ls
chosen_with Chosen (Some v) l ls = ls
chosen_with (Closed reason) before l ls = ls

-- the literals chosen, the newest first: a body that was must-be-true when it was chosen follows from earlier literals, and is none of them
abbrev pub chosen : List Entry → List Lit
chosen [] = []
chosen (e ∷ rest) = chosen_with e.why (value_of rest e.atom) (lit e.atom (is_up e.value)) (chosen rest)

-- a closed entry is on the stack
abbrev pub HasClosed : List Entry → Type 0
HasClosed stack = (e : Entry) × (e ∈ stack) × ((reason : Option ℕ) × (e.why ≡ Closed reason))

-- whether the search set the atom false when nothing else was left to do
abbrev pub is_closed : Why → Bool
is_closed (Given n) = false
is_closed Chosen = false
is_closed (Closed reason) = true

-- whether a closed entry is on the stack
abbrev pub any_closed : List Entry → Bool
any_closed [] = false
any_closed (e ∷ rest) = is_closed e.why || any_closed rest

-- the entries below the first closed one; all, where none is closed
abbrev pub before_closed : List Entry → List Entry
before_closed [] = []
before_closed (e ∷ rest) = cond (any_closed rest) (before_closed rest) (cond (is_closed e.why) rest (e ∷ rest))

-- the atom is closed
abbrev pub IsClosed : List Entry → ℕ → Type 0
IsClosed stack a = (e : Entry) × (e ∈ stack) × (e.atom ≡ a) × (is_closed e.why ≡ true)

-- the atom is closed, and no reason was found for it
abbrev pub IsWithoutReason : List Entry → ℕ → Type 0
IsWithoutReason stack a = (e : Entry) × (e ∈ stack) × (e.atom ≡ a) × (e.why ≡ Closed None)

-- what stands behind an entry for which this nogood was found: a closed one without a reason takes it as its reason
abbrev pub with_reason : Why → ℕ → Why
with_reason (Given m) n = Given m
with_reason Chosen n = Chosen
with_reason (Closed None) n = Closed (Some n)
with_reason (Closed (Some m)) n = Closed (Some m)

-- the entry, with this nogood as its reason where it is a closed one of this atom and has none
abbrev pub explained : ℕ → ℕ → Entry → Entry
explained a n e = record { atom = e.atom; value = e.value; level = e.level; why = cond (nat_eq e.atom a) (with_reason e.why n) e.why }

-- the stack on which this nogood is the reason of the atom's closed entry, where that had none
abbrev pub explain : ℕ → ℕ → List Entry → List Entry
explain a n [] = []
explain a n (e ∷ rest) = explained a n e ∷ explain a n rest

-- the atom is must-be-true, and became so after a Closed that is on the stack
abbrev pub MustSinceClosed : List Entry → ℕ → Type 0
MustSinceClosed [] x = ⊥
MustSinceClosed (e ∷ rest) x = ((e.atom ≡ x) × (e.value ≡ MustBe) × HasClosed rest) ⊎ ((¬ (e.atom ≡ x)) × MustSinceClosed rest x)

-- the value that a decision gives
abbrev pub decision : Bool → Value
decision true = True
decision false = False
