-- What a visit of a nogood answers.
use Rattle.std.specs.Prelude.{◌≡◌, ℕ, Bool, true, false, not, ◌&&◌, cond, nat_eq, Option, Some, None, List, slice_get, ⊤}
use Rattle.lists.specs.Lists.{◌∈◌}
use Rattle.alpha_outside.specs.declared.literal.Value.{Value}
use Rattle.alpha_outside.specs.declared.literal.Value.TheVariants.{True, MustBe, False}
use Rattle.alpha_outside.specs.declared.literal.Lit.{Lit}
use Rattle.search_values.specs.declared.entry.Entry.{Entry}
use Rattle.search_values.specs.Nogoods.{Nogood, IsStruck, Gives}
use Rattle.nogood_store.specs.Stored.{Stored, nogood_of}
use Rattle.nogood_store.specs.declared.looking.Says.{Says}
use Rattle.nogood_store.specs.declared.looking.Says.TheVariants.{Nothing, Follows, Conflict}
use Rattle.nogood_store.specs.declared.looking.Visit.{Visit}
use Rattle.nogood_store.specs.declared.looking.Visit.TheVariants.{Idle, Unit as Forces, Struck}

-- this is exactly what the nogood says on this stack
abbrev pub SaysIs : List Entry → Nogood → Says → Type 0
SaysIs stack ng Conflict = IsStruck stack ng
SaysIs stack ng (Follows a v) = Gives stack ng a v
SaysIs stack ng Nothing = (¬ IsStruck stack ng) × ((a : ℕ) (v : Value) → ¬ Gives stack ng a v)

-- the answer is exactly what the stored nogood says on this stack: where it is unit, the place is that of the literal whose atom gets the value
abbrev pub VisitIs : List Entry → Stored → Visit → Type 0
VisitIs stack s Struck = IsStruck stack (nogood_of s)
VisitIs stack s (Forces place v) = (l : Lit) × (slice_get s.lits place ≡ Some l) × Gives stack (nogood_of s) l.atom v
VisitIs stack s Idle = (¬ IsStruck stack (nogood_of s)) × ((a : ℕ) (v : Value) → ¬ Gives stack (nogood_of s) a v)

-- whether a literal of this sign holds at this value of its atom
abbrev pub value_holds : Option Value → Bool → Bool
value_holds None positive = false
value_holds (Some True) positive = positive
value_holds (Some MustBe) positive = positive
value_holds (Some False) positive = not positive

-- whether it holds fully
abbrev pub value_is_full : Option Value → Bool → Bool
value_is_full None positive = false
value_is_full (Some True) positive = positive
value_is_full (Some MustBe) positive = false
value_is_full (Some False) positive = not positive

abbrev pub is_must_be_value : Option Value → Bool
is_must_be_value None = false
is_must_be_value (Some True) = false
is_must_be_value (Some MustBe) = true
is_must_be_value (Some False) = false

abbrev pub is_head_atom : Option ℕ → ℕ → Bool
is_head_atom None a = false
is_head_atom (Some h) a = nat_eq h a

abbrev pub answer_unassigned : ℕ → Bool → Bool → Says
answer_unassigned a true rises = Follows a False
answer_unassigned a false rises = cond rises (Follows a True) (Follows a MustBe)

-- what a nogood says whose only literal that doesn't hold is this one
abbrev pub answer_of : Lit → Option Value → Bool → Bool → Says
answer_of l None fully heads = answer_unassigned l.atom l.positive (fully && heads)
answer_of l (Some MustBe) fully heads = cond (fully && heads) (Follows l.atom True) Nothing
answer_of l (Some True) fully heads = Nothing
answer_of l (Some False) fully heads = Nothing

-- what follows is a value of the atom of one of the literals
abbrev pub IsPlaced : List Lit → Says → Type 0
IsPlaced lits Nothing = ⊤
IsPlaced lits (Follows a v) = (l : Lit) × (l ∈ lits) × (l.atom ≡ a)
IsPlaced lits Conflict = ⊤

-- the answer tells what the nogood says, with the place of the literal whose atom gets the value
abbrev pub AnswerIs : List Lit → Says → Visit → Type 0
AnswerIs lits Nothing answer = answer ≡ Idle
AnswerIs lits (Follows a v) answer = (place : ℕ) × (l : Lit) × (answer ≡ Forces place v) × (slice_get lits place ≡ Some l) × (l.atom ≡ a)
AnswerIs lits Conflict answer = answer ≡ Struck
