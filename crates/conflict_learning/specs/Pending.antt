-- What an analysis keeps on its way down the stack: marks at the places of first values whose literals are still to be looked at.
use Rattle.std.specs.Prelude.{◌≡◌, ℕ, ◌+◌, ◌≤◌, ◌<◌, max, ◌⊎◌, Bool, true, false, ◌&&◌, not, cond, nat_eq, nat_lt, get_or, List, [], ◌∷◌, length, Option, Some, None}
use Rattle.lists.specs.Lists.{◌∈◌}
use Rattle.alpha_outside.specs.declared.literal.Lit.{Lit}
use Rattle.search_values.specs.declared.entry.Why.{Why}
use Rattle.search_values.specs.declared.entry.Entry.{Entry}
use Rattle.search_values.specs.declared.entry.Why.TheVariants.{Given, Chosen, Closed}
use Rattle.search_values.specs.Values.{lit, is_up, value_of, Holds, is_closed}
use Rattle.conflict_learning.specs.FirstValues.{first_place}
use Rattle.conflict_learning.specs.Analysing.{level_at}
use Rattle.conflict_learning.specs.declared.analysis.Treatment.{Treatment}
use Rattle.conflict_learning.specs.declared.analysis.Treatment.TheVariants.{Keep, Resolve, Missing}

-- the highest level of these literals, or 0
abbrev pub highest_of : List Entry → List Lit → ℕ
highest_of stack [] = 0
highest_of stack (l ∷ ls) = max (level_at stack l) (highest_of stack ls)

-- the highest level of these literals below this one, or 0
abbrev pub second_of : List Entry → ℕ → List Lit → ℕ
second_of stack top [] = 0
second_of stack top (l ∷ ls) = max (cond (nat_lt (level_at stack l) top) (level_at stack l) 0) (second_of stack top ls)

-- the literal that holds by an entry
abbrev pub lit_of : Entry → Lit
lit_of e = lit e.atom (is_up e.value)

-- what comes of the literal of an entry, where so many open literals of the highest level are left with it
abbrev pub treatment_of : Why → ℕ → ℕ → ℕ → Treatment
treatment_of (Given n) level top count = cond (nat_eq level top && nat_lt 1 count) (Resolve n) Keep
treatment_of Chosen level top count = Keep
treatment_of (Closed None) level top count = Missing
treatment_of (Closed (Some n)) level top count = Resolve n

-- the level to go back to once a literal at this level is kept: one below the highest level may raise it
abbrev pub IsBackWith : ℕ → ℕ → ℕ → ℕ → Type 0
IsBackWith back level top now = ((level < top) × (now ≡ max back level)) ⊎ ((¬ (level < top)) × (now ≡ back))

-- ---- places

-- the places of the first values, atom by atom
abbrev pub ArePlaces : List Entry → List (Option ℕ) → Type 0
ArePlaces stack places = (a p : ℕ) → first_place stack a ≡ Some p → (a < length places) × (get_or places a None ≡ Some p)

-- the atom has a first value
abbrev pub IsPlaced : List Entry → ℕ → Type 0
IsPlaced stack a = (p : ℕ) × (first_place stack a ≡ Some p)

-- the entry stands at this place, and gave its atom the first value
abbrev pub IsFirstAt : List Entry → ℕ → Entry → Type 0
IsFirstAt [] p f = ⊥
IsFirstAt (e ∷ rest) p f = ((p ≡ length rest) × (f ≡ e) × (value_of rest e.atom ≡ None)) ⊎ IsFirstAt rest p f

-- ---- marks

-- the marked entries
abbrev pub pending : List Bool → List Entry → List Entry
pending marks [] = []
pending marks (e ∷ rest) = cond (get_or marks (length rest) false) (e ∷ pending marks rest) (pending marks rest)

-- whether the entry is at this level and not closed
abbrev pub is_open_at : ℕ → Entry → Bool
is_open_at level e = nat_eq e.level level && not (is_closed e.why)

-- one where it is so, else none
abbrev pub one_if : Bool → ℕ
one_if true = 1
one_if false = 0

-- how many of the entries are at this level and not closed
abbrev pub open_at : ℕ → List Entry → ℕ
open_at level [] = 0
open_at level (e ∷ es) = open_at level es + one_if (is_open_at level e)

-- each marked entry gave its atom the first value, at this level at most
abbrev pub AreMarks : ℕ → List Bool → List Entry → Type 0
AreMarks top marks [] = Unit {0}
AreMarks top marks (e ∷ rest) = (get_or marks (length rest) false ≡ true → (value_of rest e.atom ≡ None) × (e.level ≤ top))
    × AreMarks top marks rest

-- each literal holds on what is left of the stack, at this level at most, or is marked already
abbrev pub MayMark : List Entry → List Bool → List Entry → ℕ → List Lit → Type 0
MayMark stack marks rest top ls =
    (l : Lit) → l ∈ ls → (Holds rest l × (level_at stack l ≤ top))
    ⊎ ((p : ℕ) × (first_place stack l.atom ≡ Some p) × (get_or marks p false ≡ true))

-- these literals were marked, as far as they hold on what is left of the stack
pub record AreMarked (top : ℕ) (rest : List Entry) (old new : List Bool) (ls : List Lit) : Type 0 where
  pub same_length : length new ≡ length old
  pub kept : (p : ℕ) → get_or old p false ≡ true → get_or new p false ≡ true
  pub known : (e : Entry) → e ∈ pending new rest → (e ∈ pending old rest) ⊎ (lit_of e ∈ ls)
  pub all : (l : Lit) → l ∈ ls → Holds rest l → (e : Entry) × (e ∈ pending new rest) × (lit_of e ≡ l)
  pub are_marks : AreMarks top old rest → AreMarks top new rest
