-- What still may come: instances, values, joins, and nogoods of literals chosen.
use Rattle.std.specs.Prelude.{ℕ, ◌+◌, ◌-◌, ◌^◌, zero, suc, Bool, true, false, not, ◌&&◌, ◌||◌, cond, List, [], ◌∷◌, ◌++◌, map, length, Option, Some, None}
use Rattle.std.specs.List.{list_any}
use Rattle.alpha_outside.specs.declared.literal.Value.{Value}
use Rattle.alpha_outside.specs.declared.literal.Value.TheVariants.{True, MustBe, False}
use Rattle.alpha_outside.specs.declared.literal.Lit.{Lit}
use Rattle.search_values.specs.declared.entry.Entry.{Entry}
use Rattle.search_values.specs.Values.{value_of, lit}
use Rattle.search_values.specs.Nogoods.{Nogood}
use Rattle.search_values.specs.Tables.{same_lit}
use Rattle.search_state.specs.Searching.{Searching}

-- how many ids there may be
unfoldable pub id_count : ℕ
id_count = 2 ^ 32

-- the entries that may still come over this value of an atom
abbrev pub room : Option Value → ℕ
room None = 2
room (Some True) = 0
room (Some MustBe) = 1
room (Some False) = 0

-- the entries that may still come for the ids below this one
abbrev pub room_below : List Entry → ℕ → ℕ
room_below stack zero = 0
room_below stack (suc n) = room (value_of stack n) + room_below stack n

-- the entries that weren't joined yet
abbrev pub waiting : Searching → ℕ
waiting v = length v.stack - v.joined

-- the instances, values and joins that may come before the literals chosen are learned: each value counts twice, since it is joined once
abbrev pub work_left : Searching → ℕ
work_left v = v.left + (room_below v.stack id_count + room_below v.stack id_count) + waiting v

-- sets of literals of ids below this one, without both signs of one
abbrev pub candidates : ℕ → List (List Lit)
candidates zero = [] ∷ []
candidates (suc n) = map (λ ls. lit n true ∷ ls) (candidates n) ++ map (λ ls. lit n false ∷ ls) (candidates n) ++ candidates n

-- whether the literal is in the list
abbrev pub has : List Lit → Lit → Bool
has [] l = false
has (k ∷ ks) l = same_lit k l || has ks l

-- whether all of these are in the list
abbrev pub all_in : List Lit → List Lit → Bool
all_in [] ks = true
all_in (l ∷ ls) ks = has ks l && all_in ls ks

abbrev pub is_empty : List Lit → Bool
is_empty [] = true
is_empty (l ∷ ls) = false

-- the nogood has literals, and all are among these
abbrev pub blocks : List Lit → Nogood → Bool
blocks ks ng = not (is_empty ng.lits) && all_in ng.lits ks

-- how many of these are supersets of no nogood but the empty one
abbrev pub open_of : List Nogood → List (List Lit) → ℕ
open_of ngs [] = 0
open_of ngs (ks ∷ more) = cond (list_any (blocks ks) ngs) 0 1 + open_of ngs more

-- the sets of literals that may still be learned
abbrev pub still_open : List Nogood → ℕ
still_open ngs = open_of ngs (candidates id_count)

-- what may come in rounds, where so many nogoods may be struck and so many sets of literals learned: for each nogood that is struck there may be
-- as many sets of literals again
abbrev pub rounds_left : ℕ → ℕ → ℕ
rounds_left zero n = n
rounds_left (suc rest) n = suc (length (candidates id_count)) + rounds_left rest n
