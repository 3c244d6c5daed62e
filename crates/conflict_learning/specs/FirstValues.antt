-- The places of first values on a stack: how many entries were there when an atom got its first value, and when the last literal of a
-- nogood came.
use Rattle.std.specs.Prelude.{ℕ, ◌+◌, max, cond, nat_eq, List, [], ◌∷◌, length, Option, Some, None}
use Rattle.search_values.specs.declared.entry.Entry.{Entry}
use Rattle.search_values.specs.Values.{Lit}

-- the atom's place where it has one, or this one
abbrev pub or_place : Option ℕ → ℕ → Option ℕ
or_place None n = Some n
or_place (Some p) n = Some p

-- the place of the atom's first value: how many entries are older
abbrev pub first_place : List Entry → ℕ → Option ℕ
first_place [] a = None
first_place (e ∷ rest) a = cond (nat_eq e.atom a) (or_place (first_place rest a) (length rest)) (first_place rest a)

-- how many entries there were when an atom got its first value, that one included: none where it has none
abbrev pub count_to : Option ℕ → ℕ
count_to None = 0
count_to (Some p) = p + 1

-- how many entries there were when the last literal of a nogood came onto the stack, by the first values of its atoms: none for an empty
-- one
abbrev pub came_with : List Entry → List Lit → ℕ
came_with stack [] = 0
came_with stack (l ∷ ls) = max (count_to (first_place stack l.atom)) (came_with stack ls)
