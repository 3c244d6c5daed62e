-- Predicates by number: which lead to which, and what is reached.
-- A predicate's number is its place in a list; a row beside each has the places of the predicates that depend on it at once.
use Rattle.std.specs.Prelude.{◌≡◌, ◌⊎◌, ◌↔◌, ℕ, ◌+◌, ◌<◌, List, [], ◌∷◌, ◌++◌, length, slice_get, Option, Some, None}
use Rattle.std.specs.Option.{option_map}
use Rattle.lists.specs.Lists.{◌∈◌, ◌⊆◌, Each}
use Rattle.asp_syntax.specs.declared.tree.Statement.{Statement}
use Rattle.asp_strata.specs.declared.predicate.Predicate.{Predicate}
use Rattle.asp_strata.specs.Recursion.{head_predicates, needed_predicates, element_predicates, occurring, DependsOnHead, written}
use Rattle.asp_strata.specs.Firsts.{IsFirstBad}
use Rattle.asp_strata.specs.Strata.{AtMost, Below}

-- a set of places grew by this one
abbrev pub Adds : List ℕ → List ℕ → ℕ → Type 0
Adds old new i = ((i ∈ old) × (new ≡ old)) ⊎ ((¬ (i ∈ old)) × (new ≡ old ++ i ∷ []))

-- the place of one of these predicates
abbrev pub IsPlaceOf : List Predicate → List Predicate → ℕ → Type 0
IsPlaceOf table ps i = (p : Predicate) × (p ∈ ps) × (slice_get table i ≡ Some p)

-- the row of j has i
abbrev pub Leads : List (List ℕ) → ℕ → ℕ → Type 0
Leads rows j i = (row : List ℕ) × (slice_get rows j ≡ Some row) × (i ∈ row)

-- rows hold places of rows alone
abbrev pub IsWithin : List (List ℕ) → Type 0
IsWithin rows = (j i : ℕ) → Leads rows j i → i < length rows

-- i is a root, or rows lead to it from a root
pub data Reached (rows : List (List ℕ)) (roots : List ℕ) : ℕ → Type 0 where
  root : (i : ℕ) → i ∈ roots → Reached rows roots i
  onward : (i j : ℕ) → Reached rows roots j → Leads rows j i → Reached rows roots i

-- a statement of the program has the predicate at i in its head and needs the one at j
abbrev pub Linked : List Predicate → List Statement → ℕ → ℕ → Type 0
Linked table P j i = (s : Statement) × (s ∈ P) × IsPlaceOf table (head_predicates s.head) i × IsPlaceOf table (needed_predicates s) j

-- the predicates of the program, and beside each a row of those that depend on it at once
pub record IsGraph (P : List Statement) (table : List Predicate) (rows : List (List ℕ)) : Type 0 where
  pub occur : (p : Predicate) → (p ∈ table) ↔ (p ∈ occurring P)
  pub beside : length rows ≡ length table
  pub rows_are : (j i : ℕ) → Leads rows j i ↔ Linked table P j i

-- these are the places of the predicates that are in the statement's head or depend on one of it
pub record AreDependents (P : List Statement) (table : List Predicate) (s : Statement) (found : List ℕ) : Type 0 where
  pub sound : (i : ℕ) → i ∈ found → (p : Predicate) × (slice_get table i ≡ Some p) × DependsOnHead P s p
  pub complete : (i : ℕ) (p : Predicate) → slice_get table i ≡ Some p → DependsOnHead P s p → i ∈ found

-- the predicate's place was found
abbrev pub IsFound : List Predicate → List ℕ → Predicate → Type 0
IsFound table found p = (i : ℕ) × (slice_get table i ≡ Some p) × (i ∈ found)

-- none of the predicates depends on the statement's head, or the first that does is written so
abbrev pub FindsDependent : List Statement → Statement → List Predicate → Option (List ℕ) → Type 0
FindsDependent P s ps None = Each (λ q. ¬ DependsOnHead P s q) ps
FindsDependent P s ps (Some name) = (p : Predicate) × IsFirstBad (λ q. ¬ DependsOnHead P s q) ps p × DependsOnHead P s p × (name ≡ written p)

-- ---- strata by place

-- of the places that were found those in `rest` are still to be raised by one
pub record Raised (old new found rest : List ℕ) : Type 0 where
  pub size : length new ≡ length old
  pub inside : rest ⊆ found
  pub later : (i : ℕ) → i ∈ rest → slice_get new i ≡ slice_get old i
  pub raised : (i : ℕ) → i ∈ found → (i ∈ rest) ⊎ (slice_get new i ≡ option_map (λ n. n + 1) (slice_get old i))
  pub other : (i : ℕ) → ¬ (i ∈ found) → slice_get new i ≡ slice_get old i

-- in this statement elements have lower strata than the head
abbrev pub IsLayered : List Predicate → List ℕ → Statement → Type 0
IsLayered table strata s = (i j : ℕ) → IsPlaceOf table (head_predicates s.head) i → IsPlaceOf table (element_predicates s) j → Below (slice_get strata j) (slice_get strata i)

-- strata don't fall along rows
abbrev pub KeepsUp : List (List ℕ) → List ℕ → Type 0
KeepsUp rows strata = (j i : ℕ) → Leads rows j i → AtMost (slice_get strata j) (slice_get strata i)

-- what was lower stays lower
pub record Climbs (table : List Predicate) (rows : List (List ℕ)) (P : List Statement) (old new : List ℕ) : Type 0 where
  pub size : length new ≡ length old
  pub keeps_up : KeepsUp rows old → KeepsUp rows new
  pub layered : (s : Statement) → s ∈ P → IsLayered table old s → IsLayered table new s
