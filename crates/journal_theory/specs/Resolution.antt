-- Resolution on nogoods: what follows from nogoods, what arises from a struck one, and the form of what analysis learns.
use Rattle.std.specs.Prelude.{◌≡◌, ℕ, ◌<◌, ◌⊎◌, true, not, List, [], ◌∷◌, Some, None, slice_get}
use Rattle.lists.specs.Lists.{◌∈◌, SameSet}
use Rattle.search_values.specs.declared.entry.Why.{Why}
use Rattle.search_values.specs.declared.entry.Why.TheVariants.{Given, Chosen, Closed}
use Rattle.search_values.specs.declared.entry.Entry.{Entry}
use Rattle.search_values.specs.Values.{False, Lit, lit, value_of, Holds, first_level, before_closed, IsClosed}
use Rattle.search_values.specs.Nogoods.{Nogood, Gives}

-- the literal of the same atom with the other sign
abbrev pub opposite : Lit → Lit
opposite l = lit l.atom (not l.positive)

-- the resolvent of two nogoods on this literal, which is in the first, and whose opposite is in the second: all other literals of both
pub record IsResolvent (l : Lit) (ls reason result : List Lit) : Type 0 where
  pub among : l ∈ ls
  pub denied : opposite l ∈ reason
  pub from : (k : Lit) → k ∈ result → ((k ∈ ls) × (¬ (k ≡ l))) ⊎ ((k ∈ reason) × (¬ (k ≡ opposite l)))
  pub left : (k : Lit) → k ∈ ls → (¬ (k ≡ l)) → k ∈ result
  pub added : (k : Lit) → k ∈ reason → (¬ (k ≡ opposite l)) → k ∈ result

-- the literals follow by resolution from these nogoods
pub data Follows (ngs : List Nogood) : List Lit → Type 0 where
  is_nogood : (ng : Nogood) (ls : List Lit) → ng ∈ ngs → SameSet ng.lits ls → Follows ngs ls
  resolved : (l : Lit) (ls ms result : List Lit) → Follows ngs ls → Follows ngs ms → IsResolvent l ls ms result → Follows ngs result

-- the nogood is the reason of an entry of this atom: it gave the value, or it was found for a closed atom later
pub record IsReasonOf (ngs : List Nogood) (stack : List Entry) (a : ℕ) (ng : Nogood) : Type 0 where
  pub entry : Entry
  pub among : entry ∈ stack
  pub atom_is : entry.atom ≡ a
  pub id : ℕ
  pub why : (entry.why ≡ Given id) ⊎ (entry.why ≡ Closed (Some id))
  pub there : slice_get ngs id ≡ Some ng

-- these literals or a resolvent of them: what arises by resolving with reasons of the entries on the stack
pub data Arises (ngs : List Nogood) (stack : List Entry) (struck : List Lit) : List Lit → Type 0 where
  itself : (ls : List Lit) → SameSet struck ls → Arises ngs stack struck ls
  by_reason : (l : Lit) (ng : Nogood) (ls result : List Lit) → Arises ngs stack struck ls → IsReasonOf ngs stack l.atom ng → IsResolvent l ls ng.lits result
      → Arises ngs stack struck result

-- just one of the literals stands at their highest level, by the first values of their atoms, and that level isn't 0
pub record IsOneHighest (stack : List Entry) (ls : List Lit) : Type 0 where
  pub left : Lit
  pub among : left ∈ ls
  pub above : 0 < first_level stack left.atom
  pub others : (l : Lit) → l ∈ ls → (l ≡ left) ⊎ (first_level stack l.atom < first_level stack left.atom)

-- the form of what analysis learns: it follows by resolution from earlier nogoods, all its literals hold, none is of a closed atom, and just one
-- stands at the highest level
pub record IsAnalysed (ngs : List Nogood) (stack : List Entry) (ls : List Lit) : Type 0 where
  pub follows : Follows ngs ls
  pub hold : (l : Lit) → l ∈ ls → Holds stack l
  pub none_closed : (l : Lit) → l ∈ ls → ¬ IsClosed stack l.atom
  pub one_highest : IsOneHighest stack ls

-- ---- what the entries of a stack rest on

-- the nogood is a reason for a closed atom: it has the positive literal of the atom, and its other literals held before the first closed entry
pub record IsClosedReason (before : List Entry) (a : ℕ) (ng : Nogood) : Type 0 where
  pub among : lit a true ∈ ng.lits
  pub others : (l : Lit) → l ∈ ng.lits → (l ≡ lit a true) ⊎ Holds before l

-- what an entry above others rests on: a given value on a nogood that was unit and gave it; a closed one on its reason, where it has one
abbrev pub RestsOn : List Nogood → Entry → List Entry → Why → Type 0
RestsOn ngs e rest (Given n) = (ng : Nogood) × (slice_get ngs n ≡ Some ng) × Gives rest ng e.atom e.value
RestsOn ngs e rest Chosen = Unit {0}
RestsOn ngs e rest (Closed None) = (value_of rest e.atom ≡ None) × (e.value ≡ False)
RestsOn ngs e rest (Closed (Some n)) =
    (value_of rest e.atom ≡ None) × (e.value ≡ False) × ((ng : Nogood) × (slice_get ngs n ≡ Some ng) × IsClosedReason (before_closed (e ∷ rest)) e.atom ng)

-- each entry rests on what it should
abbrev pub EachRests : List Nogood → List Entry → Type 0
EachRests ngs [] = Unit {0}
EachRests ngs (e ∷ rest) = RestsOn ngs e rest e.why × EachRests ngs rest
