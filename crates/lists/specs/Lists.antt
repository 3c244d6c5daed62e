-- The words on lists that the definitions cite.
use Rattle.std.specs.Prelude.{◌≡◌, ◌⊎◌, List, [], ◌∷◌, ◌++◌}

infix 40 ◌∈◌
infix 40 ◌⊆◌
-- x is a member of the list
abbrev pub ◌∈◌ : {A : Type 0} → A → List A → Type 0
x ∈ [] = ⊥
x ∈ (y ∷ ys) = (x ≡ y) ⊎ (x ∈ ys)

-- no member stands twice: the list is a set
abbrev pub HasNoRepeats : {A : Type 0} → List A → Type 0
HasNoRepeats [] = Unit {0}
HasNoRepeats (x ∷ xs) = (¬ (x ∈ xs)) × HasNoRepeats xs

-- P holds of each member
abbrev pub Each : {A : Type 0} → (A → Type 0) → List A → Type 0
Each P [] = Unit {0}
Each P (x ∷ xs) = P x × Each P xs

-- P holds of at least one member
abbrev pub AtLeastOne : {A : Type 0} → (A → Type 0) → List A → Type 0
AtLeastOne P [] = ⊥
AtLeastOne P (x ∷ xs) = P x ⊎ AtLeastOne P xs

-- each member of the first list is one of the second
abbrev pub ◌⊆◌ : {A : Type 0} → List A → List A → Type 0
◌⊆◌ {A} xs ys = (x : A) → x ∈ xs → x ∈ ys

-- the same members, in whatever order and however often
pub record SameSet {A : Type 0} (xs ys : List A) : Type 0 where
  pub to : xs ⊆ ys
  pub back : ys ⊆ xs

-- the lists, one after another
abbrev pub concat : {A : Type 0} → List (List A) → List A
concat [] = []
concat (xs ∷ xss) = xs ++ concat xss
