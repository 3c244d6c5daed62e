-- What ids stand for: named atoms and bodies, their truth in a set of atoms, and what an instance over ids denotes.
use Rattle.std.specs.Prelude.{◌≡◌, ℕ, Bool, true, false, List, [], ◌∷◌, Option, Some, None, slice_get}
use Rattle.search_values.specs.Instances.{Kind, Plain, Choice, Constraint, Instance, body_true}
use Rattle.search_values.specs.Tables.{Made}

-- what the id of an atom stands for: a named atom, or the body of the instance with this number
pub data AtomNode (A : Type 0) : Type 0 where
  Named : A → AtomNode A
  BodyOf : ℕ → AtomNode A

-- whether what an id stands for is a named atom of the set
abbrev pub named_in : {A : Type 0} → (A → Bool) → Option (AtomNode A) → Bool
named_in c None = false
named_in c (Some (Named a)) = c a
named_in c (Some (BodyOf k)) = false

-- whether the atom that the id names is in the set
abbrev pub named_true : {A : Type 0} → List (AtomNode A) → (A → Bool) → ℕ → Bool
named_true names c x = named_in c (slice_get names x)

-- whether the body atom of an instance is true where its atoms are so
abbrev pub made_true : {K : Type 0} → (ℕ → Bool) → Option (Made K) → Bool
made_true w None = false
made_true w (Some k) = body_true w k.inst

-- whether what an id stands for is true in the set: a body atom is where its instance's is
abbrev pub node_true : {A K : Type 0} → (ℕ → Bool) → List (Made K) → (A → Bool) → Option (AtomNode A) → Bool
node_true w made c None = false
node_true w made c (Some (Named a)) = c a
node_true w made c (Some (BodyOf k)) = made_true w (slice_get made k)

-- the ids name these atoms, one by one
abbrev pub Names : {A : Type 0} → List (AtomNode A) → List ℕ → List A → Type 0
Names names [] [] = Unit {0}
Names names [] (a ∷ atoms) = ⊥
Names names (x ∷ xs) [] = ⊥
Names names (x ∷ xs) (a ∷ atoms) = (slice_get names x ≡ Some (Named a)) × Names names xs atoms

-- the kind over ids is this one over atoms
abbrev pub KindNames : {A : Type 0} → List (AtomNode A) → Kind ℕ → Kind A → Type 0
KindNames names (Plain x) (Plain a) = slice_get names x ≡ Some (Named a)
KindNames names (Plain x) (Choice a) = ⊥
KindNames names (Plain x) Constraint = ⊥
KindNames names (Choice x) (Choice a) = slice_get names x ≡ Some (Named a)
KindNames names (Choice x) (Plain a) = ⊥
KindNames names (Choice x) Constraint = ⊥
KindNames names Constraint Constraint = Unit {0}
KindNames names Constraint (Plain a) = ⊥
KindNames names Constraint (Choice a) = ⊥

-- the instance over ids is this one over atoms
pub record Denotes {A : Type 0} (names : List (AtomNode A)) (k : Instance ℕ) (i : Instance A) : Type 0 where
  pub kind : KindNames names k.kind i.kind
  pub pos : Names names k.pos i.pos
  pub neg : Names names k.neg i.neg
