-- Lists that grow at their end and hold nothing twice: what an arena says when it is asked for the place of something.
use Rattle.std.specs.Prelude.{◌≡◌, ◌⊎◌, ℕ, List, [], ◌∷◌, ◌++◌, Some, length, slice_get}

-- no two places hold the same
abbrev pub NoneTwice : {A : Type 0} → List A → Type 0
NoneTwice {A} xs = (i j : ℕ) (x : A) → slice_get xs i ≡ Some x → slice_get xs j ≡ Some x → i ≡ j

-- the list has x at this place; it is the old one where that had x, and else the old one with x as its last
pub record IsInterned {A : Type 0} (old new : List A) (x : A) (id : ℕ) : Type 0 where
  pub there : slice_get new id ≡ Some x
  pub grown : (new ≡ old) ⊎ (new ≡ old ++ x ∷ [])
  pub known : (i : ℕ) → slice_get old i ≡ Some x → (new ≡ old) × (id ≡ i)
  pub added : ((i : ℕ) → slice_get old i ≡ Some x → ⊥) → (new ≡ old ++ x ∷ []) × (id ≡ length old)
