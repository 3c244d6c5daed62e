-- What the ids of a search stand for.
use Rattle.std.proofs.Common.{◌≡◌, ℕ, zero, suc, ◌<◌, inl, inr, List, [], ◌∷◌, length, take, refl, sym, ◌∙◌, ap, subst, arith}
use Rattle.std.specs.Prelude.{Some, slice_get}
use Rattle.lists.specs.Lists.{◌∈◌}
use Rattle.core_meaning.specs.Atoms.{GroundAtom}
use Rattle.search_values.specs.declared.entry.Entry.{Entry}
use Rattle.search_values.specs.Values.{Value, value_of}
use Rattle.search_values.specs.Ids.{AtomNode, Named, Names}
use Rattle.search_values.proofs.Basics.{value_cases}

-- something stands at each place
pub get_some : {X : Type 0} (xs : List X) (n : ℕ) → n < length xs → (x : X) × (slice_get xs n ≡ Some x)
get_some [] n low = absurd (omega (arith, low))
get_some (z ∷ xs) zero low = (z, refl)
get_some (z ∷ xs) (suc n) low = get_some xs n (omega (arith, low))

-- what stands in a front stands below its end
pub front_below : {X : Type 0} (n : ℕ) (xs : List X) (i : ℕ) (x : X) → slice_get (take n xs) i ≡ Some x → i < n
front_below zero xs i x e = absurd (cc)
front_below (suc n) [] i x e = absurd (cc)
front_below (suc n) (y ∷ xs) zero x e = omega arith
front_below (suc n) (y ∷ xs) (suc i) x e = let low = front_below n xs i x e in omega (arith, low)

-- and stands in the whole
pub front_at : {X : Type 0} (n : ℕ) (xs : List X) (i : ℕ) (x : X) → slice_get (take n xs) i ≡ Some x → slice_get xs i ≡ Some x
front_at zero xs i x e = absurd (cc)
front_at (suc n) [] i x e = e
front_at (suc n) (y ∷ xs) zero x e = e
front_at (suc n) (y ∷ xs) (suc i) x e = front_at n xs i x e

-- a member stands at a place
pub get_at : {X : Type 0} (xs : List X) (x : X) → x ∈ xs → (n : ℕ) × (slice_get xs n ≡ Some x)
get_at [] x i = absurd i
get_at (z ∷ xs) x (inl e) = (0, ap (λ w. Some w) (sym e))
get_at (z ∷ xs) x (inr i) = let k = get_at xs x i in (suc k.0, k.1)

-- each of the atoms has one of the ids
pub name_among : (names : List (AtomNode GroundAtom)) (xs : List ℕ) (atoms : List GroundAtom) → Names names xs atoms → (a : GroundAtom)
    → a ∈ atoms → (x : ℕ) × (x ∈ xs) × (slice_get names x ≡ Some (Named a))
name_among names [] [] h a i = absurd i
name_among names [] (b ∷ atoms) h a i = absurd h
name_among names (y ∷ xs) [] h a i = absurd i
name_among names (y ∷ xs) (b ∷ atoms) h a (inl e) = (y, inl refl, subst (λ z. slice_get names y ≡ Some (Named z)) (sym e) h.0)
name_among names (y ∷ xs) (b ∷ atoms) h a (inr i) = let r = name_among names xs atoms h.1 a i in (r.0, inr r.1, r.2)

-- an atom with a value has an entry
pub has_entry : (stack : List Entry) (x : ℕ) (v : Value) → value_of stack x ≡ Some v → (e : Entry) × (e ∈ stack) × (e.atom ≡ x)
has_entry [] x v h = cc
has_entry (e ∷ rest) x v h = elim (value_cases e rest x) [
  | inl c ↦ (e, inl refl, c.0)
  | inr c ↦ (let k = has_entry rest x v (sym c.1 ∙ h) in (k.0, inr k.1, k.2))
]
