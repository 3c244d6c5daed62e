-- Places of lists.
use Rattle.std.proofs.Common.{◌≡◌, inl, inr, ℕ, zero, suc, ◌<◌, ◌≤◌, List, [], ◌∷◌, ◌++◌, length, map, slice_get, Option, Some, None, refl, sym, ap, subst, ◌∙◌, arith}
use Rattle.std.specs.Option.{option_map}
use Rattle.std.proofs.lemmas.Option.{slice_get-map, same_Some}
use Rattle.lists.specs.Lists.{◌∈◌, Each}

-- what stands at a place of a list of images is an image of what stands there
pub get_mapped : {A B : Type 0} (f : A → B) (xs : List A) (i : ℕ) (y : B) → slice_get (map f xs) i ≡ Some y → (x : A) × (slice_get xs i ≡ Some x) × (f x ≡ y)
get_mapped f [] i y e = absurd (cc)
get_mapped f (x ∷ xs) zero y e = (x, refl, same_Some (f x) y e)
get_mapped f (x ∷ xs) (suc i) y e = get_mapped f xs i y e

-- and the other way round
pub mapped_at : {A B : Type 0} (f : A → B) (xs : List A) (i : ℕ) (x : A) → slice_get xs i ≡ Some x → slice_get (map f xs) i ≡ Some (f x)
mapped_at f xs i x e = slice_get-map f xs i ∙ ap (option_map f) e

-- what holds of each of two lists together
pub each_of_first : {A : Type 0} (P : A → Type 0) (xs ys : List A) → Each P (xs ++ ys) → Each P xs
each_of_first P [] ys h = tt
each_of_first P (x ∷ xs) ys h = (h.0, each_of_first P xs ys h.1)

pub each_of_second : {A : Type 0} (P : A → Type 0) (xs ys : List A) → Each P (xs ++ ys) → Each P ys
each_of_second P [] ys h = h
each_of_second P (x ∷ xs) ys h = each_of_second P xs ys h.1
