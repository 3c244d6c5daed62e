-- The first few of a list.
use Rattle.std.proofs.Common.{◌≡◌, ℕ, zero, suc, ◌<◌, ◌≤◌, List, [], ◌∷◌, ◌++◌, length, map, take, refl, arith}
use Rattle.std.specs.Prelude.{Option, Some, None, IfNone, slice_get}
use Rattle.std.proofs.lemmas.Option.{same_Some, none-some}

-- what stands among them stands in the list, below their number
pub take_get : {A : Type 0} (n : ℕ) (xs : List A) (i : ℕ) (x : A) → slice_get (take n xs) i ≡ Some x → (i < n) × (slice_get xs i ≡ Some x)
take_get zero xs i x at = absurd (none-some x at)
take_get (suc n) [] i x at = absurd (none-some x at)
take_get (suc n) (y ∷ xs) zero x at = (omega arith, at)
take_get (suc n) (y ∷ xs) (suc i) x at = let k = take_get n xs i x at in (let low = k.0 in omega (arith, low), k.1)

-- what stands in the list below their number stands among them
pub get_take : {A : Type 0} (n : ℕ) (xs : List A) (i : ℕ) (x : A) → i < n → slice_get xs i ≡ Some x → slice_get (take n xs) i ≡ Some x
get_take zero xs i x low at = absurd (omega (arith, low))
get_take (suc n) [] i x low at = absurd (none-some x at)
get_take (suc n) (y ∷ xs) zero x low at = at
get_take (suc n) (y ∷ xs) (suc i) x low at = get_take n xs i x (omega (arith, low)) at

-- images of a longer list by a function that is the same there
pub take_images : {A B : Type 0} (f g : A → B) (n : ℕ) (xs more : List A) → n ≤ length xs →
    ((i : ℕ) (x : A) → slice_get xs i ≡ Some x → f x ≡ g x) → take n (map f (xs ++ more)) ≡ take n (map g xs)
take_images f g zero xs more low same = refl
take_images f g (suc n) [] more low same = absurd (omega (arith, low))
take_images f g (suc n) (x ∷ xs) more low same =
    let rest = take_images f g n xs more (omega (arith, low)) (λ i y at. same (suc i) y at) in
    let first = same zero x refl in
    λ i. first i ∷ rest i

-- what stands at a place of a list of images is an image of what stands there
pub get_mapped : {A B : Type 0} (f : A → B) (xs : List A) (i : ℕ) (y : B) → slice_get (map f xs) i ≡ Some y → (x : A) ×
    (slice_get xs i ≡ Some x) × (f x ≡ y)
get_mapped f [] i y e = absurd (none-some y e)
get_mapped f (x ∷ xs) zero y e = (x, refl, same_Some (f x) y e)
get_mapped f (x ∷ xs) (suc i) y e = get_mapped f xs i y e

-- what follows from what a clause says where there is no value
pub if_none : {X P Q : Type 0} (o : Option X) → IfNone o P → (P → Q) → IfNone o Q
if_none None p f = f p
if_none (Some x) p f = p
