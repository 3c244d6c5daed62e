-- What was seen in going through a list.
use Rattle.std.proofs.Common.{◌≡◌, ℕ, suc, zero, ◌<◌, ◌≤◌, List, [], ◌∷◌, length, take, get_or, refl, sym, subst, inl, inr, arith}
use Rattle.std.proofs.Math.Seq.{take-length}
use Rattle.lists.specs.Lists.{◌∈◌, Each}

-- what stands at a place is a member
pub get_or-in : {A : Type 0} (xs : List A) (i : ℕ) (d : A) → i < length xs → get_or xs i d ∈ xs
get_or-in [] i d h = absurd (omega arith)
get_or-in (x ∷ xs) zero d h = inl refl
get_or-in (x ∷ xs) (suc i) d h = inr (get_or-in xs i d (omega arith))

-- the item that is looked at is a member
pub here-in : {A : Type 0} (xs : List A) (i : ℕ) (x : A) → i < length xs → x ≡ get_or xs i x → x ∈ xs
here-in xs i x h here = subst (λ z. z ∈ xs) (sym here) (get_or-in xs i x h)

-- a member of the first few is one of all
pub ∈-take : {A : Type 0} (n : ℕ) (xs : List A) (x : A) → x ∈ take n xs → x ∈ xs
∈-take zero xs x h = absurd h
∈-take (suc n) [] x h = absurd h
∈-take (suc n) (y ∷ xs) x (inl e) = inl e
∈-take (suc n) (y ∷ xs) x (inr h) = inr (∈-take n xs x h)

-- all were seen
pub Each-take_all : {A : Type 0} (P : A → Type 0) (xs : List A) (i : ℕ) → i ≤ length xs → length xs ≤ i → Each P (take i xs) → Each P xs
Each-take_all P xs i low high each = let e : i ≡ length xs = omega arith in subst (λ ys. Each P ys) (take-length xs)
    (subst (λ n. Each P (take n xs)) e each)
