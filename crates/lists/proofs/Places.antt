-- Places of lists: what stands at one, and fronts and what is behind them.
use Rattle.std.proofs.Common.{◌≡◌, inl, inr, refl, sym, ap, subst, ◌∙◌, ℕ, zero, suc, ◌+◌, ◌<◌, ◌≤◌, add-one, take-append-drop, Bool, List, [], ◌∷◌, ◌++◌, length, take, drop, get_or, set, slice_get, Some, arith}
use Rattle.std.specs.List.{take_while, prefix_len}
use Rattle.std.proofs.Math.Seq.{drop-cons}
use Rattle.std.proofs.lemmas.List.{length-take-le}
use Rattle.std.proofs.lemmas.List.Sums.{prefix_len-le-length}
use Rattle.lists.specs.Lists.{◌∈◌}

-- ---- what stands at a place

-- something stands at each place before the end
pub get_below : {A : Type 0} (xs : List A) (n : ℕ) → n < length xs → (x : A) × (slice_get xs n ≡ Some x)
get_below [] n low = absurd (omega arith)
get_below (x ∷ xs) zero low = (x, refl)
get_below (x ∷ xs) (suc n) low = get_below xs n (omega arith)

-- a member stands at some place
pub get_of : {A : Type 0} (xs : List A) (x : A) → x ∈ xs → (n : ℕ) × (slice_get xs n ≡ Some x)
get_of [] x among = absurd among
get_of (y ∷ xs) x (inl e) = (0, ap Some (sym e))
get_of (y ∷ xs) x (inr among) = let found = get_of xs x among in (suc found.0, found.1)

-- what is read at a place is a member
pub ∈-get_or : {A : Type 0} (xs : List A) (n : ℕ) (x : A) → n < length xs → x ≡ get_or xs n x → x ∈ xs
∈-get_or [] n x low e = absurd (omega arith)
∈-get_or (y ∷ xs) zero x low e = inl e
∈-get_or (y ∷ xs) (suc n) x low e = inr (∈-get_or xs n x (omega arith) e)

-- what was written at a place stands there
pub get-set_same : {A : Type 0} (xs : List A) (n : ℕ) (x : A) → n < length xs → slice_get (set xs n x) n ≡ Some x
get-set_same [] n x low = absurd (omega arith)
get-set_same (y ∷ xs) zero x low = refl
get-set_same (y ∷ xs) (suc n) x low = get-set_same xs n x (omega arith)

-- ---- fronts, and what is behind them

-- the item at a place stands first in what is left from it on
pub drop-at : {A : Type 0} (xs : List A) (n : ℕ) (x : A) → n < length xs → x ≡ get_or xs n x → drop n xs ≡ x ∷ drop (n + 1) xs
drop-at xs n x low e = rw add-one (drop-cons xs n x low ∙ ap (λ y. y ∷ drop (suc n) xs) (sym e))

-- a member of a front is a member
pub ∈-take : {A : Type 0} (n : ℕ) (xs : List A) (x : A) → x ∈ take n xs → x ∈ xs
∈-take zero xs x among = absurd among
∈-take (suc n) [] x among = absurd among
∈-take (suc n) (y ∷ xs) x (inl e) = inl e
∈-take (suc n) (y ∷ xs) x (inr among) = inr (∈-take n xs x among)

-- a member of what is behind a front is a member
pub ∈-drop : {A : Type 0} (n : ℕ) (xs : List A) (x : A) → x ∈ drop n xs → x ∈ xs
∈-drop zero xs x among = among
∈-drop (suc n) [] x among = absurd among
∈-drop (suc n) (y ∷ xs) x among = inr (∈-drop n xs x among)

-- ---- runs: the front whose items all pass a test

-- a run is a front, as long as it is
pub run_taken : {A : Type 0} (p : A → Bool) (xs : List A) → take (length (take_while p xs)) xs ≡ take_while p xs
run_taken p xs = ap (λ n. take n xs) (length-take-le (prefix_len p xs) xs (prefix_len-le-length p xs))

-- a run is no longer than the list
pub run_within : {A : Type 0} (p : A → Bool) (xs : List A) → length (take_while p xs) ≤ length xs
run_within p xs =
    let e : length (take_while p xs) ≡ prefix_len p xs = length-take-le (prefix_len p xs) xs (prefix_len-le-length p xs) in
    omega (arith, e, prefix_len-le-length p xs)

-- the run, and what is behind it
pub run_split : {A : Type 0} (p : A → Bool) (xs : List A) → xs ≡ take_while p xs ++ drop (length (take_while p xs)) xs
run_split p xs =
    let n = length (take_while p xs) in
    sym (take-append-drop n xs) ∙ ap (λ ys. ys ++ drop n xs) (run_taken p xs)
