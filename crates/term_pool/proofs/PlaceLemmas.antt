-- Places in a list that grows at its end.
use Rattle.std.proofs.Common.{◌≡◌, ◌⊎◌, inl, inr, ℕ, zero, suc, ◌<◌, List, [], ◌∷◌, ◌++◌, length, get_or, map, slice_get, sum_by, Some, refl, sym, ap, subst, ◌∙◌, append_assoc, append-nil, arith}
use Rattle.std.specs.Prelude.{All}
use Rattle.std.proofs.lemmas.List.Sums.{sum_by-cons}
use Rattle.std.proofs.lemmas.List.Elements.{All-head, All-tail}
use Rattle.std.proofs.lemmas.Option.{none-some, same_Some, slice_get_within}

module _ {A : Type 0} where
  -- what stands in the front list stands at its place
  pub get-before : (xs ys : List A) (i : ℕ) → i < length xs → slice_get (xs ++ ys) i ≡ slice_get xs i
  get-before [] ys i lt = absurd (omega arith)
  get-before (x ∷ xs) ys zero lt = refl
  get-before (x ∷ xs) ys (suc i) lt = get-before xs ys i (omega arith)

  -- what was added last stands last
  pub get-last : (xs : List A) (x : A) → slice_get (xs ++ x ∷ []) (length xs) ≡ Some x
  get-last [] x = refl
  get-last (y ∷ xs) x = get-last xs x

  -- what stands at a place stays there
  pub get-kept : (xs ys : List A) (i : ℕ) (x : A) → slice_get xs i ≡ Some x → slice_get (xs ++ ys) i ≡ Some x
  get-kept xs ys i x e = get-before xs ys i (slice_get_within xs i x e) ∙ e

  -- a place of the longer list is one of the shorter, or the last
  pub get-cases : (xs : List A) (x : A) (i : ℕ) (y : A) → slice_get (xs ++ x ∷ []) i ≡ Some y
      → (slice_get xs i ≡ Some y) ⊎ ((i ≡ length xs) × (x ≡ y))
  get-cases [] x zero y e = inr (refl, same_Some x y e)
  get-cases [] x (suc i) y e = absurd (none-some y e)
  get-cases (z ∷ xs) x zero y e = inl e
  get-cases (z ∷ xs) x (suc i) y e =
      elim (get-cases xs x i y e) [ inl p ↦ inl p | inr p ↦ inr (ap suc p.0, p.1) ]

  -- an induction along a list that grows at its end
  pub grow : (P : List A → Type 0) → P [] → ((xs : List A) (x : A) → P xs → P (xs ++ x ∷ [])) → (xs : List A) → P xs
  grow P z s xs = go [] xs z
    where
      go : (done rest : List A) → P done → P (done ++ rest)
      go done [] p = subst P (sym (append-nil done)) p
      go done (x ∷ rest) p = subst P (append_assoc done (x ∷ []) rest) (go (done ++ x ∷ []) rest (s done x p))

  -- functions that agree on each member have the same sum
  pub sum_by-same : (f g : A → ℕ) (xs : List A) → All (λ x. f x ≡ g x) xs → sum_by f xs ≡ sum_by g xs
  sum_by-same f g [] h = refl
  sum_by-same f g (x ∷ xs) h =
      let head : f x ≡ g x = All-head (λ y. f y ≡ g y) x xs h in
      let rest : sum_by f xs ≡ sum_by g xs = sum_by-same f g xs (All-tail (λ y. f y ≡ g y) x xs h) in
      omega (arith, sum_by-cons f x xs, sum_by-cons g x xs, head, rest)

  -- and make the same list of it
  pub map-same : {B : Type 0} (f g : A → B) (xs : List A) → All (λ x. f x ≡ g x) xs → map f xs ≡ map g xs
  map-same f g [] h = refl
  map-same f g (x ∷ xs) h = λ i. All-head (λ y. f y ≡ g y) x xs h i ∷ map-same f g xs (All-tail (λ y. f y ≡ g y) x xs h) i

  -- two functions, one after the other
  pub map-map : {B C : Type 0} (f : B → C) (g : A → B) (xs : List A) → map f (map g xs) ≡ map (λ x. f (g x)) xs
  map-map f g [] = refl
  map-map f g (x ∷ xs) = ap (λ l. f (g x) ∷ l) (map-map f g xs)

  -- a list becomes one of the same length
  pub length-map : {B : Type 0} (f : A → B) (xs : List A) → length (map f xs) ≡ length xs
  length-map f [] = refl
  length-map f (x ∷ xs) = ap suc (length-map f xs)

  -- before the end the default does not matter
  pub get_or-any : (xs : List A) (i : ℕ) (d e : A) → i < length xs → get_or xs i d ≡ get_or xs i e
  get_or-any [] i d e lt = absurd (omega arith)
  get_or-any (x ∷ xs) zero d e lt = refl
  get_or-any (x ∷ xs) (suc i) d e lt = get_or-any xs i d e (omega arith)

  -- what a list becomes has at a place what its member becomes
  pub get_or-mapped : {B : Type 0} (f : A → B) (xs : List A) (i : ℕ) (d : A) → get_or (map f xs) i (f d) ≡ f (get_or xs i d)
  get_or-mapped f [] i d = refl
  get_or-mapped f (x ∷ xs) zero d = refl
  get_or-mapped f (x ∷ xs) (suc i) d = get_or-mapped f xs i d
