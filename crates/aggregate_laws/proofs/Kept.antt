-- Lists of those that pass a test, and lists without repeats.
use Rattle.std.proofs.Common.{◌≡◌, Bool, true, false, cond, List, [], ◌∷◌, ◌++◌, refl, sym, subst, inl, inr}
use Rattle.lists.specs.Lists.{◌∈◌, HasNoRepeats}
use Rattle.lists.proofs.ListLemmas.{∈-append_left, ∈-append_right, ∈-append_cases}

-- those that pass the test, in their order
abbrev pub kept : {X : Type 0} → (X → Bool) → List X → List X
kept f [] = []
kept f (x ∷ xs) = cond (f x) (x ∷ kept f xs) (kept f xs)

pub kept_in : {X : Type 0} (f : X → Bool) (xs : List X) (x : X) → (x ∈ (kept f xs)) → (x ∈ xs) × (f x ≡ true)
kept_in f [] x i = absurd i
kept_in {X} f (y ∷ ys) x i = go (f y) refl (λ j. kept_in f ys x j) i
  where
    go : (b : Bool) → f y ≡ b → ((x ∈ (kept f ys)) → (x ∈ ys) × (f x ≡ true)) → (x ∈ (cond b (y ∷ kept f ys) (kept f ys))) → (x ∈ (y ∷ ys)) × (f x ≡ true)
    go true e r (inl h) = (inl h, subst (λ z. f z ≡ true) (sym h) e)
    go true e r (inr j) = let k = r j in (inr k.0, k.1)
    go false e r j = let k = r j in (inr k.0, k.1)

pub in_kept : {X : Type 0} (f : X → Bool) (xs : List X) (x : X) → (x ∈ xs) → f x ≡ true → (x ∈ (kept f xs))
in_kept f [] x i h = i
in_kept f (y ∷ ys) x (inl e) h = let t : f y ≡ true = subst (λ z. f z ≡ true) e h in rw t (inl e)
in_kept f (y ∷ ys) x (inr i) h = go (f y) (in_kept f ys x i h)
  where
    go : (b : Bool) → (x ∈ (kept f ys)) → (x ∈ (cond b (y ∷ kept f ys) (kept f ys)))
    go true j = inr j
    go false j = j

pub kept_set : {X : Type 0} (f : X → Bool) (xs : List X) → HasNoRepeats xs → HasNoRepeats (kept f xs)
kept_set f [] s = tt
kept_set f (y ∷ ys) s = go (f y) (kept_set f ys s.1)
  where
    go : (b : Bool) → HasNoRepeats (kept f ys) → HasNoRepeats (cond b (y ∷ kept f ys) (kept f ys))
    go true r = ((λ i. s.0 (kept_in f ys y i).0), r)
    go false r = r

-- parts of a list without repeats
pub set_append : {X : Type 0} (xs ys : List X) → HasNoRepeats (xs ++ ys) → HasNoRepeats xs × HasNoRepeats ys × ((x : X) → (x ∈ xs) → (x ∈ ys) → ⊥)
set_append [] ys s = (tt, s, λ x i j. i)
set_append (x ∷ xs) ys s =
    let r = set_append xs ys s.1 in
    (((λ i. s.0 (∈-append_left x xs ys i)), r.0), r.1, λ y i j. elim i [ inl e ↦ s.0 (∈-append_right x xs ys (subst (λ z. (z ∈ ys)) e j)) | inr k ↦ r.2 y k j ])

-- lists without repeats that share no member
pub append_set : {X : Type 0} (xs ys : List X) → HasNoRepeats xs → HasNoRepeats ys → ((x : X) → (x ∈ xs) → (x ∈ ys) → ⊥) → HasNoRepeats (xs ++ ys)
append_set [] ys s t h = t
append_set (x ∷ xs) ys s t h =
    ((λ i. elim (∈-append_cases x xs ys i) [ inl j ↦ s.0 j | inr j ↦ h x (inl refl) j ]), append_set xs ys s.1 t (λ y i j. h y (inr i) j))
