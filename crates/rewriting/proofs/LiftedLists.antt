-- Lifting one after another: where the members and the equations of the result come from.
use Rattle.std.proofs.Common.{◌≡◌, inl, inr, refl, sym, ap, subst, ℕ, List, [], ◌∷◌, ◌++◌, map}
use Rattle.lists.specs.Lists.{◌∈◌, ◌⊆◌, concat}
use Rattle.lists.proofs.ListLemmas.{∈-append_left, ∈-append_right, ∈-append_cases}
use Rattle.rewriting.specs.Lifting.{Equation, Lifted, lift_each}

-- ---- lists

-- a member of what one member of a list gives
pub ∈-concat_map : {A B : Type 0} (f : A → List B) (x : A) (xs : List A) (y : B) → x ∈ xs → y ∈ f x → y ∈ concat (map f xs)
∈-concat_map f x [] y k h = absurd k
∈-concat_map f x (z ∷ zs) y (inl e) h = ∈-append_left y (f z) (concat (map f zs)) (subst (λ w. y ∈ f w) e h)
∈-concat_map f x (z ∷ zs) y (inr k) h = ∈-append_right y (f z) (concat (map f zs)) (∈-concat_map f x zs y k h)

-- the member that gives it
pub ∈-concat_map_from : {A B : Type 0} (f : A → List B) (xs : List A) (y : B) → y ∈ concat (map f xs) → (x : A) × (x ∈ xs) × (y ∈ f x)
∈-concat_map_from f [] y k = absurd k
∈-concat_map_from f (x ∷ xs) y k = elim (∈-append_cases y (f x) (concat (map f xs)) k) [
  | inl h ↦ (x, inl refl, h)
  | inr h ↦ let found = ∈-concat_map_from f xs y h in (found.0, inr found.1, found.2)
]

-- ---- lifting

-- y is what f makes of a member of xs, whose equations are among these
pub record IsOf {A B : Type 0} (f : A → ℕ → Lifted B) (xs : List A) (equations : List Equation) (y : B) : Type 0 where
  pub source : A
  pub start : ℕ
  pub among : source ∈ xs
  pub is : y ≡ (f source start).lifted
  pub within : (f source start).equations ⊆ equations

-- what f makes of x, whose equations are among these, is one of ys
pub record IsMade {A B : Type 0} (f : A → ℕ → Lifted B) (x : A) (made : Lifted (List B)) : Type 0 where
  pub start : ℕ
  pub among : (f x start).lifted ∈ made.lifted
  pub within : (f x start).equations ⊆ made.equations

-- f makes the equation of a member of xs
pub record IsEquationOf {A B : Type 0} (f : A → ℕ → Lifted B) (xs : List A) (e : Equation) : Type 0 where
  pub source : A
  pub start : ℕ
  pub among : source ∈ xs
  pub here : e ∈ (f source start).equations

-- each member of what a list becomes is of a member of it
pub lifted_from : {A B : Type 0} (f : A → ℕ → Lifted B) (xs : List A) (k : ℕ) (y : B) → y ∈ (lift_each f xs k).lifted → IsOf f xs (lift_each f xs k).equations y
lifted_from f [] k y h = absurd h
lifted_from f (x ∷ xs) k y (inl e) = record {
  source = x;
  start = k;
  among = inl refl;
  is = e;
  within = λ q j. ∈-append_left q (f x k).equations (lift_each f xs (f x k).next).equations j;
}
lifted_from f (x ∷ xs) k y (inr h) =
    let found = lifted_from f xs (f x k).next y h in record {
      source = found.source;
      start = found.start;
      among = inr found.among;
      is = found.is;
      within = λ q j. ∈-append_right q (f x k).equations (lift_each f xs (f x k).next).equations (found.within q j);
    }

-- each member of a list is lifted
pub lifted_to : {A B : Type 0} (f : A → ℕ → Lifted B) (xs : List A) (k : ℕ) (x : A) → x ∈ xs → IsMade f x (lift_each f xs k)
lifted_to f [] k x h = absurd h
lifted_to f (z ∷ xs) k x (inl e) = subst (λ w. IsMade f w (lift_each f (z ∷ xs) k)) (sym e) (record {
  start = k;
  among = inl refl;
  within = λ q j. ∈-append_left q (f z k).equations (lift_each f xs (f z k).next).equations j;
})
lifted_to f (z ∷ xs) k x (inr h) =
    let found = lifted_to f xs (f z k).next x h in record {
      start = found.start;
      among = inr found.among;
      within = λ q j. ∈-append_right q (f z k).equations (lift_each f xs (f z k).next).equations (found.within q j);
    }

-- each equation comes from a member of the list
pub equation_from : {A B : Type 0} (f : A → ℕ → Lifted B) (xs : List A) (k : ℕ) (e : Equation) → e ∈ (lift_each f xs k).equations → IsEquationOf f xs e
equation_from f [] k e h = absurd h
equation_from f (x ∷ xs) k e h = elim (∈-append_cases e (f x k).equations (lift_each f xs (f x k).next).equations h) [
  | inl j ↦ record { source = x; start = k; among = inl refl; here = j }
  | inr j ↦ let found = equation_from f xs (f x k).next e j in record { source = found.source; start = found.start; among = inr found.among; here = found.here }
]

-- lifting what a function gives of each
pub lift_each-map : {A B C : Type 0} (f : B → ℕ → Lifted C) (g : A → B) (xs : List A) (k : ℕ) → lift_each f (map g xs) k ≡ lift_each (λ x. f (g x)) xs k
lift_each-map f g [] k = refl
lift_each-map f g (x ∷ xs) k = ap (λ (rest : Lifted (List _)). record {
  lifted = (f (g x) k).lifted ∷ rest.lifted;
  equations = (f (g x) k).equations ++ rest.equations;
  next = rest.next;
}) (lift_each-map f g xs (f (g x) k).next)
