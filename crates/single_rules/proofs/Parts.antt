-- What a list gives that is put together from parts.
use Rattle.std.proofs.Common.{inl, inr, refl, subst, List, [], ◌∷◌, map}
use Rattle.lists.specs.Lists.{◌∈◌, Each, concat}
use Rattle.lists.proofs.ListLemmas.{Each-append, ∈-append_left, ∈-append_right, ∈-append_cases}

-- what holds of what each member becomes holds of each that the list becomes
pub Each-over : {A B : Type 0} (f : A → B) (Q : B → Type 0) (xs : List A) → ((x : A) → x ∈ xs → Q (f x)) → Each Q (map f xs)
Each-over f Q [] all = tt
Each-over f Q (x ∷ xs) all = (all x (inl refl), Each-over f Q xs (λ y among. all y (inr among)))

-- what holds of all that each member gives holds of all that the list gives
pub Each-concat : {A B : Type 0} (f : A → List B) (P : A → Type 0) (Q : B → Type 0) → ((x : A) → P x → Each Q (f x)) → (xs : List A)
    → Each P xs → Each Q (concat (map f xs))
Each-concat f P Q gives [] each = tt
Each-concat f P Q gives (x ∷ xs) each = Each-append Q (f x) (concat (map f xs)) (gives x each.0) (Each-concat f P Q gives xs each.1)

-- what one member gives is among what the list gives
pub ∈-concat_map : {A B : Type 0} (f : A → List B) (x : A) (xs : List A) (y : B) → x ∈ xs → y ∈ f x → y ∈ concat (map f xs)
∈-concat_map f x [] y k h = absurd k
∈-concat_map f x (z ∷ zs) y (inl e) h = ∈-append_left y (f z) (concat (map f zs)) (subst (λ w. y ∈ f w) e h)
∈-concat_map f x (z ∷ zs) y (inr k) h = ∈-append_right y (f z) (concat (map f zs)) (∈-concat_map f x zs y k h)

-- what is among what the list gives is given by a member
pub ∈-concat_map_from : {A B : Type 0} (f : A → List B) (xs : List A) (y : B) → y ∈ concat (map f xs) → (x : A) × (x ∈ xs) × (y ∈ f x)
∈-concat_map_from f [] y k = absurd k
∈-concat_map_from f (x ∷ xs) y k = elim (∈-append_cases y (f x) (concat (map f xs)) k) [
  | inl h ↦ (x, inl refl, h)
  | inr h ↦ let found = ∈-concat_map_from f xs y h in (found.0, inr found.1, found.2)
]
