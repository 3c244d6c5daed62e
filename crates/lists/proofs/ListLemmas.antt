-- Lemmas on the words on lists.
use Rattle.std.proofs.Common.{◌≡◌, ◌⊎◌, inl, inr, refl, sym, ap, subst, ◌∙◌, List, [], ◌∷◌, ◌++◌, map, append_assoc}
use Rattle.lists.specs.Lists.{◌∈◌, HasNoRepeats, Each, AtLeastOne, SameSet, concat}

-- ---- Each

-- what holds of each member holds of this one
pub Each-at : {A : Type 0} (P : A → Type 0) (xs : List A) (x : A) → Each P xs → x ∈ xs → P x
Each-at P [] x each among = absurd among
Each-at P (y ∷ ys) x each (inl e) = subst P (sym e) each.0
Each-at P (y ∷ ys) x each (inr among) = Each-at P ys x each.1 among

-- what holds of every member holds of each
pub Each-from : {A : Type 0} (P : A → Type 0) (xs : List A) → ((x : A) → x ∈ xs → P x) → Each P xs
Each-from P [] all = tt
Each-from P (x ∷ xs) all = (all x (inl refl), Each-from P xs (λ y among. all y (inr among)))

-- what holds of each member holds of it also in a weaker form
pub Each-map : {A : Type 0} (P Q : A → Type 0) → ((x : A) → P x → Q x) → (xs : List A) → Each P xs → Each Q xs
Each-map P Q f [] each = tt
Each-map P Q f (x ∷ xs) each = (f x each.0, Each-map P Q f xs each.1)

-- what holds of each member of two lists holds of each member of both together
pub Each-append : {A : Type 0} (P : A → Type 0) (xs ys : List A) → Each P xs → Each P ys → Each P (xs ++ ys)
Each-append P [] ys front back = back
Each-append P (x ∷ xs) ys front back = (front.0, Each-append P xs ys front.1 back)

-- ---- AtLeastOne

-- the member of which it holds
pub AtLeastOne-at : {A : Type 0} (P : A → Type 0) (xs : List A) → AtLeastOne P xs → (x : A) × (x ∈ xs) × P x
AtLeastOne-at P [] some = absurd some
AtLeastOne-at P (y ∷ ys) (inl holds) = (y, inl refl, holds)
AtLeastOne-at P (y ∷ ys) (inr some) = let found = AtLeastOne-at P ys some in (found.0, inr found.1, found.2)

-- a member of which it holds
pub AtLeastOne-from : {A : Type 0} (P : A → Type 0) (xs : List A) (x : A) → x ∈ xs → P x → AtLeastOne P xs
AtLeastOne-from P [] x among holds = absurd among
AtLeastOne-from P (y ∷ ys) x (inl e) holds = inl (subst P e holds)
AtLeastOne-from P (y ∷ ys) x (inr among) holds = inr (AtLeastOne-from P ys x among holds)

-- what holds of a member holds of it also in a weaker form
pub AtLeastOne-map : {A : Type 0} (P Q : A → Type 0) → ((x : A) → P x → Q x) → (xs : List A) → AtLeastOne P xs → AtLeastOne Q xs
AtLeastOne-map P Q f [] some = some
AtLeastOne-map P Q f (x ∷ xs) (inl holds) = inl (f x holds)
AtLeastOne-map P Q f (x ∷ xs) (inr some) = inr (AtLeastOne-map P Q f xs some)

-- ---- membership

-- a member of the list in front
pub ∈-append_left : {A : Type 0} (x : A) (xs ys : List A) → x ∈ xs → x ∈ (xs ++ ys)
∈-append_left x [] ys among = absurd among
∈-append_left x (z ∷ xs) ys (inl e) = inl e
∈-append_left x (z ∷ xs) ys (inr among) = inr (∈-append_left x xs ys among)

-- a member of the list behind
pub ∈-append_right : {A : Type 0} (x : A) (xs ys : List A) → x ∈ ys → x ∈ (xs ++ ys)
∈-append_right x [] ys among = among
∈-append_right x (z ∷ xs) ys among = inr (∈-append_right x xs ys among)

-- a member of two lists together is one of the first or of the second
pub ∈-append_cases : {A : Type 0} (x : A) (xs ys : List A) → x ∈ (xs ++ ys) → (x ∈ xs) ⊎ (x ∈ ys)
∈-append_cases x [] ys among = inr among
∈-append_cases x (z ∷ xs) ys (inl e) = inl (inl e)
∈-append_cases x (z ∷ xs) ys (inr among) = elim (∈-append_cases x xs ys among) [ inl left ↦ inl (inr left) | inr right ↦ inr right ]

-- what a member becomes is a member of what the list becomes
pub ∈-map : {A B : Type 0} (f : A → B) (x : A) (xs : List A) → x ∈ xs → f x ∈ map f xs
∈-map f x [] among = absurd among
∈-map f x (y ∷ ys) (inl e) = inl (ap f e)
∈-map f x (y ∷ ys) (inr among) = inr (∈-map f x ys among)

-- a member of what a list becomes comes from a member of it
pub ∈-map_from : {A B : Type 0} (f : A → B) (z : B) (xs : List A) → z ∈ map f xs → (x : A) × (x ∈ xs) × (z ≡ f x)
∈-map_from f z [] among = absurd among
∈-map_from f z (x ∷ xs) (inl e) = (x, inl refl, e)
∈-map_from f z (x ∷ xs) (inr among) = let found = ∈-map_from f z xs among in (found.0, inr found.1, found.2)

-- a list without members is empty
pub none-member : {A : Type 0} (xs : List A) → ((x : A) → ¬ (x ∈ xs)) → xs ≡ []
none-member [] none = refl
none-member (x ∷ xs) none = absurd (none x (inl refl))

-- what holds of the only member holds of each
pub ∈-one : {A : Type 0} (P : A → Type 0) (a : A) → P a → (x : A) → x ∈ (a ∷ []) → P x
∈-one P a h x (inl e) = subst P (sym e) h
∈-one P a h x (inr among) = absurd among

-- what holds of both members holds of each
pub ∈-two : {A : Type 0} (P : A → Type 0) (a b : A) → P a → P b → (x : A) → x ∈ (a ∷ b ∷ []) → P x
∈-two P a b h k x (inl e) = subst P (sym e) h
∈-two P a b h k x (inr among) = ∈-one P b k x among

-- ---- sets

-- a list has the same members as itself
pub SameSet-refl : {A : Type 0} (xs : List A) → SameSet xs xs
SameSet-refl xs = record { to = λ x among. among; back = λ x among. among }

-- having the same members goes both ways
pub SameSet-sym : {A : Type 0} (xs ys : List A) → SameSet xs ys → SameSet ys xs
SameSet-sym xs ys same = record { to = same.back; back = same.to }

-- lists with the same members as a third have the same members
pub SameSet-trans : {A : Type 0} (xs ys zs : List A) → SameSet xs ys → SameSet ys zs → SameSet xs zs
SameSet-trans xs ys zs first second = record {
  to = λ x among. second.to x (first.to x among);
  back = λ x among. first.back x (second.back x among);
}

-- one member more that isn't there yet
pub HasNoRepeats-last : {A : Type 0} (xs : List A) (x : A) → HasNoRepeats xs → ¬ (x ∈ xs) → HasNoRepeats (xs ++ x ∷ [])
HasNoRepeats-last [] x once other = (λ none. none, tt)
HasNoRepeats-last (y ∷ ys) x once other = (
  λ among. elim (∈-append_cases y ys (x ∷ []) among) [
    | inl left ↦ once.0 left
    | inr right ↦ elim right [ inl e ↦ other (inl (sym e)) | inr none ↦ none ]
  ],
  HasNoRepeats-last ys x once.1 (λ among. other (inr among)),
)

-- ---- concat

-- the lists of two lists of lists, one after another
pub concat-append : {A : Type 0} (xss yss : List (List A)) → concat (xss ++ yss) ≡ concat xss ++ concat yss
concat-append [] yss = refl
concat-append (xs ∷ xss) yss = ap (λ zs. xs ++ zs) (concat-append xss yss) ∙ sym (append_assoc xs (concat xss) (concat yss))

-- a member of one of the lists is a member of all of them put together
pub ∈-concat : {A : Type 0} (x : A) (xs : List A) (xss : List (List A)) → x ∈ xs → xs ∈ xss → x ∈ concat xss
∈-concat x xs [] among list = absurd list
∈-concat x xs (ys ∷ xss) among (inl e) = ∈-append_left x ys (concat xss) (subst (λ zs. x ∈ zs) e among)
∈-concat x xs (ys ∷ xss) among (inr list) = ∈-append_right x ys (concat xss) (∈-concat x xs xss among list)

-- a member of what one member gives is a member of all that they give
pub ∈-concat_map : {A B : Type 0} (f : A → List B) (x : A) (xs : List A) (y : B) → x ∈ xs → y ∈ f x → y ∈ concat (map f xs)
∈-concat_map f x xs y among here = ∈-concat y (f x) (map f xs) here (∈-map f x xs among)

-- the member that gives it
pub ∈-concat_map_from : {A B : Type 0} (f : A → List B) (xs : List A) (y : B) → y ∈ concat (map f xs) → (x : A) × (x ∈ xs) × (y ∈ f x)
∈-concat_map_from f [] y among = absurd among
∈-concat_map_from f (x ∷ xs) y among = elim (∈-append_cases y (f x) (concat (map f xs)) among) [
  | inl here ↦ (x, inl refl, here)
  | inr later ↦ let found = ∈-concat_map_from f xs y later in (found.0, inr found.1, found.2)
]
