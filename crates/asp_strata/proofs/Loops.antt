-- What is left of a list in a loop that adds to another.
use Rattle.std.proofs.Common.{◌≡◌, ◌⊎◌, ◌↔◌, inl, inr, refl, sym, ap, subst, ◌∙◌, ℕ, suc, ◌+◌, ◌<◌, ◌≤◌, List, [], ◌∷◌, ◌++◌, length, get_or, drop, map, add-one, append_assoc, Result, Ok, Err, IfOk, OnOk}
use Rattle.std.proofs.Math.Seq.{drop-cons}
use Rattle.std.proofs.Math.ListN.{drop_of_length-le}
use Rattle.lists.specs.Lists.{◌∈◌, concat}
use Rattle.lists.proofs.ListLemmas.{∈-append_left, ∈-append_right, ∈-append_cases}

-- the item at i stands first in what is left
pub drop-at : {A : Type 0} (xs : List A) (i : ℕ) (x : A) → i < length xs → x ≡ get_or xs i x → drop i xs ≡ x ∷ drop (i + 1) xs
drop-at xs i x h e = rw add-one (drop-cons xs i x h ∙ ap (λ y. y ∷ drop (suc i) xs) (sym e))

-- one turn of a loop that adds what the item gives
pub added : {A B : Type 0} (f : A → List B) (xs : List A) (i : ℕ) (x : A) (into more whole : List B) → drop i xs ≡ x ∷ drop (i + 1) xs
    → more ≡ into ++ f x → into ++ concat (map f (drop i xs)) ≡ whole → more ++ concat (map f (drop (i + 1) xs)) ≡ whole
added f xs i x into more whole at e h =
    ap (λ zs. zs ++ concat (map f (drop (i + 1) xs))) e
    ∙ append_assoc into (f x) (concat (map f (drop (i + 1) xs)))
    ∙ sym (ap (λ ys. into ++ concat (map f ys)) at)
    ∙ h

-- one turn of a loop that passes an item
pub passed : {A : Type 0} (xs left : List A) (i : ℕ) (x : A) → drop i xs ≡ x ∷ left → ((y : A) → y ∈ drop i xs → y ∈ xs) → (y : A) → y ∈ left → y ∈ xs
passed xs left i x e inside y k = inside y (subst (λ zs. y ∈ zs) (sym e) (inr k))

pub stands : {A : Type 0} (xs left : List A) (i : ℕ) (x : A) → drop i xs ≡ x ∷ left → ((y : A) → y ∈ drop i xs → y ∈ xs) → x ∈ xs
stands xs left i x e inside = inside x (subst (λ zs. x ∈ zs) (sym e) (inl refl))

-- what was seen of each item that isn't left
pub seen_on : {A : Type 0} (P : A → Type 0) (xs left : List A) (i : ℕ) (x : A) → drop i xs ≡ x ∷ left → P x
    → ((y : A) → y ∈ xs → (y ∈ drop i xs) ⊎ P y) → (y : A) → y ∈ xs → (y ∈ left) ⊎ P y
seen_on P xs left i x e here seen y k = elim (seen y k) [
  | inl k ↦ elim (subst (λ zs. y ∈ zs) e k) [ inl same ↦ inr (subst P (sym same) here) | inr k ↦ inl k ]
  | inr h ↦ inr h
]

-- at the end of a loop no item is left
pub all_seen : {A : Type 0} (P : A → Type 0) (xs : List A) (i : ℕ) → length xs ≤ i → ((y : A) → y ∈ xs → (y ∈ drop i xs) ⊎ P y) → (y : A) → y ∈ xs → P y
all_seen P xs i long seen y k = elim (seen y k) [ inl k ↦ absurd (subst (λ zs. y ∈ zs) (drop_of_length-le xs long) k) | inr h ↦ h ]

-- ---- what holds of a result

pub if_ok : {A E : Type 0} (r : Result A E) (P Q : A → Type 0) → ((x : A) → P x → Q x) → IfOk r P → IfOk r Q
if_ok (Ok x) P Q f h = f x h
if_ok (Err e) P Q f h = tt

pub on_ok : {A E : Type 0} (r : Result A E) (P Q : Type 0) → (P → Q) → OnOk r P → OnOk r Q
on_ok (Ok x) P Q f h = f h
on_ok (Err e) P Q f h = tt

-- the same where the item is read with a default
pub drop-read : {A : Type 0} (xs : List A) (i : ℕ) (d : A) → i < length xs → drop i xs ≡ get_or xs i d ∷ drop (i + 1) xs
drop-read xs i d h = rw add-one (drop-cons xs i d h)

-- ---- moving

-- one turn of the loop that moves what is in a list into a set
pub moved : {A : Type 0} (whole old left set more : List A) (key : A) → old ≡ left ++ key ∷ []
    → ((v : A) → (v ∈ more) ↔ ((v ∈ set) ⊎ (v ≡ key)))
    → ((v : A) → ((v ∈ old) ⊎ (v ∈ set)) ↔ (v ∈ whole))
    → (v : A) → ((v ∈ left) ⊎ (v ∈ more)) ↔ (v ∈ whole)
moved whole old left set more key e add h v = (
  λ k. (h v).0 (elim k [
    | inl k ↦ inl (subst (λ xs. v ∈ xs) (sym e) (∈-append_left v left (key ∷ []) k))
    | inr k ↦ elim ((add v).0 k) [ inl k ↦ inr k | inr same ↦ inl (subst (λ xs. v ∈ xs) (sym e) (∈-append_right v left (key ∷ []) (inl same))) ]
  ]),
  λ k. elim ((h v).1 k) [
    | inl k ↦ elim (∈-append_cases v left (key ∷ []) (subst (λ xs. v ∈ xs) e k)) [
      | inl k ↦ inl k
      | inr k ↦ elim k [ inl same ↦ inr ((add v).1 (inr same)) | inr none ↦ absurd none ]
    ]
    | inr k ↦ inr ((add v).1 (inl k))
  ],
)

-- where none is left to be moved
pub all_moved : {A : Type 0} (whole old set : List A) → old ≡ [] → ((v : A) → ((v ∈ old) ⊎ (v ∈ set)) ↔ (v ∈ whole)) → (v : A) → (v ∈ set) ↔ (v ∈ whole)
all_moved whole old set e h v = (
  λ k. (h v).0 (inr k),
  λ k. elim ((h v).1 k) [ inl k ↦ absurd (subst (λ xs. v ∈ xs) e k) | inr k ↦ k ],
)
