-- What a sort leaves of a set: the same members, still none twice, and none before one that is below it.
use Rattle.std.proofs.Common.{◌≡◌, ◌⊎◌, inl, inr, ℕ, suc, ◌+◌, ◌<◌, ◌≤◌, Bool, true, false, ◌==◌, cond, List, [], ◌∷◌, length, get_or, refl, sym, ap, subst, arith}
use Rattle.std.specs.Prelude.{All, sum_by}
use Rattle.std.proofs.lemmas.List.Sums.{sum_by-cons}
use Rattle.std.proofs.lemmas.List.Elements.{All-head, All-tail, All-cons}
use Rattle.std.proofs.lemmas.List.Sorted.{IsPermutation-sym, All-permutation, sum_by-IsPermutation, ranks_by, sorted_far}
use Rattle.std.proofs.lemmas.Fn.{always_returns_same}
use Rattle.std.specs.Cmp.{IsTotalOrder, IsStrictWeakOrder}
use Rattle.std.specs.Fn.{Called, ComparesAs}
use Rattle.std.specs.List.Sorted.{IsPermutation, IsSortedBy}
use Rattle.std.specs.declared.cmp.Ordering.{Ordering}
use Rattle.std.specs.Ordering.{is_lt}
use borrow.Author.Tests.{eq-eqb, eqb-true}
use denote.Param.Members.{Mut}
use denote.Ref.{Bor}
use Rattle.lists.specs.Lists.{◌∈◌, HasNoRepeats, Each, SameSet}

-- ---- members

all_of_members : {A : Type 0} (P : A → Type 0) (xs : List A) → ((x : A) → x ∈ xs → P x) → All P xs
all_of_members P [] h = λ k d lt. absurd (omega (arith, lt))
all_of_members P (x ∷ xs) h = All-cons P x xs (h x (inl refl)) (all_of_members P xs (λ y i. h y (inr i)))

at_member : {A : Type 0} (P : A → Type 0) (xs : List A) (x : A) → All P xs → x ∈ xs → P x
at_member P [] x h i = absurd i
at_member P (y ∷ ys) x h (inl e) = subst P (sym e) (All-head P y ys h)
at_member P (y ∷ ys) x h (inr i) = at_member P ys x (All-tail P y ys h) i

pub permuted_members : {A : Type 0} (xs ys : List A) → IsPermutation xs ys → SameSet xs ys
permuted_members {A} xs ys p = record {
  to = λ x i. at_member (λ z. z ∈ ys) xs x (All-permutation (λ z. z ∈ ys) ys xs (IsPermutation-sym xs ys p) (all_of_members (λ z. z ∈ ys) ys (λ z k. k))) i;
  back = λ y i. at_member (λ z. z ∈ xs) ys y (All-permutation (λ z. z ∈ xs) xs ys p (all_of_members (λ z. z ∈ xs) xs (λ z k. k))) i;
}

-- ---- repeats, by how often a number stands in a list

abbrev one_if : ℕ → ℕ → ℕ
one_if x y = cond (x == y) 1 0

abbrev often : ℕ → List ℕ → ℕ
often x ys = sum_by (one_if x) ys

one_itself : (x : ℕ) → one_if x x ≡ 1
one_itself x = ap (λ b. cond b 1 0) (eq-eqb x x refl)

often_cons : (x y : ℕ) (ys : List ℕ) → often x (y ∷ ys) ≡ one_if x y + often x ys
often_cons x y ys = sum_by-cons (one_if x) y ys

often_member : (x : ℕ) (ys : List ℕ) → x ∈ ys → 1 ≤ often x ys
often_member x [] i = absurd i
often_member x (y ∷ ys) (inl e) = omega (arith, often_cons x y ys, ap (one_if x) (sym e), one_itself x)
often_member x (y ∷ ys) (inr i) = omega (arith, often_cons x y ys, often_member x ys i)

either : (x y : ℕ) → (x ≡ y) ⊎ (one_if x y ≡ 0)
either x y = go (x == y) refl
  where
    go : (b : Bool) → (x == y) ≡ b → (x ≡ y) ⊎ (one_if x y ≡ 0)
    go true e = inl (eqb-true x y e)
    go false e = inr (ap (λ c. cond c 1 0) e)

at_most_one : (x y : ℕ) → one_if x y ≤ 1
at_most_one x y = go (x == y)
  where
    go : (b : Bool) → cond b 1 0 ≤ 1
    go true = omega arith
    go false = omega arith

often_absent : (x : ℕ) (ys : List ℕ) → ¬ (x ∈ ys) → often x ys ≡ 0
often_absent x [] h = refl
often_absent x (y ∷ ys) h =
    let rest : often x ys ≡ 0 = often_absent x ys (λ i. h (inr i)) in
    elim (either x y) [ inl e ↦ absurd (h (inl e)) | inr zero_ ↦ omega (arith, often_cons x y ys, rest, zero_) ]

often_once : (xs : List ℕ) → HasNoRepeats xs → (x : ℕ) → often x xs ≤ 1
often_once [] h x = omega arith
often_once (y ∷ ys) h x =
    let rest : often x ys ≤ 1 = often_once ys h.1 x in
    elim (either x y) [
      | inl e ↦ omega (arith, often_cons x y ys, often_absent x ys (subst (λ z. ¬ (z ∈ ys)) (sym e) h.0), at_most_one x y)
      | inr zero_ ↦ omega (arith, often_cons x y ys, rest, zero_)
    ]

once_often : (xs : List ℕ) → ((x : ℕ) → often x xs ≤ 1) → HasNoRepeats xs
once_often [] h = tt
once_often (y ∷ ys) h = (
  λ i. absurd (omega (arith, h y, often_cons y y ys, one_itself y, often_member y ys i)),
  once_often ys (λ x. omega (arith, h x, often_cons x y ys)),
)

pub permuted_once : (xs ys : List ℕ) → IsPermutation xs ys → HasNoRepeats xs → HasNoRepeats ys
permuted_once xs ys p h = once_often ys (λ x. omega (arith, often_once xs h x, sum_by-IsPermutation (one_if x) xs ys p))

-- ---- order

-- no element is below one that stands before it
abbrev pub Ascends : {A : Type 0} → (A → A → Bool) → List A → Type 0
Ascends lt [] = Unit {0}
Ascends lt (x ∷ xs) = Each (λ y. lt y x ≡ false) xs × Ascends lt xs

each_at : {A : Type 0} (P : A → Type 0) (d : A) (xs : List A) → ((k : ℕ) → k < length xs → P (get_or xs k d)) → Each P xs
each_at P d [] h = tt
each_at P d (x ∷ xs) h = (h 0 (omega arith), each_at P d xs (λ k lt. h (suc k) (omega (arith, lt))))

ascends_at : {A : Type 0} (lt : A → A → Bool) (d : A) (xs : List A) → ((i j : ℕ) → i ≤ j → j < length xs → lt (get_or xs j d) (get_or xs i d) ≡ false) → Ascends lt xs
ascends_at lt d [] h = tt
ascends_at lt d (x ∷ xs) h = (
  each_at (λ y. lt y x ≡ false) d xs (λ k p. h 0 (suc k) (omega arith) (omega (arith, p))),
  ascends_at lt d xs (λ i j p q. h (suc i) (suc j) (omega (arith, p)) (omega (arith, q))),
)

-- what the clause of a sort says where each call compares the keys of its two elements by a total order
pub sorted_by_key : {A X : Type 0} (R : A → A → Ordering) → IsTotalOrder R → (key : X → A) (d : X) → {F : Type 0} {g : Mut F (Bor X × (Bor X × Unit {0})) Ordering} {f : F} (xs : List X)
    → ((lt : X → X → Bool) → IsStrictWeakOrder lt → ComparesAs g lt f → IsSortedBy lt xs)
    → ((a : Bor X × (Bor X × Unit {0})) (r : Ordering) (f' : F) → Called g f a r f' → (r ≡ R (key a.0.now) (key a.1.0.now)) × (f' ≡ f))
    → Ascends (λ x y. is_lt (R (key x) (key y))) xs
sorted_by_key {A} {X} R total key d {F} {g} {f} xs up h =
    let lt : X → X → Bool = λ x y. is_lt (R (key x) (key y)) in
    let order : IsStrictWeakOrder lt = ranks_by total key in
    let sorted : IsSortedBy lt xs = up lt order (always_returns_same g (λ a r. is_lt r ≡ lt a.0.now a.1.0.now) f (λ a r f' k. (ap is_lt (h a r f' k).0, (h a r f' k).1))) in
    ascends_at lt d xs (λ i j p q. sorted_far lt order xs sorted i j d p q)
