-- Looking for holes among the arguments of a functional term, one after another.
use Rattle.std.proofs.Common.{◌≡◌, inl, inr, ◌⊎◌, ℕ, zero, suc, ◌+◌, ◌<◌, ◌≤◌, List, [], ◌∷◌, length, drop, get_or, max, refl, sym, ap, subst, ◌∙◌, arith, add-one}
use Rattle.std.proofs.lemmas.List.{drop_all}
use Rattle.lists.specs.Lists.{◌∈◌}
use Rattle.alpha_outside.specs.declared.pattern.PatternTerm.{PatternTerm}
use Rattle.alpha_outside.specs.declared.pattern.PatternTerm.TheVariants as pattern
use Rattle.unification.specs.Patterns.{HasHole, hole}
use Rattle.unification.proofs.PatternTerms.{hole_of_call, of_argument}
use Rattle.lists.proofs.Places.{drop-at, ∈-get_or}

-- the hole of an argument is one of the term
pub hole_here : (t : PatternTerm) (f : List ℕ) (items : List PatternTerm) (i x : ℕ) (u : PatternTerm) → t ≡ pattern.Fun f items → i < length items → u ≡ get_or items i u → HasHole u x → HasHole t x
hole_here t f items i x u is lt read k = subst (λ s. HasHole s x) (sym is) (of_argument (hole x) f items u (∈-get_or items i u lt read) k)

-- nothing is left at the end
pub none_left : {A : Type 0} (xs : List A) (i : ℕ) → length xs ≤ i → (u : A) → ¬ (u ∈ drop i xs)
none_left xs i le u k = subst (λ ys. u ∈ ys) (drop_all i xs le) k

-- where all arguments were looked at, none has the hole
pub hole_nowhere : (t : PatternTerm) (f : List ℕ) (items : List PatternTerm) (i x : ℕ) → t ≡ pattern.Fun f items → length items ≤ i
    → ((u : PatternTerm) → u ∈ items → HasHole u x → u ∈ drop i items) → ¬ HasHole t x
hole_nowhere t f items i x is le left k =
    let r = hole_of_call x f items (subst (λ s. HasHole s x) is k) in
    none_left items i le r.0 (left r.0 r.1 r.2)

abbrev pub AreBelow : ℕ → List PatternTerm → List PatternTerm → Type 0
AreBelow n items rest = (u : PatternTerm) → u ∈ items → (x : ℕ) → HasHole u x → (x < n) ⊎ (u ∈ rest)

-- one more argument, whose holes are below a number
pub below_next : (items : List PatternTerm) (i most n more : ℕ) (a : PatternTerm) → i < length items → a ≡ get_or items i a
    → ((x : ℕ) → HasHole a x → x < n) → most ≤ more → n ≤ more → AreBelow most items (drop i items) → AreBelow more items (drop (i + 1) items)
below_next items i most n more a lt read own le le' inv u k x has = elim (inv u k x has) [
  | inl less ↦ inl (omega (arith, less, le))
  | inr left ↦ elim (subst (λ ys. u ∈ ys) (drop-at items i a lt read) left) [
    | inl e ↦ inl (let less : x < n = own x (subst (λ t. HasHole t x) e has) in omega (arith, less, le'))
    | inr later ↦ inr later
  ]
]

-- all were looked at
pub below_all : (t : PatternTerm) (f : List ℕ) (items : List PatternTerm) (i n : ℕ) → t ≡ pattern.Fun f items → length items ≤ i → AreBelow n items (drop i items)
    → (x : ℕ) → HasHole t x → x < n
below_all t f items i n is le inv x k =
    let r = hole_of_call x f items (subst (λ s. HasHole s x) is k) in
    elim (inv r.0 r.1 x r.2) [ inl less ↦ less | inr left ↦ absurd (none_left items i le r.0 left) ]

-- all of a list were looked at
pub below_each : (items : List PatternTerm) (i n : ℕ) → length items ≤ i → AreBelow n items (drop i items) → (u : PatternTerm) → u ∈ items → (x : ℕ) → HasHole u x → x < n
below_each items i n le inv u k x has = elim (inv u k x has) [ inl less ↦ less | inr left ↦ absurd (none_left items i le u left) ]
