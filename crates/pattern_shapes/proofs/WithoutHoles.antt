-- Terms without holes.
use Rattle.std.proofs.Common.{◌≡◌, ℕ, ◌+◌, ◌<◌, ◌≤◌, List, [], ◌∷◌, ◌++◌, take, get_or, length, refl, sym, ap, subst, ◌∙◌, inl, inr, arith}
use Rattle.std.proofs.Math.Seq.{take-length}
use Rattle.std.proofs.lemmas.List.{take_more}
use Rattle.lists.specs.Lists.{◌∈◌}
use Rattle.lists.proofs.ListLemmas.{∈-append_cases}
use Rattle.lists.proofs.Places.{∈-get_or}
use Rattle.search_values.proofs.Basics.{in_single}
use Rattle.alpha_outside.specs.declared.pattern.PatternTerm.{PatternTerm}
use Rattle.alpha_outside.specs.declared.pattern.PatternTerm.TheVariants as pattern
use Rattle.unification.specs.Patterns.{HasHole, hole}
use Rattle.unification.proofs.PatternTerms.{hole_of_call, of_argument}

-- one more has none
pub none_more : (items : List PatternTerm) (i : ℕ) (t : PatternTerm) → i < length items → t ≡ get_or items i t
    → ((u : PatternTerm) → u ∈ take i items → (x : ℕ) → ¬ HasHole u x) → ((x : ℕ) → ¬ HasHole t x)
    → (u : PatternTerm) → u ∈ take (i + 1) items → (x : ℕ) → ¬ HasHole u x
none_more items i t low here before none u among x has =
    elim (∈-append_cases u (take i items) (get_or items i t ∷ []) (subst (λ xs. u ∈ xs) (take_more items i t low) among)) [
      | inl old ↦ before u old x has
      | inr last ↦ none x (subst (λ v. HasHole v x) (in_single last ∙ sym here) has)
    ]

-- none of all has one
pub none_of_all : (items : List PatternTerm) (i : ℕ) → i ≤ length items → length items ≤ i
    → ((u : PatternTerm) → u ∈ take i items → (x : ℕ) → ¬ HasHole u x) → (u : PatternTerm) → u ∈ items → (x : ℕ) → ¬ HasHole u x
none_of_all items i low all none u among =
    let whole : i ≡ length items = omega (arith, low, all) in
    none u (subst (λ xs. u ∈ xs) (sym (ap (λ n. take n items) whole ∙ take-length items)) among)

-- nor has the functional term of these
pub call_has_none : (t : PatternTerm) (f : List ℕ) (args : List PatternTerm) → t ≡ pattern.Fun f args
    → ((u : PatternTerm) → u ∈ args → (x : ℕ) → ¬ HasHole u x) → (x : ℕ) → ¬ HasHole t x
call_has_none t f args is none x has =
    let at = hole_of_call x f args (subst (λ v. HasHole v x) is has) in
    none at.0 at.1 x at.2

-- it has that of an argument
pub call_has_one : (t : PatternTerm) (f : List ℕ) (args : List PatternTerm) (i : ℕ) (u : PatternTerm) → t ≡ pattern.Fun f args → i < length args
    → u ≡ get_or args i u → ((x : ℕ) × HasHole u x) → (x : ℕ) × HasHole t x
call_has_one t f args i u is low here has =
    (has.0, subst (λ v. HasHole v has.0) (sym is) (of_argument (hole has.0) f args u (∈-get_or args i u low here) has.1))
