-- Looking a variable up in a list of variables.
use Rattle.std.proofs.Common.{◌≡◌, ◌⊎◌, ◌↔◌, inl, inr, refl, sym, ap, subst, ◌∙◌, Bool, true, false, ◌||◌, List, [], ◌∷◌, ◌++◌, if◌then◌else◌}
use Rattle.std.specs.List.{list_any}
use Rattle.indexmap.specs.IndexSet.{insert_key}
use Rattle.lists.specs.Lists.{◌∈◌}
use Rattle.lists.proofs.ListLemmas.{∈-append_left, ∈-append_right, ∈-append_cases}
use Rattle.asp_meaning.specs.Terms.{Variable}
use Rattle.asp_safety.specs.Keys.{variable_eq}
use Rattle.asp_safety.specs.KeyLaws.{variable_same, variable_equal}

-- a variable that the test finds is a member
pub ∈-from_test : (v : Variable) (D : List Variable) → list_any (variable_eq v) D ≡ true → v ∈ D
∈-from_test v [] found = absurd (cc)
∈-from_test v (d ∷ D) found = by_case (variable_eq v d) refl (∈-from_test v D)
  where
    by_case : (b : Bool) → variable_eq v d ≡ b → (list_any (variable_eq v) D ≡ true → v ∈ D) → v ∈ (d ∷ D)
    by_case true e rest = inl (variable_same v d e)
    by_case false e rest = inr (rest (sym (ap (λ b. b || list_any (variable_eq v) D) e) ∙ found))

-- the test finds a member
pub test-from_∈ : (v : Variable) (D : List Variable) → v ∈ D → list_any (variable_eq v) D ≡ true
test-from_∈ v [] among = absurd among
test-from_∈ v (d ∷ D) (inl e) = ap (λ b. b || list_any (variable_eq v) D) (variable_equal v d e)
test-from_∈ v (d ∷ D) (inr among) = ap (λ b. variable_eq v d || b) (test-from_∈ v D among) ∙ last (variable_eq v d)
  where
    last : (b : Bool) → (b || true) ≡ true
    last true = refl
    last false = refl

-- what is a member after a variable is put in
pub ∈-insert_key : (n : Variable) (D : List Variable) (v : Variable) → (v ∈ insert_key variable_eq D n) ↔ ((v ∈ D) ⊎ (v ≡ n))
∈-insert_key n D v = by_case (list_any (variable_eq n) D) refl
  where
    by_case : (b : Bool) → list_any (variable_eq n) D ≡ b → (v ∈ (if b then D else D ++ n ∷ [])) ↔ ((v ∈ D) ⊎ (v ≡ n))
    by_case true e = (λ k. inl k, λ k. elim k [ inl k ↦ k | inr same ↦ subst (λ w. w ∈ D) (sym same) (∈-from_test n D e) ])
    by_case false e = (
      λ k. elim (∈-append_cases v D (n ∷ []) k) [ inl k ↦ inl k | inr k ↦ elim k [ inl same ↦ inr same | inr none ↦ absurd none ] ],
      λ k. elim k [ inl k ↦ ∈-append_left v D (n ∷ []) k | inr same ↦ ∈-append_right v D (n ∷ []) (inl same) ],
    )
