-- Keeping the clauses of local variables.
use Rattle.std.proofs.Common.{◌≡◌, ◌⊎◌, ◌↔◌, inl, inr, sym, subst, List, [], ◌∷◌, ◌++◌}
use Rattle.lists.specs.Lists.{◌∈◌}
use Rattle.lists.proofs.ListLemmas.{∈-append_left, ∈-append_right, ∈-append_cases}
use Rattle.asp_meaning.specs.Terms.{Variable}
use Rattle.asp_safety.specs.declared.clause.Clause.{Clause}

-- one turn of the loop that keeps the clauses of local variables
pub kept_on : (G : List Variable) (whole old left kept more : List Clause) (d : Clause) → old ≡ left ++ d ∷ []
    → ((c : Clause) → (c ∈ more) ↔ ((c ∈ kept) ⊎ ((c ≡ d) × (¬ (c.gives ∈ G)))))
    → ((c : Clause) → ((c ∈ kept) ⊎ ((c ∈ old) × (¬ (c.gives ∈ G)))) ↔ ((c ∈ whole) × (¬ (c.gives ∈ G))))
    → (c : Clause) → ((c ∈ more) ⊎ ((c ∈ left) × (¬ (c.gives ∈ G)))) ↔ ((c ∈ whole) × (¬ (c.gives ∈ G)))
kept_on G whole old left kept more d e add h c = (
  λ k. (h c).0 (elim k [
    | inl k ↦ elim ((add c).0 k) [ inl k ↦ inl k | inr (same, apart) ↦ inr (subst (λ xs. c ∈ xs) (sym e) (∈-append_right c left (d ∷ []) (inl same)), apart) ]
    | inr (k, apart) ↦ inr (subst (λ xs. c ∈ xs) (sym e) (∈-append_left c left (d ∷ []) k), apart)
  ]),
  λ k. elim ((h c).1 k) [
    | inl k ↦ inl ((add c).1 (inl k))
    | inr (k, apart) ↦ elim (∈-append_cases c left (d ∷ []) (subst (λ xs. c ∈ xs) e k)) [
      | inl k ↦ inr (k, apart)
      | inr k ↦ elim k [ inl same ↦ inl ((add c).1 (inr (same, apart))) | inr none ↦ absurd none ]
    ]
  ],
)

pub all_kept : (G : List Variable) (whole old kept : List Clause) → old ≡ []
    → ((c : Clause) → ((c ∈ kept) ⊎ ((c ∈ old) × (¬ (c.gives ∈ G)))) ↔ ((c ∈ whole) × (¬ (c.gives ∈ G))))
    → (c : Clause) → (c ∈ kept) ↔ ((c ∈ whole) × (¬ (c.gives ∈ G)))
all_kept G whole old kept e h c = (
  λ k. (h c).0 (inl k),
  λ k. elim ((h c).1 k) [ inl k ↦ k | inr (k, apart) ↦ absurd (subst (λ xs. c ∈ xs) e k) ],
)

-- a clause at the end of a list is one of its members
pub push_local : (G : List Variable) (old new : List Clause) (d : Clause) → new ≡ old ++ d ∷ [] → ¬ (d.gives ∈ G)
    → (c : Clause) → (c ∈ new) ↔ ((c ∈ old) ⊎ ((c ≡ d) × (¬ (c.gives ∈ G))))
push_local G old new d e apart c = (
  λ k. elim (∈-append_cases c old (d ∷ []) (subst (λ xs. c ∈ xs) e k)) [
    | inl k ↦ inl k
    | inr k ↦ elim k [ inl same ↦ inr (same, λ g. apart (subst (λ x. x.gives ∈ G) same g)) | inr none ↦ absurd none ]
  ],
  λ k. subst (λ xs. c ∈ xs) (sym e) (elim k [ inl k ↦ ∈-append_left c old (d ∷ []) k | inr (same, out) ↦ ∈-append_right c old (d ∷ []) (inl same) ]),
)
