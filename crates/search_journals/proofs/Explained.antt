-- Closed entries of a stack: their atoms are false, so no entry of another atom takes a reason.
use Rattle.std.proofs.Common.{◌≡◌, ℕ, Bool, true, false, cond, List, [], ◌∷◌, refl, sym, ◌∙◌, ap, subst, inl, inr}
use Rattle.std.specs.Prelude.{Option, Some, None, nat_eq}
use Rattle.alpha_outside.specs.declared.literal.Value.{Value}
use Rattle.alpha_outside.specs.declared.literal.Value.TheVariants.{False}
use Rattle.search_values.specs.declared.entry.Why.{Why}
use Rattle.search_values.specs.declared.entry.Why.TheVariants.{Given, Chosen, Closed}
use Rattle.search_values.specs.declared.entry.Entry.{Entry}
use Rattle.search_values.specs.Values.{value_of, is_closed, IsClosed, with_reason, explain}
use Rattle.search_values.proofs.Basics.{value_cases, nat_eq-same, nat_eq-true}
use Rattle.trail.specs.Assigning.{MayBecome, MayClose, IsStackOf}

-- the value of a closed entry
closed_value : (w : Why) (before : Option Value) (value : Value) → is_closed w ≡ true → MayClose before value w → value ≡ False
closed_value (Given n) before value closed h = absurd (cc)
closed_value Chosen before value closed h = absurd (cc)
closed_value (Closed reason) before value closed h = h.1

-- nothing comes over false
not_over : (before : Option Value) (value : Value) → MayBecome before value → ¬ (before ≡ Some False)
not_over before value (inl none) f = let bad = sym none ∙ f in cc
not_over before value (inr must) f = let bad = sym must.0 ∙ f in cc

-- an atom with a closed entry is false
pub closed_is_false : (atoms : ℕ) (stack : List Entry) → IsStackOf atoms stack → (x : ℕ) → IsClosed stack x → value_of stack x ≡ Some False
closed_is_false atoms [] are x c = absurd c.1
closed_is_false atoms (e ∷ rest) are x (d, inl same, atom_is, closed) =
    let w : is_closed e.why ≡ true = ap (λ (z : Entry). is_closed z.why) (sym same) ∙ closed in
    let here : e.atom ≡ x = ap (λ (z : Entry). z.atom) (sym same) ∙ atom_is in
    let value : e.value ≡ False = closed_value e.why (value_of rest e.atom) e.value w are.0.closes in
    ap (λ b. cond b (Some e.value) (value_of rest x)) (subst (λ z. nat_eq e.atom z ≡ true) here (nat_eq-same e.atom)) ∙ ap (λ z. Some z) value
closed_is_false atoms (e ∷ rest) are x (d, inr i, atom_is, closed) =
    let older = closed_is_false atoms rest are.1 x (d, i, atom_is, closed) in
    elim (value_cases e rest x) [
      | inl c ↦ absurd (not_over (value_of rest e.atom) e.value are.0.may (ap (value_of rest) c.0 ∙ older))
      | inr c ↦ c.1 ∙ older
    ]

-- a reason is taken by a closed entry alone
reason_same : (w : Why) (k : ℕ) (before : Option Value) (value : Value) → MayClose before value w → ¬ (value ≡ False) → with_reason w k ≡ w
reason_same (Given n) k before value h other = refl
reason_same Chosen k before value h other = refl
reason_same (Closed None) k before value h other = absurd (other h.1)
reason_same (Closed (Some m)) k before value h other = refl

-- where an atom isn't false no entry takes a reason for it
pub explain_same : (atoms x k : ℕ) (stack : List Entry) → IsStackOf atoms stack → ¬ (value_of stack x ≡ Some False) → explain x k stack ≡ stack
explain_same atoms x k [] are other = refl
explain_same atoms x k (e ∷ rest) are other = go (nat_eq e.atom x) refl (explain_same atoms x k rest are.1)
  where
    with_why : Why → Entry
    with_why w = record { atom = e.atom; value = e.value; level = e.level; why = w }

    whole : (es : List Entry) (w : Why) → w ≡ e.why → es ≡ rest → (with_why w ∷ es) ≡ (e ∷ rest)
    whole es w a b = λ i. with_why (a i) ∷ b i

    go : (b : Bool) → nat_eq e.atom x ≡ b → (¬ (value_of rest x ≡ Some False) → explain x k rest ≡ rest) → explain x k (e ∷ rest) ≡ (e ∷ rest)
    go false q below =
        whole (explain x k rest) (cond (nat_eq e.atom x) (with_reason e.why k) e.why) (ap (λ b. cond b (with_reason e.why k) e.why) q)
        (below (λ f. other (ap (λ b. cond b (Some e.value) (value_of rest x)) q ∙ f)))
    go true q below =
        let same = nat_eq-true e.atom x q in
        let value : value_of (e ∷ rest) x ≡ Some e.value = ap (λ b. cond b (Some e.value) (value_of rest x)) q in
        whole (explain x k rest) (cond (nat_eq e.atom x) (with_reason e.why k) e.why)
        (ap (λ b. cond b (with_reason e.why k) e.why) q
        ∙ reason_same e.why k (value_of rest e.atom) e.value are.0.closes (λ f. other (value ∙ ap (λ z. Some z) f)))
        (below (λ f. not_over (value_of rest e.atom) e.value are.0.may (ap (value_of rest) same ∙ f)))
