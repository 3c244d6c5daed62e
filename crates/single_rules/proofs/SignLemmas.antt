-- Both signs of a predicate: which constraints there are for them, and what these say.
use Rattle.std.proofs.Common.{◌≡◌, ◌⊎◌, ◌+◌, inl, inr, refl, sym, ap, subst, ◌∙◌, ℕ, zero, suc, pos, Bool, true, false, true≢false, cond, ◌||◌, List, [], ◌∷◌, ◌++◌, map, length, Option, Some, None, arith}
use Rattle.std.specs.Prelude.{not}
use Rattle.lists.specs.Lists.{◌∈◌}
use Rattle.lists.proofs.ListLemmas.{Each-from, ∈-append_cases}
use Rattle.asp_syntax.specs.declared.tree.Term.TheVariants as tree
use Rattle.asp_meaning.specs.declared.value.Value.{Value}
use Rattle.asp_meaning.specs.declared.value.Value.TheVariants as value
use Rattle.asp_meaning.specs.Terms.{named, anonymous, Substitution, before, all_of, eval, eval_all}
use Rattle.asp_meaning.specs.Variables.{global_terms}
use Rattle.asp_meaning.specs.Atoms.{Atom, strong_negation}
use Rattle.asp_meaning.specs.Programs.{HasValue, IsInstance, BodyHolds}
use Rattle.asp_strata.specs.declared.predicate.Predicate.{Predicate}
use Rattle.asp_strata.specs.Predicates.{predicate_eq}
use Rattle.asp_strata.specs.PredicateLaws.{predicate_same, predicate_equal}
use Rattle.single_rules.specs.SingleRules.{as_statement}
use Rattle.single_rules.specs.Signs.{opposite, has_predicate, later_signs, variables_from, sign_rule}
use Rattle.single_rules.proofs.Renamed.{eval_variable}
use Rattle.single_rules.proofs.Values.{each_value}

-- ---- which signs come later

-- a predicate that the test finds is a member
pub found_is_member : (p : Predicate) (ps : List Predicate) → has_predicate ps p ≡ true → p ∈ ps
found_is_member p [] found = absurd (true≢false (sym found))
found_is_member p (q ∷ ps) found = by_case (predicate_eq p q) refl (found_is_member p ps)
  where
    by_case : (b : Bool) → predicate_eq p q ≡ b → (has_predicate ps p ≡ true → p ∈ ps) → p ∈ (q ∷ ps)
    by_case true e rest = inl (predicate_same p q e)
    by_case false e rest = inr (rest (sym (ap (λ b. b || has_predicate ps p) e) ∙ found))

-- the test finds a member
member_is_found : (p : Predicate) (ps : List Predicate) → p ∈ ps → has_predicate ps p ≡ true
member_is_found p [] among = absurd among
member_is_found p (q ∷ ps) (inl e) = ap (λ b. b || has_predicate ps p) (predicate_equal p q e)
member_is_found p (q ∷ ps) (inr among) = ap (λ b. predicate_eq p q || b) (member_is_found p ps among) ∙ last (predicate_eq p q)
  where
    last : (b : Bool) → (b || true) ≡ true
    last true = refl
    last false = refl

-- not twice is nothing
not_not : (b : Bool) → not (not b) ≡ b
not_not true = refl
not_not false = refl

-- not is something else
not_same : (b : Bool) → ¬ (not b ≡ b)
not_same true e = true≢false (sym e)
not_same false e = true≢false e

-- the other sign twice is the sign
pub opposite_back : (p : Predicate) → opposite (opposite p) ≡ p
opposite_back p = ap (λ b. record p { negated = b }) (not_not p.negated)

-- the other sign is another predicate
opposite_other : (p : Predicate) → ¬ (opposite p ≡ p)
opposite_other p e = not_same p.negated (ap (λ (q : Predicate). q.negated) e)

-- where a predicate comes on whose other sign was seen, it was seen itself or is among the later signs
abbrev IsFoundLater : List Predicate → List Predicate → Predicate → Type 0
IsFoundLater seen ps q = (q ∈ seen) ⊎ (q ∈ later_signs seen ps)

-- it is so
comes_later : (seen ps : List Predicate) (q : Predicate) → opposite q ∈ seen → q ∈ ps → IsFoundLater seen ps q
comes_later seen [] q other among = absurd among
comes_later seen (x ∷ xs) q other among =
    by_case (has_predicate seen x) refl (has_predicate seen (opposite x)) refl (comes_later seen xs q other)
    (comes_later (x ∷ seen) xs q (inr other))
  where
    -- it comes first here
    here : (b : Bool) → has_predicate seen (opposite x) ≡ b → q ≡ x
        → q ∈ (cond b (x ∷ later_signs (x ∷ seen) xs) (later_signs (x ∷ seen) xs))
    here true e is = inl is
    here false e is = absurd (true≢false (sym (member_is_found (opposite x) seen (subst (λ y. opposite y ∈ seen) is other)) ∙ e))

    further : (b : Bool) → q ∈ later_signs (x ∷ seen) xs → q ∈ (cond b (x ∷ later_signs (x ∷ seen) xs) (later_signs (x ∷ seen) xs))
    further true k = inr k
    further false k = k

    by_case : (b : Bool) → has_predicate seen x ≡ b → (c : Bool) → has_predicate seen (opposite x) ≡ c
        → (q ∈ xs → IsFoundLater seen xs q) → (q ∈ xs → IsFoundLater (x ∷ seen) xs q)
        → (q ∈ seen) ⊎ (q ∈ (cond b (later_signs seen xs) (cond c (x ∷ later_signs (x ∷ seen) xs) (later_signs (x ∷ seen) xs))))
    by_case true e c f passed put = elim among [
      | inl is ↦ inl (subst (λ y. y ∈ seen) (sym is) (found_is_member x seen e))
      | inr k ↦ passed k
    ]
    by_case false e c f passed put = elim among [
      | inl is ↦ inr (here c f is)
      | inr k ↦ elim (put k) [
        | inl j ↦ elim j [ inl is ↦ inr (here c f is) | inr j ↦ inl j ]
        | inr j ↦ inr (further c j)
      ]
    ]

-- where both signs come on, one of them was seen or is among the later signs
abbrev IsEither : List Predicate → List Predicate → Predicate → Type 0
IsEither seen later p = ((p ∈ seen) ⊎ (opposite p ∈ seen)) ⊎ ((p ∈ later) ⊎ (opposite p ∈ later))

-- the later signs from a predicate on that was not seen
abbrev from_new : Predicate → List Predicate → List Predicate → Bool → List Predicate
from_new x seen xs c = cond c (x ∷ later_signs (x ∷ seen) xs) (later_signs (x ∷ seen) xs)

-- it is so
one_is_later : (seen ps : List Predicate) (p : Predicate) → p ∈ ps → opposite p ∈ ps → IsEither seen (later_signs seen ps) p
one_is_later seen [] p one other = absurd one
one_is_later seen (x ∷ xs) p one other =
    by_case (has_predicate seen x) refl (has_predicate seen (opposite x)) one other (one_is_later seen xs p) (one_is_later (x ∷ seen) xs p)
  where
    further : (c : Bool) (q : Predicate) → q ∈ later_signs (x ∷ seen) xs → q ∈ from_new x seen xs c
    further true q k = inr k
    further false q k = k

    first_one : (c : Bool) → p ≡ x → opposite p ∈ xs → IsEither seen (from_new x seen xs c) p
    first_one c is k = elim (comes_later (x ∷ seen) xs (opposite p) (inl (opposite_back p ∙ is)) k) [
      | inl j ↦ elim j [ inl same ↦ absurd (opposite_other p (same ∙ sym is)) | inr j ↦ inl (inr j) ]
      | inr j ↦ inr (inr (further c (opposite p) j))
    ]

    first_other : (c : Bool) → opposite p ≡ x → p ∈ xs → IsEither seen (from_new x seen xs c) p
    first_other c is k = elim (comes_later (x ∷ seen) xs p (inl is) k) [
      | inl j ↦ elim j [ inl same ↦ absurd (opposite_other p (is ∙ sym same)) | inr j ↦ inl (inl j) ]
      | inr j ↦ inr (inl (further c p j))
    ]

    by_case : (b : Bool) → has_predicate seen x ≡ b → (c : Bool) → p ∈ (x ∷ xs) → opposite p ∈ (x ∷ xs)
        → (p ∈ xs → opposite p ∈ xs → IsEither seen (later_signs seen xs) p)
        → (p ∈ xs → opposite p ∈ xs → IsEither (x ∷ seen) (later_signs (x ∷ seen) xs) p)
        → IsEither seen (cond b (later_signs seen xs) (from_new x seen xs c)) p
    by_case true e c (inl is) k passed put = inl (inl (subst (λ y. y ∈ seen) (sym is) (found_is_member x seen e)))
    by_case true e c (inr k) (inl is) passed put = inl (inr (subst (λ y. y ∈ seen) (sym is) (found_is_member x seen e)))
    by_case true e c (inr k) (inr j) passed put = passed k j
    by_case false e c (inl is) (inl other) passed put = absurd (opposite_other p (other ∙ sym is))
    by_case false e c (inl is) (inr j) passed put = first_one c is j
    by_case false e c (inr k) (inl is) passed put = first_other c is k
    by_case false e c (inr k) (inr j) passed put = elim (put k j) [
      | inl h ↦ elim h [
        | inl h ↦ elim h [ inl is ↦ first_one c is j | inr h ↦ inl (inl h) ]
        | inr h ↦ elim h [ inl is ↦ first_other c is k | inr h ↦ inl (inr h) ]
      ]
      | inr h ↦ elim h [ inl h ↦ inr (inl (further c p h)) | inr h ↦ inr (inr (further c (opposite p) h)) ]
    ]

-- of two signs in a text one is the later
pub both_give_one : (ps : List Predicate) (p : Predicate) → p ∈ ps → opposite p ∈ ps
    → (p ∈ later_signs [] ps) ⊎ (opposite p ∈ later_signs [] ps)
both_give_one ps p one other = elim (one_is_later [] ps p one other) [
  | inl h ↦ elim h [ inl h ↦ absurd h | inr h ↦ absurd h ]
  | inr h ↦ h
]

-- ---- what the constraint says

-- the values, where there are some
abbrev pub or_none : Option (List Value) → List Value
or_none None = []
or_none (Some xs) = xs

-- where no atom is beside its strong negation, the body of the constraint doesn't hold
pub never_both : (I : List Atom) → ((a : Atom) → a ∈ I → ¬ (strong_negation a ∈ I)) → (p : Predicate) (s : Substitution)
    → ¬ BodyHolds (as_statement (sign_rule p)) s I
never_both I consistent p s holds =
    let one = holds.0 in
    let other = holds.1.0 in
    let a = one.0 in
    let b = other.0 in
    let signs : b.negated ≡ not a.negated = other.1.0 ∙ sym (ap not one.1.0) in
    let names : b.name ≡ a.name = other.1.1 ∙ sym one.1.1 in
    let args : b.args ≡ a.args = ap or_none (sym other.1.2 ∙ one.1.2) in
    let same : b ≡ strong_negation a = λ i. record { negated = signs i; name = names i; args = args i } in
    consistent a one.2 (subst (λ c. c ∈ I) same other.2)

-- the value at a place
abbrev value_at : List Value → ℕ → Value
value_at [] k = value.Int (pos 0)
value_at (x ∷ xs) zero = x
value_at (x ∷ xs) (suc k) = value_at xs k

-- each variable has the value at its number
abbrev pub by_number : List Value → Substitution
by_number xs (named x) = value.Int (pos 0)
by_number xs (anonymous k) = value_at xs k

-- variables from a number on have the values that stand at these places
variables_values : (s : Substitution) (xs : List Value) (k : ℕ) → ((j : ℕ) → s (anonymous (k + j)) ≡ value_at xs j)
    → eval_all s (variables_from k (length xs)) ≡ Some xs
variables_values s [] k at = refl
variables_values s (x ∷ xs) k at =
    let none : k + 0 ≡ k = omega arith in
    let first : eval s (tree.Anonymous k) ≡ Some x = eval_variable s (anonymous k)
    ∙ ap Some (ap (λ n. s (anonymous n)) (sym none) ∙ at 0) in
    let rest : eval_all s (variables_from (suc k) (length xs)) ≡ Some xs = variables_values s xs (suc k) (λ j.
    let moved : suc k + j ≡ k + suc j = omega arith in ap (λ n. s (anonymous n)) moved ∙ at (suc j)) in
    ap (λ o. all_of (o ∷ map (eval s) (variables_from (suc k) (length xs)))) first ∙ ap (before x) rest

-- so all of them have all of the values
own_values : (xs : List Value) → eval_all (by_number xs) (variables_from 0 (length xs)) ≡ Some xs
own_values xs = variables_values (by_number xs) xs 0 (λ j. let e : 0 + j ≡ j = omega arith in ap (value_at xs) e)

-- an atom and its strong negation make the body of the constraint for their predicate hold
pub both_hold : (I : List Atom) (name : List ℕ) (args : List Value) (p : Predicate) → p.name ≡ name → p.arity ≡ length args
    → (record { negated = false; name = name; args = args }) ∈ I → (record { negated = true; name = name; args = args }) ∈ I
    → BodyHolds (as_statement (sign_rule p)) (by_number args) I
both_hold I name args p names arities one other =
    let values : eval_all (by_number args) (variables_from 0 p.arity) ≡ Some args =
    ap (λ n. eval_all (by_number args) (variables_from 0 n)) arities ∙ own_values args in (
      (record { negated = false; name = name; args = args }, (refl, sym names, values), one),
      ((record { negated = true; name = name; args = args }, (refl, sym names, values), other), tt),
    )

-- and it is an instance
pub both_instance : (args : List Value) (p : Predicate) → p.arity ≡ length args → IsInstance (as_statement (sign_rule p)) (by_number args)
both_instance args p arities =
    let values : eval_all (by_number args) (variables_from 0 p.arity) ≡ Some args =
    ap (λ n. eval_all (by_number args) (variables_from 0 n)) arities ∙ own_values args in
    let ts = variables_from 0 p.arity in
    Each-from (HasValue (by_number args)) (global_terms (as_statement (sign_rule p))) (λ u k. elim (∈-append_cases u ts (ts ++ []) k) [
      | inl h ↦ each_value (by_number args) ts args values u h
      | inr h ↦ elim (∈-append_cases u ts [] h) [ inl h ↦ each_value (by_number args) ts args values u h | inr none ↦ absurd none ]
    ])
