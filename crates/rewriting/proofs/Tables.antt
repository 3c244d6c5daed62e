-- Tables of variables: where a variable stands in one, and which variables have a place.
use Rattle.std.proofs.Common.{◌≡◌, ◌<◌, inl, inr, refl, sym, ap, subst, ◌∙◌, ℕ, zero, suc, pos, Bool, true, false, cond, List, [], ◌∷◌, ◌++◌, map, length, Option, Some, None, slice_get, true≢false, arith}
use Rattle.lists.specs.Lists.{◌∈◌, ◌⊆◌}
use Rattle.lists.proofs.ListLemmas.{∈-append_left, ∈-append_right}
use Rattle.asp_meaning.specs.declared.value.Value.{Value}
use Rattle.asp_meaning.specs.declared.value.Value.TheVariants as value
use Rattle.asp_meaning.specs.Terms.{Variable, Substitution}
use Rattle.asp_safety.specs.Keys.{variable_eq}
use Rattle.asp_safety.specs.KeyLaws.{variable_same, variable_equal}
use Rattle.asp_safety.proofs.Sets.{∈-from_test}
use Rattle.core_meaning.specs.Terms.{Binding}
use Rattle.rewriting.specs.Numbering.{has_variable, with_variable, with_variables, place}
use Rattle.rewriting.proofs.Evaluating.{Stands}

-- ---- places

-- the values of a table's variables stand at their places
pub get-place : (table : List Variable) (s : Substitution) (v : Variable) → v ∈ table → Stands (map s table) table s v
get-place [] s v among = absurd among
get-place (w ∷ ws) s v among = by_case (variable_eq w v) refl (get-place ws s v)
  where
    by_case : (b : Bool) → variable_eq w v ≡ b → (v ∈ ws → slice_get (map s ws) (place ws v) ≡ Some (s v)) → slice_get (s w ∷ map s ws) (cond b 0 (suc (place ws v))) ≡ Some (s v)
    by_case true e rest = ap (λ u. Some (s u)) (variable_same w v e)
    by_case false e rest = elim among [ inl same ↦ absurd (true≢false (sym (variable_equal w v (sym same)) ∙ e)) | inr k ↦ rest k ]

-- the place of a variable of the table lies in it
pub place-below : (table : List Variable) (v : Variable) → v ∈ table → place table v < length table
place-below [] v among = absurd among
place-below (w ∷ ws) v among = by_case (variable_eq w v) refl (place-below ws v)
  where
    by_case : (b : Bool) → variable_eq w v ≡ b → (v ∈ ws → place ws v < length ws) → cond b 0 (suc (place ws v)) < suc (length ws)
    by_case true e rest = omega arith
    by_case false e rest = elim among [ inl same ↦ absurd (true≢false (sym (variable_equal w v (sym same)) ∙ e)) | inr k ↦ omega (arith, rest k) ]

-- ---- from values to a substitution

-- the value, or some value
abbrev pub value_or : Option Value → Value
value_or None = value.Int (pos 0)
value_or (Some x) = x

-- the substitution that gives each variable the value at its place
abbrev pub substitution_of : Binding → List Variable → Substitution
substitution_of b table v = value_or (slice_get b (place table v))

-- below the length of a list there is a value
get-below : (b : Binding) (k : ℕ) → k < length b → slice_get b k ≡ Some (value_or (slice_get b k))
get-below [] k below = absurd (omega arith)
get-below (x ∷ b) zero below = refl
get-below (x ∷ b) (suc k) below = get-below b k (omega arith)

-- where the values are as many as the variables, each variable has its own
pub substitution-stands : (b : Binding) (table : List Variable) (v : Variable) → length b ≡ length table → v ∈ table → Stands b table (substitution_of b table) v
substitution-stands b table v same among = get-below b (place table v) (subst (λ n. place table v < n) (sym same) (place-below table v among))

-- ---- the variables of a table

-- a variable that is put in is there
with_variable-has : (table : List Variable) (v : Variable) → v ∈ with_variable table v
with_variable-has table v = by_case (has_variable table v) refl
  where
    by_case : (b : Bool) → has_variable table v ≡ b → v ∈ cond b table (table ++ v ∷ [])
    by_case true e = ∈-from_test v table e
    by_case false e = ∈-append_right v table (v ∷ []) (inl refl)

-- and what is there before stays
with_variable-keeps : (table : List Variable) (v : Variable) → table ⊆ with_variable table v
with_variable-keeps table v u among = by_case (has_variable table v)
  where
    by_case : (b : Bool) → u ∈ cond b table (table ++ v ∷ [])
    by_case true = among
    by_case false = ∈-append_left u table (v ∷ []) among

-- also where more are put in
with_variables-keeps : (table vs : List Variable) → table ⊆ with_variables table vs
with_variables-keeps table [] u among = among
with_variables-keeps table (v ∷ vs) u among = with_variables-keeps (with_variable table v) vs u (with_variable-keeps table v u among)

-- each of the variables is in the table that they make
pub with_variables-has : (table vs : List Variable) → vs ⊆ with_variables table vs
with_variables-has table [] u among = absurd among
with_variables-has table (v ∷ vs) u (inl e) = with_variables-keeps (with_variable table v) vs u (subst (λ w. w ∈ with_variable table v) (sym e) (with_variable-has table v))
with_variables-has table (v ∷ vs) u (inr among) = with_variables-has (with_variable table v) vs u among
