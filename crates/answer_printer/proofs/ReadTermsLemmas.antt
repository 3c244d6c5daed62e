-- What interning a node leaves of a pool, whatever its terms' sizes.
use Rattle.std.proofs.Common.{◌≡◌, inl, inr, ℕ, ◌<◌, List, [], ◌∷◌, ◌++◌, length, slice_get, Some, refl, sym, ap, subst, ◌∙◌, length-append, arith}
use Rattle.std.proofs.lemmas.Option.{slice_get_within}
use Rattle.alpha_outside.specs.declared.node.Node.{Node}
use Rattle.term_pool.specs.Interning.{IsInterned}
use Rattle.term_pool.specs.Nodes.{value_at, value_from, values, PartsBelow, HasArguments, IsPool, KeepsValues}
use Rattle.term_pool.proofs.PoolLemmas.{value_here, value_at-last, KeepsValues-push, IsPool-push}

-- what is last wasn't there before
module _ (old new : List Node) (n : Node) (id : ℕ) (h : IsInterned old new n id) where
  absent : new ≡ old ++ n ∷ [] → (i : ℕ) → slice_get old i ≡ Some n → ⊥
  absent more i e = omega (arith, ap length (h.known i e).0, ap length more, length-append old (n ∷ []))

  pub interned_pool : IsPool old → PartsBelow (length old) n → HasArguments n → IsPool new
  interned_pool p low has = elim h.grown [
    | inl same ↦ subst IsPool (sym same) p
    | inr more ↦ subst IsPool (sym more) (IsPool-push old n p low has (absent more))
  ]

  pub interned_kept : KeepsValues old new
  interned_kept = elim h.grown [
    | inl same ↦ subst (KeepsValues old) (sym same) (omega arith, λ i lt. refl)
    | inr more ↦ subst (KeepsValues old) (sym more) (KeepsValues-push old n)
  ]

  pub interned_value : IsPool old → value_at new id ≡ value_from (values old) n
  interned_value p = elim h.grown [
    | inl same ↦ ap (λ ns. value_at ns id) same ∙ value_here old p id n (ap (λ ns. slice_get ns id) (sym same) ∙ h.there)
    | inr more ↦ ap (λ ns. value_at ns id) more ∙ ap (value_at (old ++ n ∷ [])) (h.added (absent more)).1 ∙ value_at-last old n
  ]

  pub interned_within : id < length new
  interned_within = slice_get_within new id n h.there

-- what the answer is, where the set of nodes was asked for a node
pub record IsKept (old new : List Node) : Type 0 where
  pub pool : IsPool new
  pub kept : KeepsValues old new

pub unchanged : (old new : List Node) → new ≡ old → IsPool old → IsKept old new
unchanged old new e p = record { pool = subst IsPool (sym e) p; kept = subst (KeepsValues old) (sym e) (omega arith, λ i lt. refl) }

pub changed : (old new : List Node) (n : Node) (id : ℕ) → IsInterned old new n id → IsPool old → PartsBelow (length old) n → HasArguments n → IsKept old new
changed old new n id h p low has = record { pool = interned_pool old new n id h p low has; kept = interned_kept old new n id h }
