-- Values of nodes as a pool grows.
use Rattle.std.proofs.Common.{◌≡◌, inl, inr, ℕ, zero, suc, pos, ◌+◌, ◌<◌, ◌≤◌, List, [], ◌∷◌, ◌++◌, length, slice_get, Some, refl, sym, ap, subst, ◌∙◌, length-append, arith}
use Rattle.std.proofs.lemmas.List.Sums.{fold_push}
use Rattle.std.proofs.lemmas.List.Elements.{All-weaker}
use Rattle.std.proofs.lemmas.Option.{slice_get_within, get_or_from_slice_get, none-some}
use Rattle.alpha_outside.specs.declared.node.Node.{Node}
use Rattle.alpha_outside.specs.declared.node.Node.TheVariants as node
use Rattle.asp_meaning.specs.declared.value.Value.{Value}
use Rattle.asp_meaning.specs.declared.value.Value.TheVariants as value
use Rattle.asp_meaning.specs.Terms.{functional}
use Rattle.term_pool.specs.Nodes.{part, value_from, with_value, values, value_at, PartsBelow, HasArguments, IsPool, KeepsValues}
use Rattle.term_pool.proofs.PlaceLemmas.{get-last, get-kept, get-cases, grow, map-same}

pub values-push : (ns : List Node) (n : Node) → values (ns ++ n ∷ []) ≡ values ns ++ value_from (values ns) n ∷ []
values-push ns n = fold_push with_value [] ns n

pub length-values : (ns : List Node) → length (values ns) ≡ length ns
length-values = grow (λ ns. length (values ns) ≡ length ns) refl
    (λ ns n e. ap length (values-push ns n) ∙ length-append (values ns) (value_from (values ns) n ∷ []) ∙ ap (λ k. k + 1) e ∙ sym (length-append ns (n ∷ [])))

part-kept : (vs ws : List Value) (i : ℕ) → i < length vs → part (vs ++ ws) i ≡ part vs i
part-kept [] ws i lt = absurd (omega arith)
part-kept (v ∷ vs) ws zero lt = refl
part-kept (v ∷ vs) ws (suc i) lt = part-kept vs ws i (omega arith)

-- more values at the end change no value of a node that stands on those before
pub value_from-kept : (vs ws : List Value) (n : Node) → PartsBelow (length vs) n → value_from (vs ++ ws) n ≡ value_from vs n
value_from-kept vs ws (node.Int x) h = refl
value_from-kept vs ws (node.Symbol x) h = refl
value_from-kept vs ws (node.Text x) h = refl
value_from-kept vs ws (node.Fun f args) h =
    ap (functional f) (map-same (part (vs ++ ws)) (part vs) args (All-weaker (λ a. a < length vs) (λ a. part (vs ++ ws) a ≡ part vs a) (λ a lt. part-kept vs ws a lt) args h))

pub PartsBelow-more : (m n : ℕ) (x : Node) → m ≤ n → PartsBelow m x → PartsBelow n x
PartsBelow-more m n (node.Int x) le h = tt
PartsBelow-more m n (node.Symbol x) le h = tt
PartsBelow-more m n (node.Text x) le h = tt
PartsBelow-more m n (node.Fun f args) le h = All-weaker (λ a. a < m) (λ a. a < n) (λ a lt. omega arith) args h

abbrev HasParts : List Node → Type 0
HasParts ns = (i : ℕ) (n : Node) → slice_get ns i ≡ Some n → PartsBelow i n

HasParts-before : (ns : List Node) (n : Node) → HasParts (ns ++ n ∷ []) → HasParts ns
HasParts-before ns n h i x e = h i x (get-kept ns (n ∷ []) i x e)

-- each value is that of its node
pub value_of_node : (ns : List Node) → HasParts ns → (i : ℕ) (n : Node) → slice_get ns i ≡ Some n → slice_get (values ns) i ≡ Some (value_from (values ns) n)
value_of_node = grow (λ ns. HasParts ns → (i : ℕ) (n : Node) → slice_get ns i ≡ Some n → slice_get (values ns) i ≡ Some (value_from (values ns) n))
    (λ h i n e. absurd (none-some n e)) step
  where
    step : (ns : List Node) (x : Node) → (HasParts ns → (i : ℕ) (n : Node) → slice_get ns i ≡ Some n → slice_get (values ns) i ≡ Some (value_from (values ns) n))
        → HasParts (ns ++ x ∷ []) → (i : ℕ) (n : Node) → slice_get (ns ++ x ∷ []) i ≡ Some n → slice_get (values (ns ++ x ∷ [])) i ≡ Some (value_from (values (ns ++ x ∷ [])) n)
    step ns x before h i n e = elim (get-cases ns x i n e) [ inl p ↦ old p | inr p ↦ last p.0 p.1 ]
      where
        more : List Value
        more = value_from (values ns) x ∷ []

        low : PartsBelow i n
        low = h i n e

        kept : i ≤ length ns → value_from (values (ns ++ x ∷ [])) n ≡ value_from (values ns) n
        kept le = ap (λ vs. value_from vs n) (values-push ns x)
            ∙ value_from-kept (values ns) more n (PartsBelow-more i (length (values ns)) n (omega (arith, le, length-values ns)) low)

        old : slice_get ns i ≡ Some n → slice_get (values (ns ++ x ∷ [])) i ≡ Some (value_from (values (ns ++ x ∷ [])) n)
        old p = ap (λ vs. slice_get vs i) (values-push ns x) ∙ get-kept (values ns) more i _ (before (HasParts-before ns x h) i n p)
            ∙ ap Some (sym (kept (omega (arith, slice_get_within ns i n p))))

        last : i ≡ length ns → x ≡ n → slice_get (values (ns ++ x ∷ [])) i ≡ Some (value_from (values (ns ++ x ∷ [])) n)
        last p q = ap (λ vs. slice_get vs i) (values-push ns x)
            ∙ ap (slice_get (values ns ++ more)) (p ∙ sym (length-values ns))
            ∙ get-last (values ns) (value_from (values ns) x)
            ∙ ap (λ y. Some (value_from (values ns) y)) q
            ∙ ap Some (sym (kept (omega (arith, p))))

-- the value at a place is that of its node
pub value_here : (ns : List Node) → IsPool ns → (i : ℕ) (n : Node) → slice_get ns i ≡ Some n → value_at ns i ≡ value_from (values ns) n
value_here ns p i n e = get_or_from_slice_get (values ns) i (value_from (values ns) n) (value.Int (pos 0)) (value_of_node ns p.parts i n e)

-- one more node at the end changes no value
pub KeepsValues-push : (ns : List Node) (n : Node) → KeepsValues ns (ns ++ n ∷ [])
KeepsValues-push ns n = (
  omega (arith, length-append ns (n ∷ [])),
  λ i lt. ap (λ vs. part vs i) (values-push ns n) ∙ part-kept (values ns) (value_from (values ns) n ∷ []) i (omega (arith, lt, length-values ns)),
)

-- the value of the last node
pub value_at-last : (ns : List Node) (n : Node) → value_at (ns ++ n ∷ []) (length ns) ≡ value_from (values ns) n
value_at-last ns n =
    ap (λ vs. part vs (length ns)) (values-push ns n)
    ∙ ap (part (values ns ++ value_from (values ns) n ∷ [])) (sym (length-values ns))
    ∙ get_or_from_slice_get (values ns ++ value_from (values ns) n ∷ []) (length (values ns)) (value_from (values ns) n) (value.Int (pos 0)) (get-last (values ns) (value_from (values ns) n))

-- a pool with one more node
pub IsPool-push : (ns : List Node) (n : Node) → IsPool ns → PartsBelow (length ns) n → HasArguments n → ((i : ℕ) → slice_get ns i ≡ Some n → ⊥) → IsPool (ns ++ n ∷ [])
IsPool-push ns n p low has new = record {
  parts = λ i x e. elim (get-cases ns n i x e) [ inl q ↦ p.parts i x q | inr q ↦ subst (λ y. PartsBelow i y) q.1 (subst (λ k. PartsBelow k n) (sym q.0) low) ];
  arguments = λ i x e. elim (get-cases ns n i x e) [ inl q ↦ p.arguments i x q | inr q ↦ subst HasArguments q.1 has ];
  once = λ i j x e f. elim (get-cases ns n i x e) [
    | inl q ↦ elim (get-cases ns n j x f) [ inl r ↦ p.once i j x q r | inr r ↦ absurd (new i (q ∙ ap Some (sym r.1))) ]
    | inr q ↦ elim (get-cases ns n j x f) [ inl r ↦ absurd (new j (r ∙ ap Some (sym q.1))) | inr r ↦ q.0 ∙ sym r.0 ]
  ];
}
