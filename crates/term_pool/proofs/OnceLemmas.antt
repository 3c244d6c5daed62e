-- In a pool different places have different values.
use Rattle.std.proofs.Common.{◌≡◌, inl, inr, ℕ, pos, ◌<◌, ℤ, List, [], ◌∷◌, ◌++◌, length, map, slice_get, get_or, Some, refl, sym, ap, ◌∙◌, arith}
use Rattle.std.specs.Prelude.{All}
use Rattle.std.proofs.lemmas.Option.{same_Some, none-some, slice_get_within, slice_get-get_or}
use Rattle.std.proofs.lemmas.List.Elements.{All-head, All-tail}
use Rattle.alpha_outside.specs.declared.node.Node.{Node}
use Rattle.alpha_outside.specs.declared.node.Node.TheVariants as node
use Rattle.asp_meaning.specs.declared.value.Value.{Value}
use Rattle.asp_meaning.specs.declared.value.Value.TheOpen.{Value-F}
use Rattle.asp_meaning.specs.declared.value.Value.TheOpen as layer
use Rattle.asp_meaning.specs.declared.value.Value.TheVariants as value
use Rattle.asp_meaning.specs.declared.value.Value.TheViews.{out-Value}
use Rattle.asp_meaning.proofs.Layers.{out-Int, out-Symbol, out-Text, out-Fun}
use Rattle.term_pool.specs.Interning.{NoneTwice}
use Rattle.term_pool.specs.Nodes.{part, value_from, values, PartsBelow, HasArguments, IsPool}
use Rattle.term_pool.proofs.PlaceLemmas.{get-cases, get-kept, get-last as get-end, grow}
use Rattle.term_pool.proofs.PoolLemmas.{values-push, length-values, value_of_node, PartsBelow-more}

-- one layer of a node's value
layer_of : List Value → Node → Value-F Value
layer_of vs (node.Int n) = layer.Int n
layer_of vs (node.Symbol x) = layer.Symbol x
layer_of vs (node.Text x) = layer.Text x
layer_of vs (node.Fun f []) = layer.Symbol f
layer_of vs (node.Fun f (x ∷ xs)) = layer.Fun f (part vs x) (map (part vs) xs)

out-node : (vs : List Value) (n : Node) → out-Value (value_from vs n) ≡ layer_of vs n
unfolding layer_of
out-node vs (node.Int n) = out-Int n
out-node vs (node.Symbol x) = out-Symbol x
out-node vs (node.Text x) = out-Text x
out-node vs (node.Fun f []) = out-Symbol f
out-node vs (node.Fun f (x ∷ xs)) = out-Fun f (part vs x) (map (part vs) xs)

abbrev kind_of : Value-F Value → ℕ
kind_of (layer.Int n) = 0
kind_of (layer.Symbol x) = 1
kind_of (layer.Text x) = 2
kind_of (layer.Fun f x xs) = 3

abbrev int_of : Value-F Value → ℤ
int_of (layer.Int n) = n
int_of _ = pos 0

abbrev name_of : Value-F Value → List ℕ
name_of (layer.Int n) = []
name_of (layer.Symbol x) = x
name_of (layer.Text x) = x
name_of (layer.Fun f x xs) = f

abbrev args_of : Value-F Value → List Value
args_of (layer.Fun f x xs) = x ∷ xs
args_of _ = []

other : {A : Type 0} (x y : Value-F Value) → x ≡ y → (kind_of x ≡ kind_of y → ⊥) → A
other x y e d = absurd (d (ap kind_of e))

pub same_part : (vs : List Value) → NoneTwice vs → (a b : ℕ) → a < length vs → b < length vs → part vs a ≡ part vs b → a ≡ b
same_part vs once a b la lb e =
    let d : Value = value.Int (pos 0) in
    once a b (part vs a) (slice_get-get_or vs a d la) (slice_get-get_or vs b d lb ∙ ap Some (sym e))

heads : (d x y : Value) (xs ys : List Value) → x ∷ xs ≡ y ∷ ys → x ≡ y
heads d x y xs ys e = ap (λ l. get_or l 0 d) e

abbrev tail : List Value → List Value
tail [] = []
tail (v ∷ vs) = vs

abbrev is_nil : List Value → ℕ
is_nil [] = 0
is_nil (v ∷ vs) = 1

-- where no value stands twice, the same values stand at the same places
pub same_parts : (vs : List Value) → NoneTwice vs → (xs ys : List ℕ) → All (λ a. a < length vs) xs → All (λ a. a < length vs) ys → map (part vs) xs ≡ map (part vs) ys → xs ≡ ys
same_parts vs once [] [] hx hy e = refl
same_parts vs once [] (b ∷ ys) hx hy e = absurd (omega (arith, ap is_nil e))
same_parts vs once (a ∷ xs) [] hx hy e = absurd (omega (arith, ap is_nil e))
same_parts vs once (a ∷ xs) (b ∷ ys) hx hy e =
    let first : a ≡ b = same_part vs once a b (All-head (λ k. k < length vs) a xs hx) (All-head (λ k. k < length vs) b ys hy) (heads (value.Int (pos 0)) (part vs a) (part vs b) (map (part vs) xs) (map (part vs) ys) e) in
    let rest : xs ≡ ys = same_parts vs once xs ys (All-tail (λ k. k < length vs) a xs hx) (All-tail (λ k. k < length vs) b ys hy) (ap tail e) in
    λ i. first i ∷ rest i

same_layer : (vs : List Value) → NoneTwice vs → (x y : Node) → PartsBelow (length vs) x → PartsBelow (length vs) y → HasArguments x → HasArguments y → layer_of vs x ≡ layer_of vs y → x ≡ y
unfolding layer_of
same_layer vs once (node.Int m) (node.Int n) hx hy p q e = ap node.Int (ap int_of e)
same_layer vs once (node.Int m) (node.Symbol t) hx hy p q e = other (layer.Int m) (layer.Symbol t) e (λ k. omega (arith, k))
same_layer vs once (node.Int m) (node.Text t) hx hy p q e = other (layer.Int m) (layer.Text t) e (λ k. omega (arith, k))
same_layer vs once (node.Int m) (node.Fun g []) hx hy p q e = absurd (omega (arith, q))
same_layer vs once (node.Int m) (node.Fun g (y ∷ ys)) hx hy p q e = other (layer.Int m) (layer.Fun g (part vs y) (map (part vs) ys)) e (λ k. omega (arith, k))
same_layer vs once (node.Symbol s) (node.Int n) hx hy p q e = other (layer.Symbol s) (layer.Int n) e (λ k. omega (arith, k))
same_layer vs once (node.Symbol s) (node.Symbol t) hx hy p q e = ap node.Symbol (ap name_of e)
same_layer vs once (node.Symbol s) (node.Text t) hx hy p q e = other (layer.Symbol s) (layer.Text t) e (λ k. omega (arith, k))
same_layer vs once (node.Symbol s) (node.Fun g []) hx hy p q e = absurd (omega (arith, q))
same_layer vs once (node.Symbol s) (node.Fun g (y ∷ ys)) hx hy p q e = other (layer.Symbol s) (layer.Fun g (part vs y) (map (part vs) ys)) e (λ k. omega (arith, k))
same_layer vs once (node.Text s) (node.Int n) hx hy p q e = other (layer.Text s) (layer.Int n) e (λ k. omega (arith, k))
same_layer vs once (node.Text s) (node.Symbol t) hx hy p q e = other (layer.Text s) (layer.Symbol t) e (λ k. omega (arith, k))
same_layer vs once (node.Text s) (node.Text t) hx hy p q e = ap node.Text (ap name_of e)
same_layer vs once (node.Text s) (node.Fun g []) hx hy p q e = absurd (omega (arith, q))
same_layer vs once (node.Text s) (node.Fun g (y ∷ ys)) hx hy p q e = other (layer.Text s) (layer.Fun g (part vs y) (map (part vs) ys)) e (λ k. omega (arith, k))
same_layer vs once (node.Fun f []) y hx hy p q e = absurd (omega (arith, p))
same_layer vs once (node.Fun f (x ∷ xs)) (node.Int n) hx hy p q e = other (layer.Fun f (part vs x) (map (part vs) xs)) (layer.Int n) e (λ k. omega (arith, k))
same_layer vs once (node.Fun f (x ∷ xs)) (node.Symbol t) hx hy p q e = other (layer.Fun f (part vs x) (map (part vs) xs)) (layer.Symbol t) e (λ k. omega (arith, k))
same_layer vs once (node.Fun f (x ∷ xs)) (node.Text t) hx hy p q e = other (layer.Fun f (part vs x) (map (part vs) xs)) (layer.Text t) e (λ k. omega (arith, k))
same_layer vs once (node.Fun f (x ∷ xs)) (node.Fun g []) hx hy p q e = absurd (omega (arith, q))
same_layer vs once (node.Fun f (x ∷ xs)) (node.Fun g (y ∷ ys)) hx hy p q e =
    let name : f ≡ g = ap name_of e in
    let args : x ∷ xs ≡ y ∷ ys = same_parts vs once (x ∷ xs) (y ∷ ys) hx hy (ap args_of e) in
    λ i. node.Fun (name i) (args i)

-- nodes with the same value over values of which none stands twice are the same
pub same_node : (vs : List Value) → NoneTwice vs → (x y : Node) → PartsBelow (length vs) x → PartsBelow (length vs) y → HasArguments x → HasArguments y → value_from vs x ≡ value_from vs y → x ≡ y
same_node vs once x y hx hy p q e = same_layer vs once x y hx hy p q (sym (out-node vs x) ∙ ap out-Value e ∙ out-node vs y)

IsPool-before : (ns : List Node) (x : Node) → IsPool (ns ++ x ∷ []) → IsPool ns
IsPool-before ns x p = record {
  parts = λ i n e. p.parts i n (get-kept ns (x ∷ []) i n e);
  arguments = λ i n e. p.arguments i n (get-kept ns (x ∷ []) i n e);
  once = λ i j n e f. p.once i j n (get-kept ns (x ∷ []) i n e) (get-kept ns (x ∷ []) j n f);
}

pub values_once : (ns : List Node) → IsPool ns → NoneTwice (values ns)
values_once = grow (λ ns. IsPool ns → NoneTwice (values ns)) (λ p i j v e f. absurd (none-some v e)) step
  where
    step : (ns : List Node) (x : Node) → (IsPool ns → NoneTwice (values ns)) → IsPool (ns ++ x ∷ []) → NoneTwice (values (ns ++ x ∷ []))
    step ns x before p i j v e f = elim (get-cases (values ns) new i v (here i e)) [
      | inl q ↦ elim (get-cases (values ns) new j v (here j f)) [ inl r ↦ once i j v q r | inr r ↦ absurd (not_old i v q r.1) ]
      | inr q ↦ elim (get-cases (values ns) new j v (here j f)) [ inl r ↦ absurd (not_old j v r q.1) | inr r ↦ q.0 ∙ sym r.0 ]
    ]
      where
        old : IsPool ns
        old = IsPool-before ns x p

        once : NoneTwice (values ns)
        once = before old

        new : Value
        new = value_from (values ns) x

        here : (k : ℕ) → slice_get (values (ns ++ x ∷ [])) k ≡ Some v → slice_get (values ns ++ new ∷ []) k ≡ Some v
        here k g = ap (λ vs. slice_get vs k) (sym (values-push ns x)) ∙ g

        not_old : (k : ℕ) (w : Value) → slice_get (values ns) k ≡ Some w → new ≡ w → ⊥
        not_old k w g is =
            let within : k < length ns = omega (arith, slice_get_within (values ns) k w g, length-values ns) in
            let n : Node = get_or ns k x in
            let at : slice_get ns k ≡ Some n = slice_get-get_or ns k x within in
            let same : value_from (values ns) n ≡ new = same_Some (value_from (values ns) n) new (sym (value_of_node ns old.parts k n at) ∙ g ∙ ap Some (sym is)) in
            let low : PartsBelow (length (values ns)) n = PartsBelow-more k (length (values ns)) n (omega (arith, within, length-values ns)) (old.parts k n at) in
            let last : slice_get (ns ++ x ∷ []) (length ns) ≡ Some x = get-end ns x in
            let own : PartsBelow (length (values ns)) x = PartsBelow-more (length ns) (length (values ns)) x (omega (arith, length-values ns)) (p.parts (length ns) x last) in
            let is_x : n ≡ x = same_node (values ns) once n x low own (old.arguments k n at) (p.arguments (length ns) x last) same in
            let twice : k ≡ length ns = p.once k (length ns) x (get-kept ns (x ∷ []) k x (at ∙ ap Some is_x)) last in
            omega (arith, within, twice)
