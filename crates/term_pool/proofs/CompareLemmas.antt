-- The order of two nodes, from their symbols and their parts.
use Rattle.std.proofs.Common.{◌≡◌, ℕ, zero, suc, ◌<◌, ℤ, List, [], ◌∷◌, length, map, take, slice_get, get_or, Some, refl, sym, ap, subst, ◌∙◌, arith, true, false, not, true≢false}
use Rattle.std.specs.Prelude.{◌==◌}
use Rattle.std.specs.Prelude.{All}
use Rattle.std.proofs.lemmas.Option.{same_Some, none-some, slice_get_within, slice_get_read, get_or_from_slice_get}
use Rattle.std.proofs.lemmas.List.Elements.{All-get_or}
use Rattle.std.specs.declared.cmp.Ordering.{Ordering}
use Rattle.std.specs.declared.cmp.Ordering.TheVariants.{Less, Equal, Greater}
use Rattle.std.specs.Ordering.{nat_cmp, int_cmp, ordering_then, ordering_index, is_eq}
use Rattle.alpha_outside.specs.declared.node.Node.{Node}
use Rattle.alpha_outside.specs.declared.node.Node.TheVariants as node
use Rattle.asp_meaning.specs.declared.value.Value.{Value}
use Rattle.asp_meaning.specs.declared.value.Value.TheOpen.{Value-F}
use Rattle.asp_meaning.specs.declared.value.Value.TheOpen as layer
use Rattle.asp_meaning.specs.declared.value.Value.TheVariants as value
use Rattle.asp_meaning.specs.Orders.{bytes_cmp, args_cmp, value_cmp}
use Rattle.term_pool.specs.declared.order.NodeOrder.TheVariants.{Known, Parts}
use Rattle.term_pool.specs.Nodes.{part, value_from, values, value_at, HasArguments, IsPool}
use Rattle.term_pool.specs.Orders.{IsFirstApart, IsDownTo, IsNodeOrder}
use Rattle.term_pool.proofs.PlaceLemmas.{length-map}
use Rattle.term_pool.proofs.PoolLemmas.{length-values, value_here}
use Rattle.term_pool.proofs.OnceLemmas.{same_part, values_once}
use Rattle.asp_meaning.proofs.ValueOrder.{by_layers, value_itself, value_same}

abbrev rest_of : List ℕ → List ℕ
rest_of [] = []
rest_of (z ∷ zs) = zs

then_left : (r s : Ordering) → (r ≡ Equal → ⊥) → ordering_then r s ≡ r
then_left Less s d = refl
then_left Equal s d = absurd (d refl)
then_left Greater s d = refl

-- the comparison of the parts is that of the first that differ
pub args_apart : (vs : List Value) (xs ys : List ℕ) (i p q : ℕ) → take i xs ≡ take i ys → slice_get xs i ≡ Some p → slice_get ys i ≡ Some q
    → (value_cmp (part vs p) (part vs q) ≡ Equal → ⊥) → args_cmp (map value_cmp (map (part vs) xs)) (map (part vs) ys) ≡ value_cmp (part vs p) (part vs q)
args_apart vs [] ys i p q e f g d = absurd (none-some p f)
args_apart vs (a ∷ xs) [] i p q e f g d = absurd (none-some q g)
args_apart vs (a ∷ xs) (b ∷ ys) zero p q e f g d =
    ap (λ r. ordering_then r (args_cmp (map value_cmp (map (part vs) xs)) (map (part vs) ys))) here ∙ then_left (value_cmp (part vs p) (part vs q)) (args_cmp (map value_cmp (map (part vs) xs)) (map (part vs) ys)) d
  where
    here : value_cmp (part vs a) (part vs b) ≡ value_cmp (part vs p) (part vs q)
    here = λ i. value_cmp (part vs (same_Some a p f i)) (part vs (same_Some b q g i))
args_apart vs (a ∷ xs) (b ∷ ys) (suc i) p q e f g d =
    ap (λ r. ordering_then r (args_cmp (map value_cmp (map (part vs) xs)) (map (part vs) ys))) here ∙ args_apart vs xs ys i p q (ap rest_of e) f g d
  where
    here : value_cmp (part vs a) (part vs b) ≡ Equal
    here = ap (λ z. value_cmp (part vs a) (part vs z)) (sym (same_Some a b (ap (λ l. slice_get l 0) e))) ∙ value_itself (part vs a)

-- the order of two functional terms, by what their nodes hold
pub cmp_calls : (vs : List Value) (f g : List ℕ) (xs ys : List ℕ) → 0 < length xs → 0 < length ys → value_cmp (value_from vs (node.Fun f xs)) (value_from vs (node.Fun g ys))
    ≡ ordering_then (nat_cmp (length xs) (length ys)) (ordering_then (bytes_cmp f g) (args_cmp (map value_cmp (map (part vs) xs)) (map (part vs) ys)))
cmp_calls vs f g [] ys p q = absurd (omega (arith, p))
cmp_calls vs f g (x ∷ xs) [] p q = absurd (omega (arith, q))
cmp_calls vs f g (x ∷ xs) (y ∷ ys) p q =
    by_layers (value.Fun f (part vs x) (map (part vs) xs)) (value.Fun g (part vs y) (map (part vs) ys)) (layer.Fun f (part vs x) (map (part vs) xs)) (layer.Fun g (part vs y) (map (part vs) ys))
    (value.rolls-Fun f (part vs x) (map (part vs) xs)) (value.rolls-Fun g (part vs y) (map (part vs) ys))
    ∙ ap (λ n. ordering_then n (ordering_then (bytes_cmp f g) (args_cmp (map value_cmp (map (part vs) (x ∷ xs))) (map (part vs) (y ∷ ys))))) sizes
  where
    left : length (map value_cmp (map (part vs) (x ∷ xs))) ≡ length (x ∷ xs)
    left = length-map value_cmp (map (part vs) (x ∷ xs)) ∙ length-map (part vs) (x ∷ xs)

    right : length (map (part vs) (y ∷ ys)) ≡ length (y ∷ ys)
    right = length-map (part vs) (y ∷ ys)

    sizes : nat_cmp (length (map value_cmp (map (part vs) (x ∷ xs)))) (length (map (part vs) (y ∷ ys))) ≡ nat_cmp (length (x ∷ xs)) (length (y ∷ ys))
    sizes = λ i. nat_cmp (left i) (right i)

pub by_length : (f g xs ys : List ℕ) (o : Ordering) → 0 < length xs → 0 < length ys → o ≡ nat_cmp (length xs) (length ys) → (o ≡ Equal → ⊥) → IsNodeOrder (node.Fun f xs) (node.Fun g ys) (Known o)
by_length f g xs ys o p q e d = λ vs. cmp_calls vs f g xs ys p q
    ∙ ap (λ r. ordering_then r (ordering_then (bytes_cmp f g) (args_cmp (map value_cmp (map (part vs) xs)) (map (part vs) ys)))) (sym e)
    ∙ then_left o (ordering_then (bytes_cmp f g) (args_cmp (map value_cmp (map (part vs) xs)) (map (part vs) ys))) d

pub by_name : (f g xs ys : List ℕ) (o : Ordering) → 0 < length xs → 0 < length ys → nat_cmp (length xs) (length ys) ≡ Equal → o ≡ bytes_cmp f g → (o ≡ Equal → ⊥) → IsNodeOrder (node.Fun f xs) (node.Fun g ys) (Known o)
by_name f g xs ys o p q n e d = λ vs. cmp_calls vs f g xs ys p q
    ∙ ap (λ r. ordering_then r (ordering_then (bytes_cmp f g) (args_cmp (map value_cmp (map (part vs) xs)) (map (part vs) ys)))) n
    ∙ ap (λ r. ordering_then r (args_cmp (map value_cmp (map (part vs) xs)) (map (part vs) ys))) (sym e)
    ∙ then_left o (args_cmp (map value_cmp (map (part vs) xs)) (map (part vs) ys)) d

by_args : (f g xs ys : List ℕ) → 0 < length xs → 0 < length ys → nat_cmp (length xs) (length ys) ≡ Equal → bytes_cmp f g ≡ Equal → (vs : List Value)
    → value_cmp (value_from vs (node.Fun f xs)) (value_from vs (node.Fun g ys)) ≡ args_cmp (map value_cmp (map (part vs) xs)) (map (part vs) ys)
by_args f g xs ys p q n e vs = cmp_calls vs f g xs ys p q
    ∙ ap (λ r. ordering_then r (ordering_then (bytes_cmp f g) (args_cmp (map value_cmp (map (part vs) xs)) (map (part vs) ys)))) n
    ∙ ap (λ r. ordering_then r (args_cmp (map value_cmp (map (part vs) xs)) (map (part vs) ys))) e

args_equal : (us : List Value) → args_cmp (map value_cmp us) us ≡ Equal
args_equal [] = refl
args_equal (u ∷ us) = ap (λ r. ordering_then r (args_cmp (map value_cmp us) us)) (value_itself u) ∙ args_equal us

pub same_calls : (f g xs ys : List ℕ) → 0 < length xs → 0 < length ys → nat_cmp (length xs) (length ys) ≡ Equal → bytes_cmp f g ≡ Equal → xs ≡ ys → IsNodeOrder (node.Fun f xs) (node.Fun g ys) (Known Equal)
same_calls f g xs ys p q n e same = λ vs. by_args f g xs ys p q n e vs ∙ ap (λ zs. args_cmp (map value_cmp (map (part vs) xs)) (map (part vs) zs)) (sym same) ∙ args_equal (map (part vs) xs)

all_at : (n : ℕ) (xs : List ℕ) (i p : ℕ) → slice_get xs i ≡ Some p → All (λ a. a < n) xs → p < n
all_at n xs i p e h = subst (λ a. a < n) (get_or_from_slice_get xs i p p e) (All-get_or (λ a. a < n) xs i p (slice_get_within xs i p e) h)

pub by_parts : (f g xs ys : List ℕ) (p q : ℕ) → 0 < length xs → 0 < length ys → nat_cmp (length xs) (length ys) ≡ Equal → bytes_cmp f g ≡ Equal → IsFirstApart xs ys p q → IsNodeOrder (node.Fun f xs) (node.Fun g ys) (Parts p q)
by_parts f g xs ys p q l r n e h = record {
  left = λ k below. all_at k xs h.place p h.left below;
  right = λ k below. all_at k ys h.place q h.right below;
  apart = h.apart;
  same = λ vs d. by_args f g xs ys l r n e vs ∙ args_apart vs xs ys h.place p q h.before h.left h.right d;
}

pub two_ints : (x y : Node) (m n : ℤ) (o : Ordering) → x ≡ node.Int m → y ≡ node.Int n → o ≡ int_cmp m n → IsNodeOrder x y (Known o)
two_ints x y m n o p q e = λ vs. (λ i. value_cmp (value_from vs (p i)) (value_from vs (q i))) ∙ by_layers (value.Int m) (value.Int n) (layer.Int m) (layer.Int n) (value.rolls-Int m) (value.rolls-Int n) ∙ sym e

pub two_symbols : (x y : Node) (s t : List ℕ) (o : Ordering) → x ≡ node.Symbol s → y ≡ node.Symbol t → o ≡ bytes_cmp s t → IsNodeOrder x y (Known o)
two_symbols x y s t o p q e = λ vs. (λ i. value_cmp (value_from vs (p i)) (value_from vs (q i))) ∙ by_layers (value.Symbol s) (value.Symbol t) (layer.Symbol s) (layer.Symbol t) (value.rolls-Symbol s) (value.rolls-Symbol t) ∙ sym e

pub two_texts : (x y : Node) (s t : List ℕ) (o : Ordering) → x ≡ node.Text s → y ≡ node.Text t → o ≡ bytes_cmp s t → IsNodeOrder x y (Known o)
two_texts x y s t o p q e = λ vs. (λ i. value_cmp (value_from vs (p i)) (value_from vs (q i))) ∙ by_layers (value.Text s) (value.Text t) (layer.Text s) (layer.Text t) (value.rolls-Text s) (value.rolls-Text t) ∙ sym e

-- integers, symbols, texts, functional terms
abbrev pub kind : Node → ℕ
kind (node.Int n) = 0
kind (node.Symbol x) = 1
kind (node.Text x) = 2
kind (node.Fun f xs) = 3

pub earlier_kind : (x y : Node) → HasArguments x → HasArguments y → kind x < kind y → IsNodeOrder x y (Known Less)
earlier_kind (node.Int m) (node.Int n) p q lt = absurd (omega (arith, lt))
earlier_kind (node.Int m) (node.Symbol t) p q lt = λ vs. by_layers (value.Int m) (value.Symbol t) (layer.Int m) (layer.Symbol t) (value.rolls-Int m) (value.rolls-Symbol t)
earlier_kind (node.Int m) (node.Text v) p q lt = λ vs. by_layers (value.Int m) (value.Text v) (layer.Int m) (layer.Text v) (value.rolls-Int m) (value.rolls-Text v)
earlier_kind (node.Int m) (node.Fun g []) p q lt = absurd (omega (arith, q))
earlier_kind (node.Int m) (node.Fun g (y ∷ ys)) p q lt = λ vs. by_layers (value.Int m) (value.Fun g (part vs y) (map (part vs) ys)) (layer.Int m) (layer.Fun g (part vs y) (map (part vs) ys)) (value.rolls-Int m) (value.rolls-Fun g (part vs y) (map (part vs) ys))
earlier_kind (node.Symbol s) (node.Int n) p q lt = absurd (omega (arith, lt))
earlier_kind (node.Symbol s) (node.Symbol t) p q lt = absurd (omega (arith, lt))
earlier_kind (node.Symbol s) (node.Text v) p q lt = λ vs. by_layers (value.Symbol s) (value.Text v) (layer.Symbol s) (layer.Text v) (value.rolls-Symbol s) (value.rolls-Text v)
earlier_kind (node.Symbol s) (node.Fun g []) p q lt = absurd (omega (arith, q))
earlier_kind (node.Symbol s) (node.Fun g (y ∷ ys)) p q lt = λ vs. by_layers (value.Symbol s) (value.Fun g (part vs y) (map (part vs) ys)) (layer.Symbol s) (layer.Fun g (part vs y) (map (part vs) ys)) (value.rolls-Symbol s) (value.rolls-Fun g (part vs y) (map (part vs) ys))
earlier_kind (node.Text u) (node.Int n) p q lt = absurd (omega (arith, lt))
earlier_kind (node.Text u) (node.Symbol t) p q lt = absurd (omega (arith, lt))
earlier_kind (node.Text u) (node.Text v) p q lt = absurd (omega (arith, lt))
earlier_kind (node.Text u) (node.Fun g []) p q lt = absurd (omega (arith, q))
earlier_kind (node.Text u) (node.Fun g (y ∷ ys)) p q lt = λ vs. by_layers (value.Text u) (value.Fun g (part vs y) (map (part vs) ys)) (layer.Text u) (layer.Fun g (part vs y) (map (part vs) ys)) (value.rolls-Text u) (value.rolls-Fun g (part vs y) (map (part vs) ys))
earlier_kind (node.Fun f []) y p q lt = absurd (omega (arith, p))
earlier_kind (node.Fun f (x ∷ xs)) (node.Int n) p q lt = absurd (omega (arith, lt))
earlier_kind (node.Fun f (x ∷ xs)) (node.Symbol t) p q lt = absurd (omega (arith, lt))
earlier_kind (node.Fun f (x ∷ xs)) (node.Text v) p q lt = absurd (omega (arith, lt))
earlier_kind (node.Fun f (x ∷ xs)) (node.Fun g ys) p q lt = absurd (omega (arith, lt))

pub later_kind : (x y : Node) → HasArguments x → HasArguments y → kind y < kind x → IsNodeOrder x y (Known Greater)
later_kind (node.Int m) (node.Int n) p q lt = absurd (omega (arith, lt))
later_kind (node.Int m) (node.Symbol t) p q lt = absurd (omega (arith, lt))
later_kind (node.Int m) (node.Text v) p q lt = absurd (omega (arith, lt))
later_kind (node.Int m) (node.Fun g []) p q lt = absurd (omega (arith, q))
later_kind (node.Int m) (node.Fun g (y ∷ ys)) p q lt = absurd (omega (arith, lt))
later_kind (node.Symbol s) (node.Int n) p q lt = λ vs. by_layers (value.Symbol s) (value.Int n) (layer.Symbol s) (layer.Int n) (value.rolls-Symbol s) (value.rolls-Int n)
later_kind (node.Symbol s) (node.Symbol t) p q lt = absurd (omega (arith, lt))
later_kind (node.Symbol s) (node.Text v) p q lt = absurd (omega (arith, lt))
later_kind (node.Symbol s) (node.Fun g []) p q lt = absurd (omega (arith, q))
later_kind (node.Symbol s) (node.Fun g (y ∷ ys)) p q lt = absurd (omega (arith, lt))
later_kind (node.Text u) (node.Int n) p q lt = λ vs. by_layers (value.Text u) (value.Int n) (layer.Text u) (layer.Int n) (value.rolls-Text u) (value.rolls-Int n)
later_kind (node.Text u) (node.Symbol t) p q lt = λ vs. by_layers (value.Text u) (value.Symbol t) (layer.Text u) (layer.Symbol t) (value.rolls-Text u) (value.rolls-Symbol t)
later_kind (node.Text u) (node.Text v) p q lt = absurd (omega (arith, lt))
later_kind (node.Text u) (node.Fun g []) p q lt = absurd (omega (arith, q))
later_kind (node.Text u) (node.Fun g (y ∷ ys)) p q lt = absurd (omega (arith, lt))
later_kind (node.Fun f []) y p q lt = absurd (omega (arith, p))
later_kind (node.Fun f (x ∷ xs)) (node.Int n) p q lt = λ vs. by_layers (value.Fun f (part vs x) (map (part vs) xs)) (value.Int n) (layer.Fun f (part vs x) (map (part vs) xs)) (layer.Int n) (value.rolls-Fun f (part vs x) (map (part vs) xs)) (value.rolls-Int n)
later_kind (node.Fun f (x ∷ xs)) (node.Symbol t) p q lt = λ vs. by_layers (value.Fun f (part vs x) (map (part vs) xs)) (value.Symbol t) (layer.Fun f (part vs x) (map (part vs) xs)) (layer.Symbol t) (value.rolls-Fun f (part vs x) (map (part vs) xs)) (value.rolls-Symbol t)
later_kind (node.Fun f (x ∷ xs)) (node.Text v) p q lt = λ vs. by_layers (value.Fun f (part vs x) (map (part vs) xs)) (value.Text v) (layer.Fun f (part vs x) (map (part vs) xs)) (layer.Text v) (value.rolls-Fun f (part vs x) (map (part vs) xs)) (value.rolls-Text v)
later_kind (node.Fun f (x ∷ xs)) (node.Fun g ys) p q lt = absurd (omega (arith, lt))

-- what the tests of `!=` say
pub not_equal : (r : Ordering) → true ≡ not (ordering_index r == 1) → r ≡ Equal → ⊥
not_equal Less e f = true≢false (sym (ap is_eq f))
not_equal Equal e f = true≢false e
not_equal Greater e f = true≢false (sym (ap is_eq f))

pub is_equal : (r : Ordering) → false ≡ not (ordering_index r == 1) → r ≡ Equal
is_equal Less e = absurd (true≢false (sym e))
is_equal Equal e = refl
is_equal Greater e = absurd (true≢false (sym e))

pub other_than_int : (m : ℤ) (x y : Node) → HasArguments y → x ≡ node.Int m → ((n : ℤ) → y ≡ node.Int n → ⊥) → IsNodeOrder x y (Known Less)
other_than_int m x y q e d = subst (λ z. IsNodeOrder z y (Known Less)) (sym e) (earlier_kind (node.Int m) y tt q (at y d))
  where
    at : (z : Node) → ((n : ℤ) → z ≡ node.Int n → ⊥) → 0 < kind z
    at (node.Int n) f = absurd (f n refl)
    at (node.Symbol t) f = omega arith
    at (node.Text t) f = omega arith
    at (node.Fun g ys) f = omega arith

pub symbol_before : (s : List ℕ) (x y : Node) → HasArguments y → x ≡ node.Symbol s → ((n : ℤ) → y ≡ node.Int n → ⊥) → ((t : List ℕ) → y ≡ node.Symbol t → ⊥) → IsNodeOrder x y (Known Less)
symbol_before s x y q e d c = subst (λ z. IsNodeOrder z y (Known Less)) (sym e) (earlier_kind (node.Symbol s) y tt q (at y d c))
  where
    at : (z : Node) → ((n : ℤ) → z ≡ node.Int n → ⊥) → ((t : List ℕ) → z ≡ node.Symbol t → ⊥) → 1 < kind z
    at (node.Int n) f g = absurd (f n refl)
    at (node.Symbol t) f g = absurd (g t refl)
    at (node.Text t) f g = omega arith
    at (node.Fun h ys) f g = omega arith

pub text_after : (s : List ℕ) (x y : Node) → HasArguments y → x ≡ node.Text s → ((t : List ℕ) → y ≡ node.Text t → ⊥) → ((g ys : List ℕ) → y ≡ node.Fun g ys → ⊥) → IsNodeOrder x y (Known Greater)
text_after s x y q e d c = subst (λ z. IsNodeOrder z y (Known Greater)) (sym e) (later_kind (node.Text s) y tt q (at y d c))
  where
    at : (z : Node) → ((t : List ℕ) → z ≡ node.Text t → ⊥) → ((g ys : List ℕ) → z ≡ node.Fun g ys → ⊥) → kind z < 2
    at (node.Int n) f g = omega arith
    at (node.Symbol t) f g = omega arith
    at (node.Text t) f g = absurd (f t refl)
    at (node.Fun h ys) f g = absurd (g h ys refl)

pub call_after : (f xs : List ℕ) (x y : Node) → HasArguments x → HasArguments y → x ≡ node.Fun f xs → ((g ys : List ℕ) → y ≡ node.Fun g ys → ⊥) → IsNodeOrder x y (Known Greater)
call_after f xs x y p q e c = subst (λ z. IsNodeOrder z y (Known Greater)) (sym e) (later_kind (node.Fun f xs) y (subst HasArguments e p) q (at y c))
  where
    at : (z : Node) → ((g ys : List ℕ) → z ≡ node.Fun g ys → ⊥) → kind z < 3
    at (node.Int n) g = omega arith
    at (node.Symbol t) g = omega arith
    at (node.Text t) g = omega arith
    at (node.Fun h ys) g = absurd (g h ys refl)

both_here : (ns : List Node) → IsPool ns → (l r : ℕ) (x y : Node) → slice_get ns l ≡ Some x → slice_get ns r ≡ Some y
    → value_cmp (value_at ns l) (value_at ns r) ≡ value_cmp (value_from (values ns) x) (value_from (values ns) y)
both_here ns p l r x y e f = λ i. value_cmp (value_here ns p l x e i) (value_here ns p r y f i)

pub known_here : (ns : List Node) → IsPool ns → (l r : ℕ) (x y : Node) (o : Ordering) → slice_get ns l ≡ Some x → slice_get ns r ≡ Some y → IsNodeOrder x y (Known o)
    → value_cmp (value_at ns l) (value_at ns r) ≡ o
known_here ns p l r x y o e f h = both_here ns p l r x y e f ∙ h (values ns)

pub down_here : (ns : List Node) → IsPool ns → (l r : ℕ) (x y : Node) (a b : ℕ) → slice_get ns l ≡ Some x → slice_get ns r ≡ Some y → IsDownTo x y a b
    → (a < l) × (a < length ns) × (b < length ns) × (value_cmp (value_at ns a) (value_at ns b) ≡ value_cmp (value_at ns l) (value_at ns r))
down_here ns p l r x y a b e f h =
    let below_l : a < l = h.left l (p.parts l x e) in
    let below_r : b < r = h.right r (p.parts r y f) in
    let in_l : l < length ns = slice_get_within ns l x e in
    let in_r : r < length ns = slice_get_within ns r y f in
    let in_a : a < length (values ns) = omega (arith, below_l, in_l, length-values ns) in
    let in_b : b < length (values ns) = omega (arith, below_r, in_r, length-values ns) in
    let differ : value_cmp (part (values ns) a) (part (values ns) b) ≡ Equal → ⊥ = λ q. h.apart (same_part (values ns) (values_once ns p) a b in_a in_b (value_same (part (values ns) a) (part (values ns) b) q)) in
    (below_l, omega (arith, below_l, in_l), omega (arith, below_r, in_r), sym (both_here ns p l r x y e f ∙ h.same (values ns) differ))

-- a node that was read from the list of the nodes
pub value_read : (ks ns : List Node) → IsPool ns → ks ≡ ns → (place id : ℕ) (n : Node) → place ≡ id → id < length ns → n ≡ get_or ks place n → value_at ns id ≡ value_from (values ns) n
value_read ks ns p same place id n at lt read =
    value_here ns p id n (slice_get_read ns (length ns) id n (λ i. length ns) lt (read ∙ (λ i. get_or (same i) (at i) n)))
