-- How values stand to one another, and how they are written.
use Rattle.std.proofs.Common.{◌≡◌, inl, inr, refl, sym, ap, ◌∙◌, ℕ, pos, negsuc, Bool, true, false, List, [], ◌∷◌, ◌++◌, map, length, codes, arith}
use Rattle.std.specs.declared.cmp.Ordering.{Ordering}
use Rattle.std.specs.declared.cmp.Ordering.TheVariants.{Less, Equal, Greater}
use Rattle.std.specs.Ordering.{nat_cmp, ordering_then}
use Rattle.lists.specs.Lists.{◌⊆◌}
use Rattle.lists.proofs.ListLemmas.{Each-map}
use Rattle.asp_meaning.specs.declared.value.Value.{Value}
use Rattle.asp_meaning.specs.declared.value.Value.TheVariants as value
use Rattle.asp_meaning.specs.declared.value.Value.TheOpen.{Value-F}
use Rattle.asp_meaning.specs.declared.value.Value.TheOpen as layer
use Rattle.asp_meaning.specs.Orders.{bytes_cmp, args_cmp, value_cmp, values_cmp}
use Rattle.asp_meaning.specs.Atoms.{Atom}
use Rattle.asp_meaning.specs.Lines.{sign_cmp, joined, value_text, atom_cmp, IsInOrder}
use Rattle.asp_laws.specs.Examples.{v_of, minus_v_of, vs}
use Rattle.asp_laws.specs.Laws.{KindsAreInOrder, EachKindIsOrdered, EachKindIsWritten, ALineIsWritten}
use Rattle.asp_meaning.proofs.Layers.{text-Int, text-Symbol, text-Text, text-functional}
use Rattle.asp_meaning.proofs.ValueOrder.{by_layers, length-compared, nat_same, cmp-Int}
use Rattle.asp_meaning.proofs.AtomOrder.{atom_cmp_total}

-- ---- the order of values

pub kinds_are_in_order : KindsAreInOrder
kinds_are_in_order n x y f first rest = (
  by_layers (value.Int n) (value.Symbol x) (layer.Int n) (layer.Symbol x) (value.rolls-Int n) (value.rolls-Symbol x),
  by_layers (value.Symbol x) (value.Text y) (layer.Symbol x) (layer.Text y) (value.rolls-Symbol x) (value.rolls-Text y),
  by_layers (value.Text y) (value.Fun f first rest) (layer.Text y) (layer.Fun f first rest) (value.rolls-Text y) (value.rolls-Fun f first rest),
)

args_values : (xs ys : List Value) → length xs ≡ length ys → args_cmp (map value_cmp xs) ys ≡ values_cmp xs ys
args_values [] [] e = refl
args_values [] (y ∷ ys) e = absurd (omega arith)
args_values (x ∷ xs) [] e = absurd (omega arith)
args_values (x ∷ xs) (y ∷ ys) e = ap (ordering_then (value_cmp x y)) (args_values xs ys (omega arith))

-- the second order counts only where the first leaves the two level
then_same : (o p q : Ordering) → (o ≡ Equal → p ≡ q) → ordering_then o p ≡ ordering_then o q
then_same Less p q same = refl
then_same Equal p q same = same refl
then_same Greater p q same = refl

calls : (f g : List ℕ) (xs ys : List Value) → ordering_then (nat_cmp (length (map value_cmp xs)) (length ys)) (ordering_then (bytes_cmp f g) (args_cmp (map value_cmp xs) ys))
    ≡ ordering_then (nat_cmp (length xs) (length ys)) (ordering_then (bytes_cmp f g) (values_cmp xs ys))
calls f g xs ys =
    (λ i. ordering_then (nat_cmp (length-compared xs i) (length ys)) (ordering_then (bytes_cmp f g) (args_cmp (map value_cmp xs) ys)))
    ∙ then_same (nat_cmp (length xs) (length ys)) (ordering_then (bytes_cmp f g) (args_cmp (map value_cmp xs) ys)) (ordering_then (bytes_cmp f g) (values_cmp xs ys))
    (λ e. ap (ordering_then (bytes_cmp f g)) (args_values xs ys (nat_same (length xs) (length ys) e)))

pub each_kind_is_ordered : EachKindIsOrdered
each_kind_is_ordered = (
  (λ m n. by_layers (value.Int m) (value.Int n) (layer.Int m) (layer.Int n) (value.rolls-Int m) (value.rolls-Int n)),
  (λ x y. by_layers (value.Symbol x) (value.Symbol y) (layer.Symbol x) (layer.Symbol y) (value.rolls-Symbol x) (value.rolls-Symbol y)),
  (λ x y. by_layers (value.Text x) (value.Text y) (layer.Text x) (layer.Text y) (value.rolls-Text x) (value.rolls-Text y)),
  (λ f g x y xs ys.
      by_layers (value.Fun f x xs) (value.Fun g y ys) (layer.Fun f x xs) (layer.Fun g y ys) (value.rolls-Fun f x xs) (value.rolls-Fun g y ys) ∙ calls f g (x ∷ xs) (y ∷ ys)),
)

-- ---- the text of a value

pub each_kind_is_written : EachKindIsWritten
each_kind_is_written = (text-Int, text-Symbol, text-Text, λ f x xs. text-functional f (x ∷ xs))

-- ---- a line

-- each is below the next
abbrev IsBelow : Atom → List Atom → Type 0
IsBelow a [] = Unit {0}
IsBelow a (b ∷ more) = atom_cmp a b ≡ Less

abbrev IsChain : List Atom → Type 0
IsChain [] = Unit {0}
IsChain (a ∷ more) = IsBelow a more × IsChain more

in_order-from_chain : (xs : List Atom) → IsChain xs → IsInOrder xs
in_order-from_chain [] h = tt
in_order-from_chain (a ∷ []) h = (tt, tt)
in_order-from_chain (a ∷ (b ∷ more)) h =
    let rest = in_order-from_chain (b ∷ more) h.1 in
    ((h.0, Each-map (λ x. atom_cmp b x ≡ Less) (λ x. atom_cmp a x ≡ Less) (λ x f. atom_cmp_total.trans a b x h.0 f) more rest.0), rest)

abbrev v : Bool → Value → Atom
v negated x = record { negated = negated; name = codes "v"; args = x ∷ [] }

v_cmp : (p q : Bool) (x y : Value) → value_cmp x y ≡ Less → atom_cmp (v p x) (v q y) ≡ Less
v_cmp p q x y e = ap (λ o. ordering_then (ordering_then o Equal) (sign_cmp p q)) e

abbrev one : Value
one = value.Int (pos 1)

abbrev f_one : Value
f_one = value.Fun (codes "f") one []

abbrev f_zeros : Value
f_zeros = value.Fun (codes "f") (value.Int (pos 0)) (value.Int (pos 0) ∷ [])

-- the atoms in order
abbrev sorted : List Atom
sorted =
    v_of [] ∷ v_of (value.Int (negsuc 0) ∷ []) ∷ minus_v_of (value.Int (pos 2) ∷ []) ∷ v_of (value.Symbol (codes "a") ∷ []) ∷ v_of (value.Symbol (codes "g") ∷ [])
    ∷ v_of (value.Text (codes "b") ∷ []) ∷ v_of (f_one ∷ []) ∷ v_of (f_zeros ∷ []) ∷ []

sorted_in_order : IsInOrder sorted
sorted_in_order = in_order-from_chain sorted (
  refl,
  (
    v_cmp false true (value.Int (negsuc 0)) (value.Int (pos 2)) (cmp-Int (negsuc 0) (pos 2)),
    (
      v_cmp true false (value.Int (pos 2)) (value.Symbol (codes "a")) (kinds_are_in_order (pos 2) (codes "a") [] [] one []).0,
      (
        v_cmp false false (value.Symbol (codes "a")) (value.Symbol (codes "g")) (each_kind_is_ordered.1 (codes "a") (codes "g")),
        (
          v_cmp false false (value.Symbol (codes "g")) (value.Text (codes "b")) (kinds_are_in_order (pos 0) (codes "g") (codes "b") [] one []).1,
          (
            v_cmp false false (value.Text (codes "b")) f_one (kinds_are_in_order (pos 0) [] (codes "b") (codes "f") one []).2,
            (v_cmp false false f_one f_zeros (each_kind_is_ordered.3 (codes "f") (codes "f") one (value.Int (pos 0)) [] (value.Int (pos 0) ∷ [])), (tt, tt)),
          ),
        ),
      ),
    ),
  ),
)

f_one_text : value_text f_one ≡ codes "f(1)"
f_one_text = each_kind_is_written.3 (codes "f") one [] ∙ (λ i. codes "f" ++ (codes "(" ++ ((text-Int (pos 1) i ++ []) ++ codes ")")))

f_zeros_text : value_text f_zeros ≡ codes "f(0,0)"
f_zeros_text =
    each_kind_is_written.3 (codes "f") (value.Int (pos 0)) (value.Int (pos 0) ∷ [])
    ∙ (λ i. codes "f" ++ (codes "(" ++ (joined (codes ",") (text-Int (pos 0) i ∷ text-Int (pos 0) i ∷ []) ++ codes ")")))

-- the text of v(x), by that of x
abbrev call : List ℕ → List ℕ
call x = codes "v" ++ (codes "(" ++ ((x ++ []) ++ codes ")"))

pub a_line_is_written : ALineIsWritten
a_line_is_written = record {
  sorted = sorted;
  same = record { to = to; back = back };
  in_order = sorted_in_order;
  text = sym (λ i. codes "{" ++ (joined (codes ", ") (
      codes "v" ∷ call (text-Int (negsuc 0) i) ∷ (codes "-" ++ call (text-Int (pos 2) i)) ∷ call (each_kind_is_written.1 (codes "a") i) ∷ call (each_kind_is_written.1 (codes "g") i)
      ∷ call (each_kind_is_written.2 (codes "b") i) ∷ call (f_one_text i) ∷ call (f_zeros_text i) ∷ []) ++ (codes "}" ++ (10 ∷ []))));
}
  where
    to : vs ⊆ sorted
    to x (inl e) = inr (inr (inr (inr (inr (inr (inl e))))))
    to x (inr (inl e)) = inr (inr (inr (inr (inr (inl e)))))
    to x (inr (inr (inl e))) = inr (inr (inr (inl e)))
    to x (inr (inr (inr (inl e)))) = inr (inl e)
    to x (inr (inr (inr (inr (inl e))))) = inr (inr (inr (inr (inr (inr (inr (inl e)))))))
    to x (inr (inr (inr (inr (inr (inl e)))))) = inr (inr (inr (inr (inl e))))
    to x (inr (inr (inr (inr (inr (inr (inl e))))))) = inl e
    to x (inr (inr (inr (inr (inr (inr (inr (inl e)))))))) = inr (inr (inl e))
    to x (inr (inr (inr (inr (inr (inr (inr (inr k)))))))) = absurd k

    back : sorted ⊆ vs
    back x (inl e) = inr (inr (inr (inr (inr (inr (inl e))))))
    back x (inr (inl e)) = inr (inr (inr (inl e)))
    back x (inr (inr (inl e))) = inr (inr (inr (inr (inr (inr (inr (inl e)))))))
    back x (inr (inr (inr (inl e)))) = inr (inr (inl e))
    back x (inr (inr (inr (inr (inl e))))) = inr (inr (inr (inr (inr (inl e)))))
    back x (inr (inr (inr (inr (inr (inl e)))))) = inr (inl e)
    back x (inr (inr (inr (inr (inr (inr (inl e))))))) = inl e
    back x (inr (inr (inr (inr (inr (inr (inr (inl e)))))))) = inr (inr (inr (inr (inl e))))
    back x (inr (inr (inr (inr (inr (inr (inr (inr k)))))))) = absurd k
