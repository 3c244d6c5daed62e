-- The order of atoms in a line: it is total, and atoms that compare as equal are equal.
use Rattle.std.proofs.Common.{◌≡◌, ◌⊎◌, inl, inr, refl, sym, ap, ◌∙◌, ℕ, Bool, true, false, List, [], ◌∷◌, length}
use Rattle.std.specs.declared.cmp.Ordering.{Ordering}
use Rattle.std.specs.declared.cmp.Ordering.TheVariants.{Less, Equal, Greater}
use Rattle.std.specs.Ordering.{nat_cmp, ordering_then, ordering_reverse}
use Rattle.std.specs.Cmp.{IsTotalOrder, then_total, on_total, tied_itself}
use Rattle.std.specs.Cmp.Lexicographic.{lists_total}
use Rattle.std.proofs.lemmas.Cmp.{nat_cmp_total, nat_list_cmp_total}
use Rattle.asp_meaning.specs.declared.value.Value.{Value}
use Rattle.asp_meaning.specs.Orders.{bytes_cmp, value_cmp, values_cmp}
use Rattle.asp_meaning.specs.Atoms.{Atom}
use Rattle.asp_meaning.specs.Lines.{sign_cmp, atom_cmp}
use Rattle.asp_meaning.proofs.ValueOrder.{less_equal, greater_equal, greater_less, equal_less, then_first, then_second, bytes_same, value_same, value_cmp_total}

-- signs turned round
sign_turns : (p q : Bool) → sign_cmp p q ≡ ordering_reverse (sign_cmp q p)
sign_turns false false = refl
sign_turns false true = refl
sign_turns true false = refl
sign_turns true true = refl

-- signs that compare as equal are equal
sign_same : (p q : Bool) → sign_cmp p q ≡ Equal → p ≡ q
sign_same false false e = refl
sign_same false true e = less_equal e
sign_same true false e = greater_equal e
sign_same true true e = refl

-- a sign below one that is below a third
sign_passes : (p q r : Bool) → sign_cmp p q ≡ Less → sign_cmp q r ≡ Less → sign_cmp p r ≡ Less
sign_passes false false r e f = equal_less e
sign_passes false true false e f = greater_less f
sign_passes false true true e f = equal_less f
sign_passes true false r e f = greater_less e
sign_passes true true r e f = equal_less e

-- the order of signs is total
sign_total : IsTotalOrder sign_cmp
sign_total = record { antisymm = sign_turns; trans = sign_passes; congr = λ p q r e. ap (λ k. sign_cmp k r) (sign_same p q e) }

-- the order of atoms is total
pub atom_cmp_total : IsTotalOrder atom_cmp
atom_cmp_total =
    then_total (on_total (λ (a : Atom). a.name) nat_list_cmp_total)
    (then_total (on_total (λ (a : Atom). length a.args) nat_cmp_total)
    (then_total (on_total (λ (a : Atom). a.args) (lists_total value_cmp_total)) (on_total (λ (a : Atom). a.negated) sign_total)))

-- lists of values that compare as equal are equal
pub values_same : (xs ys : List Value) → values_cmp xs ys ≡ Equal → xs ≡ ys
values_same [] [] e = refl
values_same [] (y ∷ ys) e = less_equal e
values_same (x ∷ xs) [] e = greater_equal e
values_same (x ∷ xs) (y ∷ ys) e =
    let first : x ≡ y = value_same x y (then_first (value_cmp x y) (values_cmp xs ys) e) in
    let rest : xs ≡ ys = values_same xs ys (then_second (value_cmp x y) (values_cmp xs ys) e) in
    λ i. first i ∷ rest i

-- atoms with the same parts are the same
pub atom_from_parts : (a b : Atom) → a.negated ≡ b.negated → a.name ≡ b.name → a.args ≡ b.args → a ≡ b
atom_from_parts a b p q r =
    let of : Bool → List ℕ → List Value → Atom = λ n x vs. record { negated = n; name = x; args = vs } in λ i. of (p i) (q i) (r i)

-- atoms that compare as equal are equal
pub atom_same : (a b : Atom) → atom_cmp a b ≡ Equal → a ≡ b
atom_same a b e =
    let signs : Ordering = sign_cmp a.negated b.negated in
    let by_args : Ordering = ordering_then (values_cmp a.args b.args) signs in
    let by_count : Ordering = ordering_then (nat_cmp (length a.args) (length b.args)) by_args in
    let counted : by_count ≡ Equal = then_second (bytes_cmp a.name b.name) by_count e in
    let compared : by_args ≡ Equal = then_second (nat_cmp (length a.args) (length b.args)) by_args counted in
    atom_from_parts a b (sign_same a.negated b.negated (then_second (values_cmp a.args b.args) signs compared))
    (bytes_same a.name b.name (then_first (bytes_cmp a.name b.name) by_count e)) (values_same a.args b.args (then_first (values_cmp a.args b.args) signs compared))

-- two atoms are the same or not
pub same_atom : (a b : Atom) → (a ≡ b) ⊎ (¬ (a ≡ b))
same_atom a b = go (atom_cmp a b) refl
  where
    go : (o : Ordering) → atom_cmp a b ≡ o → (a ≡ b) ⊎ (¬ (a ≡ b))
    go Less e = inr (λ same. less_equal (sym e ∙ ap (atom_cmp a) (sym same) ∙ tied_itself atom_cmp_total a))
    go Equal e = inl (atom_same a b e)
    go Greater e = inr (λ same. greater_equal (sym e ∙ ap (atom_cmp a) (sym same) ∙ tied_itself atom_cmp_total a))
