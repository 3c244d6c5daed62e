-- Comparisons of values, and the line of a set.
use Rattle.std.proofs.Common.{◌≡◌, ◌⊎◌, inl, inr, refl, sym, ap, subst, ◌∙◌, true, not, List, [], ◌∷◌}
use Rattle.std.specs.declared.cmp.Ordering.{Ordering}
use Rattle.std.specs.declared.cmp.Ordering.TheVariants.{Less, Equal, Greater}
use Rattle.std.specs.Ordering.{ordering_reverse}
use Rattle.std.specs.Cmp.{tied_itself}
use Rattle.lists.specs.Lists.{◌∈◌, ◌⊆◌, Each}
use Rattle.lists.proofs.ListLemmas.{Each-at, Each-from}
use Rattle.asp_syntax.specs.declared.tree.CompareOp.TheVariants as op
use Rattle.asp_meaning.specs.Orders.{value_cmp, passes}
use Rattle.asp_meaning.specs.Atoms.{Atom}
use Rattle.asp_meaning.specs.Lines.{atom_cmp, IsInOrder, line_of}
use Rattle.asp_laws.specs.Laws.{EqualIsTheSame, ComparisonsAreOpposites, ASetHasALine, ASetHasOneLine}
use Rattle.asp_meaning.proofs.ValueOrder.{greater_less, equal_less, value_same, value_itself}
use Rattle.asp_meaning.proofs.AtomOrder.{atom_cmp_total, atom_same}

-- ---- comparisons

pub equal_is_the_same : EqualIsTheSame
equal_is_the_same x y = (λ e. value_same x y (level (value_cmp x y) e), λ e. ap (passes op.Equal) (ap (value_cmp x) (sym e) ∙ value_itself x))
  where
    level : (o : Ordering) → passes op.Equal o ≡ true → o ≡ Equal
    level Less e = cc
    level Equal e = refl
    level Greater e = cc

pub comparisons_are_opposites : ComparisonsAreOpposites
comparisons_are_opposites x y = go (value_cmp x y)
  where
    go : (o : Ordering) → (passes op.NotEqual o ≡ not (passes op.Equal o)) × (passes op.LessEqual o ≡ not (passes op.Greater o)) × (passes op.GreaterEqual o ≡ not (passes op.Less o))
    go Less = (refl, refl, refl)
    go Equal = (refl, refl, refl)
    go Greater = (refl, refl, refl)

-- ---- one line

-- no atom is below one that is below it
not_both_below : (a b : Atom) → atom_cmp a b ≡ Less → atom_cmp b a ≡ Less → ⊥
not_both_below a b e f = greater_less (sym (ap ordering_reverse f) ∙ sym (atom_cmp_total.antisymm a b) ∙ e)

sorted_once : (es bs : List Atom) → IsInOrder es → IsInOrder bs → es ⊆ bs → bs ⊆ es → es ≡ bs
sorted_once [] [] p q to back = refl
sorted_once [] (b ∷ bs) p q to back = absurd (back b (inl refl))
sorted_once (a ∷ es) [] p q to back = absurd (to a (inl refl))
sorted_once (a ∷ es) (b ∷ bs) p q to back =
    let first : a ≡ b = heads (to a (inl refl)) (back b (inl refl)) in
    let rest : es ≡ bs = sorted_once es bs p.1 q.1 (λ x k. later a es bs p.0 x k first (to x (inr k))) (λ x k. later b bs es q.0 x k (sym first) (back x (inr k))) in
    λ i. first i ∷ rest i
  where
    heads : a ∈ (b ∷ bs) → b ∈ (a ∷ es) → a ≡ b
    heads (inl e) k = e
    heads (inr j) (inl e) = sym e
    heads (inr j) (inr k) = absurd (not_both_below a b (Each-at (λ x. atom_cmp a x ≡ Less) es b p.0 k) (Each-at (λ x. atom_cmp b x ≡ Less) bs a q.0 j))

    later : (c : Atom) (cs ds : List Atom) → Each (λ x. atom_cmp c x ≡ Less) cs → (x : Atom) → x ∈ cs → {d : Atom} → c ≡ d → x ∈ (d ∷ ds) → x ∈ ds
    later c cs ds below x k same (inr j) = j
    later c cs ds below x k same (inl e) =
        let less : atom_cmp c x ≡ Less = Each-at (λ y. atom_cmp c y ≡ Less) cs x below k in
        equal_less (sym (tied_itself atom_cmp_total c) ∙ ap (atom_cmp c) (same ∙ sym e) ∙ less)

-- and only one
pub a_set_has_one_line : ASetHasOneLine
a_set_has_one_line I x y h k =
    let sorted : h.sorted ≡ k.sorted =
    sorted_once h.sorted k.sorted h.in_order k.in_order (λ a i. k.same.to a (h.same.back a i)) (λ a i. h.same.to a (k.same.back a i)) in
    h.text ∙ ap line_of sorted ∙ sym k.text

-- ---- a line

-- one atom at its place before, at or behind another
abbrev placed : Ordering → Atom → Atom → List Atom → List Atom → List Atom
placed Less a b bs further = a ∷ b ∷ bs
placed Equal a b bs further = b ∷ bs
placed Greater a b bs further = b ∷ further

abbrev place : Atom → List Atom → List Atom
place a [] = a ∷ []
place a (b ∷ bs) = placed (atom_cmp a b) a b bs (place a bs)

abbrev sort : List Atom → List Atom
sort [] = []
sort (a ∷ es) = place a (sort es)

place_from : (a : Atom) (bs : List Atom) (x : Atom) → x ∈ place a bs → (x ≡ a) ⊎ (x ∈ bs)
place_from a [] x k = k
place_from a (b ∷ bs) x k = go (place_from a bs x) (atom_cmp a b) k
  where
    go : (x ∈ place a bs → (x ≡ a) ⊎ (x ∈ bs)) → (o : Ordering) → x ∈ placed o a b bs (place a bs) → (x ≡ a) ⊎ (x ∈ (b ∷ bs))
    go rest Less j = j
    go rest Equal j = inr j
    go rest Greater (inl e) = inr (inl e)
    go rest Greater (inr j) = elim (rest j) [ inl e ↦ inl e | inr i ↦ inr (inr i) ]

place_new : (a : Atom) (bs : List Atom) → a ∈ place a bs
place_new a [] = inl refl
place_new a (b ∷ bs) = go (place_new a bs) (atom_cmp a b) refl
  where
    go : a ∈ place a bs → (o : Ordering) → atom_cmp a b ≡ o → a ∈ placed o a b bs (place a bs)
    go rest Less e = inl refl
    go rest Equal e = inl (atom_same a b e)
    go rest Greater e = inr rest

place_old : (a : Atom) (bs : List Atom) (x : Atom) → x ∈ bs → x ∈ place a bs
place_old a [] x k = absurd k
place_old a (b ∷ bs) x k = go (place_old a bs x) (atom_cmp a b) k
  where
    go : (x ∈ bs → x ∈ place a bs) → (o : Ordering) → x ∈ (b ∷ bs) → x ∈ placed o a b bs (place a bs)
    go rest Less j = inr j
    go rest Equal j = j
    go rest Greater (inl e) = inl e
    go rest Greater (inr j) = inr (rest j)

place_in_order : (a : Atom) (bs : List Atom) → IsInOrder bs → IsInOrder (place a bs)
place_in_order a [] h = (tt, tt)
place_in_order a (b ∷ bs) h = go (place_in_order a bs h.1) (atom_cmp a b) refl
  where
    go : IsInOrder (place a bs) → (o : Ordering) → atom_cmp a b ≡ o → IsInOrder (placed o a b bs (place a bs))
    go rest Less e = ((e, Each-from (λ x. atom_cmp a x ≡ Less) bs (λ x k. atom_cmp_total.trans a b x e (Each-at (λ y. atom_cmp b y ≡ Less) bs x h.0 k))), h)
    go rest Equal e = h
    go rest Greater e = (
      Each-from (λ x. atom_cmp b x ≡ Less) (place a bs) (λ x k. elim (place_from a bs x k) [
        | inl same ↦ ap (atom_cmp b) same ∙ atom_cmp_total.antisymm b a ∙ ap ordering_reverse e
        | inr old ↦ Each-at (λ y. atom_cmp b y ≡ Less) bs x h.0 old
      ]),
      rest,
    )

sort_in_order : (es : List Atom) → IsInOrder (sort es)
sort_in_order [] = tt
sort_in_order (a ∷ es) = place_in_order a (sort es) (sort_in_order es)

sort_to : (es : List Atom) → es ⊆ sort es
sort_to [] x k = absurd k
sort_to (a ∷ es) x (inl e) = subst (λ y. y ∈ place a (sort es)) (sym e) (place_new a (sort es))
sort_to (a ∷ es) x (inr k) = place_old a (sort es) x (sort_to es x k)

sort_back : (es : List Atom) → sort es ⊆ es
sort_back [] x k = absurd k
sort_back (a ∷ es) x k = elim (place_from a (sort es) x k) [ inl e ↦ inl e | inr j ↦ inr (sort_back es x j) ]

-- each set has a line
pub a_set_has_a_line : ASetHasALine
a_set_has_a_line I = (
  line_of (sort I),
  record { sorted = sort I; same = record { to = sort_to I; back = sort_back I }; in_order = sort_in_order I; text = refl },
)
