-- The line of sorted ids is that of the set.
use Rattle.std.proofs.Common.{◌≡◌, ℕ, ◌++◌, Bool, false, List, [], ◌∷◌, length, map, refl, sym, ap, subst, ◌∙◌, append_assoc, true≢false}
use Rattle.std.specs.Prelude.{codes}
use Rattle.std.specs.declared.cmp.Ordering.{Ordering}
use Rattle.std.specs.declared.cmp.Ordering.TheVariants.{Less, Equal, Greater}
use Rattle.std.specs.Ordering.{is_lt, ordering_reverse}
use Rattle.std.specs.List.Sorted.{IsPermutation}
use Rattle.alpha_outside.specs.declared.node.Node.{Node}
use Rattle.lists.specs.Lists.{◌∈◌, HasNoRepeats, Each, SameSet}
use Rattle.lists.proofs.ListLemmas.{Each-at, Each-from, ∈-map, ∈-map_from}
use Rattle.asp_meaning.specs.Atoms.{Atom}
use Rattle.asp_meaning.specs.Lines.{atom_cmp, atom_text, joined, IsInOrder, IsSetLine, line_of}
use Rattle.term_pool.proofs.PlaceLemmas.{map-map}
use Rattle.term_pool.specs.Nodes.{IsPool}
use Rattle.atom_pool.specs.Pools.{Pool, IsAtomPool}
use Rattle.atom_pool.specs.Meanings.{atom_at, IsUserAtom, IsBeside}
use Rattle.answer_printer.proofs.AtomLemmas.{same_atom}
use Rattle.asp_meaning.proofs.AtomOrder.{atom_cmp_total, atom_same}
use Rattle.answer_printer.proofs.SortLemmas.{Ascends, permuted_members, permuted_once}

-- what is neither above nor equal is below
below : (a b : Atom) → (a ≡ b → ⊥) → is_lt (atom_cmp b a) ≡ false → atom_cmp a b ≡ Less
below a b apart up = go (atom_cmp a b) refl
  where
    go : (o : Ordering) → atom_cmp a b ≡ o → atom_cmp a b ≡ Less
    go Less e = e
    go Equal e = absurd (apart (atom_same a b e))
    go Greater e = absurd (true≢false (ap is_lt (sym (atom_cmp_total.antisymm b a ∙ ap ordering_reverse e)) ∙ up))

-- the braces and the line feed round the atoms
pub in_braces : (terms : List Node) (pool : Pool) (ids open_ inside line : List ℕ) → open_ ≡ codes "{" → inside ≡ open_ ++ joined (codes ", ") (map (λ id. atom_text (atom_at terms pool id)) ids)
    → line ≡ inside ++ codes "}\n" → line ≡ line_of (map (atom_at terms pool) ids)
in_braces terms pool ids open_ inside line s t u =
    u ∙ ap (λ l. l ++ codes "}\n") (t ∙ ap (λ l. l ++ joined (codes ", ") (map (λ id. atom_text (atom_at terms pool id)) ids)) s)
    ∙ append_assoc (codes "{") (joined (codes ", ") (map (λ id. atom_text (atom_at terms pool id)) ids)) (codes "}\n")
    ∙ ap (λ ts. codes "{" ++ (joined (codes ", ") ts ++ codes "}\n")) (sym (map-map atom_text (atom_at terms pool) ids))

module _ (terms : List Node) (pool : Pool) (t : IsPool terms) (p : IsAtomPool pool) (beside : IsBeside pool (length terms)) where
  abbrev AtomBelow : ℕ → ℕ → Bool
  AtomBelow x y = is_lt (atom_cmp (atom_at terms pool x) (atom_at terms pool y))

  in_order : (xs : List ℕ) → Each (IsUserAtom pool) xs → HasNoRepeats xs → Ascends AtomBelow xs → IsInOrder (map (atom_at terms pool) xs)
  in_order [] users once up = tt
  in_order (x ∷ xs) users once up = (
    Each-from (λ b. atom_cmp (atom_at terms pool x) b ≡ Less) (map (atom_at terms pool) xs) (λ b among.
        let found = ∈-map_from (atom_at terms pool) b xs among in
        let y : ℕ = found.0 in
        subst (λ c. atom_cmp (atom_at terms pool x) c ≡ Less) (sym found.2)
        (below (atom_at terms pool x) (atom_at terms pool y)
        (λ e. once.0 (subst (λ z. z ∈ xs) (sym (same_atom terms pool x y t p beside users.0 (Each-at (IsUserAtom pool) xs y users.1 found.1) e)) found.1))
        (Each-at (λ z. AtomBelow z x ≡ false) xs y up.0 found.1))),
    in_order xs users.1 once.1 up.1,
  )

  -- the sorted ids of a set are in the order of its line
  pub sorted_in_order : (xs ys : List ℕ) → Each (IsUserAtom pool) xs → HasNoRepeats xs → IsPermutation xs ys → Ascends AtomBelow ys → IsInOrder (map (atom_at terms pool) ys)
  sorted_in_order xs ys users once moved up =
      in_order ys (Each-from (IsUserAtom pool) ys (λ y among. Each-at (IsUserAtom pool) xs y users ((permuted_members xs ys moved).back y among))) (permuted_once xs ys moved once) up

module _ (terms : List Node) (pool : Pool) where
  mapped_set : (xs ys : List ℕ) → SameSet xs ys → SameSet (map (atom_at terms pool) xs) (map (atom_at terms pool) ys)
  mapped_set xs ys same = record {
    to = λ a among. let found = ∈-map_from (atom_at terms pool) a xs among in
        subst (λ z. z ∈ map (atom_at terms pool) ys) (sym found.2) (∈-map (atom_at terms pool) found.0 ys (same.to found.0 found.1));
    back = λ a among. let found = ∈-map_from (atom_at terms pool) a ys among in
        subst (λ z. z ∈ map (atom_at terms pool) xs) (sym found.2) (∈-map (atom_at terms pool) found.0 xs (same.back found.0 found.1));
  }

  -- the line of the ids of a set in order is that of the set
  pub sorted_line : (xs ys line : List ℕ) → SameSet xs ys → IsInOrder (map (atom_at terms pool) ys) → line ≡ line_of (map (atom_at terms pool) ys) → IsSetLine (map (atom_at terms pool) xs) line
  sorted_line xs ys line same up is = record { sorted = map (atom_at terms pool) ys; same = mapped_set xs ys same; in_order = up; text = is }
