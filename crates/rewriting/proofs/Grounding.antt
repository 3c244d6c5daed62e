-- Atoms with variables beside the core atoms that they become.
use Rattle.std.proofs.Common.{◌≡◌, inl, inr, refl, sym, ap, subst, ◌∙◌, ℕ, Bool, List, [], ◌∷◌, map, Option, Some, None}
use Rattle.alpha_outside.specs.declared.pred.Pred.TheVariants as pred
use Rattle.lists.specs.Lists.{◌∈◌, Each}
use Rattle.lists.proofs.ListLemmas.{Each-from}
use Rattle.asp_syntax.specs.declared.tree.Atom as syntax
use Rattle.asp_meaning.specs.declared.value.Value.{Value}
use Rattle.asp_meaning.specs.Terms.{Substitution, before, all_of, eval_all}
use Rattle.asp_meaning.specs.Atoms.{Atom, Becomes}
use Rattle.asp_meaning.specs.Programs.{HasValue}
use Rattle.core_meaning.specs.Atoms.{GroundAtom, User, with_arguments}
use Rattle.rewriting.proofs.Extending.{values-at, values-from}

-- ---- one atom

-- the core atom with these arguments
abbrev pub made : Bool → List ℕ → Option (List Value) → Option GroundAtom
made negated name None = None
made negated name (Some args) = Some (User (record { negated = negated; name = name; args = args }))

-- the core atom that an atom becomes
abbrev pub atom_of : Substitution → syntax.Atom → Option GroundAtom
atom_of s p = made p.negated p.name (eval_all s p.args)

-- the atom becomes one of which Q holds
abbrev pub Has : Substitution → (Atom → Type 0) → syntax.Atom → Type 0
Has s Q p = (a : Atom) × Becomes s p a × Q a

-- that of a core atom with the predicate of an atom
pub with_arguments-made : (negated : Bool) (name : List ℕ) (arity : ℕ) (o : Option (List Value)) → with_arguments [] (pred.User negated name arity) o ≡ made negated name o
with_arguments-made negated name arity None = refl
with_arguments-made negated name arity (Some args) = refl

-- what an atom becomes is its core atom
pub atom_of-made : (s : Substitution) (p : syntax.Atom) (a : Atom) → Becomes s p a → atom_of s p ≡ Some (User a)
atom_of-made s p a becomes =
    let signs = sym becomes.0 in
    let names = sym becomes.1 in
    ap (made p.negated p.name) becomes.2 ∙ (λ i. Some (User (record { negated = signs i; name = names i; args = a.args })))

-- two that are there and the same are the same
some_same : (g h : GroundAtom) → Some g ≡ Some h → g ≡ h
some_same g h e = cc

-- and its core atom is one that it becomes
pub atom_of-read : (s : Substitution) (p : syntax.Atom) (g : GroundAtom) → atom_of s p ≡ Some g → (a : Atom) × Becomes s p a × (g ≡ User a)
atom_of-read s p g e = by_case (eval_all s p.args) refl e
  where
    by_case : (o : Option (List Value)) → eval_all s p.args ≡ o → made p.negated p.name o ≡ Some g → (a : Atom) × Becomes s p a × (g ≡ User a)
    by_case None is e = cc
    by_case (Some xs) is e =
        let a : Atom = record { negated = p.negated; name = p.name; args = xs } in
        (a, (refl, refl, is), sym (some_same (User a) g e))

-- the terms of an atom that becomes one have values
pub terms-have : (s : Substitution) (p : syntax.Atom) (a : Atom) → Becomes s p a → Each (HasValue s) p.args
terms-have s p a becomes = Each-from (HasValue s) p.args (values-at s p.args a.args becomes.2)

-- and an atom whose terms have values becomes one
pub becomes-some : (s : Substitution) (p : syntax.Atom) → Each (HasValue s) p.args → (a : Atom) × Becomes s p a
becomes-some s p h = let xs = values-from s p.args h in (record { negated = p.negated; name = p.name; args = xs.0 }, (refl, refl, xs.1))

-- ---- lists of atoms

-- where none of a list is missing, the first is there and none of the rest is missing
all_of-cons : (o : Option GroundAtom) (os : List (Option GroundAtom)) (gs : List GroundAtom) → all_of (o ∷ os) ≡ Some gs
    → (x : GroundAtom) × (xs : List GroundAtom) × (o ≡ Some x) × (all_of os ≡ Some xs) × (gs ≡ x ∷ xs)
all_of-cons None os gs e = cc
all_of-cons (Some x) os gs e = by_case (all_of os) refl e
  where
    by_case : (o : Option (List GroundAtom)) → all_of os ≡ o → before x o ≡ Some gs
        → (y : GroundAtom) × (ys : List GroundAtom) × (Some x ≡ Some y) × (all_of os ≡ Some ys) × (gs ≡ y ∷ ys)
    by_case None is e = cc
    by_case (Some xs) is e = (x, xs, refl, is, cc)

-- of an empty list there is nothing
no_others : (gs : List GroundAtom) → all_of [] ≡ Some gs → gs ≡ []
no_others gs e = cc

-- where all atoms become these, of which Q holds, each becomes one of which Q holds
pub atoms_from : (s : Substitution) (Q : Atom → Type 0) (ps : List syntax.Atom) (gs : List GroundAtom) → all_of (map (atom_of s) ps) ≡ Some gs → ((a : Atom) → User a ∈ gs → Q a)
    → Each (Has s Q) ps
atoms_from s Q [] gs e h = tt
atoms_from s Q (p ∷ ps) gs e h =
    let parts = all_of-cons (atom_of s p) (map (atom_of s) ps) gs e in
    let read = atom_of-read s p parts.0 parts.2 in (
      (read.0, read.1, h read.0 (subst (λ xs. User read.0 ∈ xs) (sym parts.4) (inl (sym read.2)))),
      atoms_from s Q ps parts.1 parts.3 (λ a i. h a (subst (λ xs. User a ∈ xs) (sym parts.4) (inr i))),
    )

-- and the other way round
pub atoms_to : (s : Substitution) (Q : Atom → Type 0) (ps : List syntax.Atom) (gs : List GroundAtom) → all_of (map (atom_of s) ps) ≡ Some gs → Each (Has s Q) ps
    → (g : GroundAtom) → g ∈ gs → (a : Atom) × (g ≡ User a) × Q a
atoms_to s Q [] gs e h g among = absurd (subst (λ xs. g ∈ xs) (no_others gs e) among)
atoms_to s Q (p ∷ ps) gs e h g among =
    let parts = all_of-cons (atom_of s p) (map (atom_of s) ps) gs e in
    let same : parts.0 ≡ User h.0.0 = some_same parts.0 (User h.0.0) (sym parts.2 ∙ atom_of-made s p h.0.0 h.0.1) in
    elim (subst (λ xs. g ∈ xs) parts.4 among) [
      | inl first ↦ (h.0.0, first ∙ same, h.0.2)
      | inr more ↦ atoms_to s Q ps parts.1 parts.3 h.1 g more
    ]

-- where each becomes one, all do
pub atoms_exist : (s : Substitution) (Q : Atom → Type 0) (ps : List syntax.Atom) → Each (Has s Q) ps → (gs : List GroundAtom) × (all_of (map (atom_of s) ps) ≡ Some gs)
atoms_exist s Q [] h = ([], refl)
atoms_exist s Q (p ∷ ps) h =
    let first = atom_of-made s p h.0.0 h.0.1 in
    let rest = atoms_exist s Q ps h.1 in
    (User h.0.0 ∷ rest.0, (λ i. all_of (first i ∷ map (atom_of s) ps)) ∙ ap (before (User h.0.0)) rest.1)
