-- The answer sets of a choice with a bound.
use Rattle.std.proofs.Common.{◌≡◌, ◌⊎◌, inl, inr, refl, sym, ap, subst, ◌∙◌, ℕ, pos, List, [], ◌∷◌, length, Option, Some}
use Rattle.lists.specs.Lists.{◌∈◌, AtLeastOne}
use Rattle.lists.proofs.ListLemmas.{Each-from, SameSet-refl}
use Rattle.asp_syntax.specs.declared.tree.CompareOp.TheVariants as op
use Rattle.asp_syntax.specs.declared.tree.Guard.{Guard}
use Rattle.asp_syntax.specs.declared.tree.Statement.{Statement}
use Rattle.asp_syntax.specs.declared.tree.Term.TheVariants as term
use Rattle.asp_meaning.specs.declared.value.Value.TheVariants as value
use Rattle.asp_meaning.specs.Terms.{Variable, Substitution}
use Rattle.asp_meaning.specs.Variables.{global_variables}
use Rattle.asp_meaning.specs.Atoms.{Atom}
use Rattle.asp_meaning.specs.Bodies.{Extends, weight, RightHolds}
use Rattle.asp_meaning.specs.Programs.{IsInstance, LicensesFrom, Licenses, BoundHolds, HeadIsMet, IsAnswerSet}
use Rattle.asp_laws.specs.Examples.{written, atom, one_of}
use Rattle.asp_laws.specs.Laws.{AChoiceOfOneGivesEach}
use Rattle.asp_laws.proofs.Arithmetic.{eval-Int, weight-Int}
use Rattle.asp_laws.proofs.Foundations.{Becomes-one, each_atom_is_licensed}
use Rattle.asp_laws.proofs.Lines.{equal_is_the_same}
use Rattle.asp_laws.proofs.Small.{any, that_one, one_alone_is_consistent}

abbrev is_one : Option Guard
is_one = Some (record { op = op.Equal; term = term.Int (pos 1) })

number_is_one : (s : Substitution) (n : ℕ) → RightHolds s (pos n) is_one → n ≡ 1
number_is_one s n h =
    let one : Some h.0 ≡ Some (value.Int (pos 1)) = sym h.1 ∙ eval-Int s (pos 1) in
    let same : value.Int (pos n) ≡ h.0 = (equal_is_the_same (value.Int (pos n)) h.0).0 h.2 in
    let is : h.0 ≡ value.Int (pos 1) = cc in
    let weights : pos n ≡ pos 1 = sym (weight-Int (pos n) []) ∙ ap (λ v. weight (v ∷ [])) (same ∙ is) ∙ weight-Int (pos 1) [] in
    cc

one_is_one : (s : Substitution) → RightHolds s (pos 1) is_one
one_is_one s = (value.Int (pos 1), eval-Int s (pos 1), (equal_is_the_same (value.Int (pos 1)) (value.Int (pos 1))).1 refl)

only_one : (xs : List Atom) → length xs ≡ 1 → (x : Atom) × (xs ≡ x ∷ [])
only_one [] e = absurd (cc)
only_one (x ∷ []) e = (x, refl)
only_one (x ∷ (y ∷ ys)) e = absurd (cc)

-- what the choice licenses is a or b
one_of_two : (a b : List ℕ) (I : List Atom) (x : Atom) → AtLeastOne (λ r. (s : Substitution) × Licenses r s x I) (one_of a b ∷ []) → (x ≡ atom a) ⊎ (x ≡ atom b)
one_of_two a b I x (inl l) = elim (l.1.head.1) [
  | inl e ↦ inl (Becomes-one l.1.head.0 (written a) x (atom a) e.0.1 (refl, refl, refl))
  | inr k ↦ elim k [ inl e ↦ inr (Becomes-one l.1.head.0 (written b) x (atom b) e.0.1 (refl, refl, refl)) | inr none ↦ absurd none ]
]
one_of_two a b I x (inr k) = absurd k

-- ---- its instances license a and b

instance : (a b : List ℕ) (s : Substitution) → IsInstance (one_of a b) s
instance a b s = ((value.Int (pos 1), eval-Int s (pos 1)), tt)

itself : (globals : List Variable) (s : Substitution) → Extends globals s s
itself globals s = Each-from (λ v. s v ≡ s v) globals (λ v k. refl)

licenses_first : (a b : List ℕ) (s : Substitution) (I earlier : List Atom) → LicensesFrom (one_of a b) s (atom a) I earlier
licenses_first a b s I earlier = record {
  instance = instance a b s;
  body = tt;
  head = (s, inl ((itself (global_variables (one_of a b)) s, (refl, refl, refl), tt), tt));
  rests = tt;
}

licenses_second : (a b : List ℕ) (s : Substitution) (I earlier : List Atom) → LicensesFrom (one_of a b) s (atom b) I earlier
licenses_second a b s I earlier = record {
  instance = instance a b s;
  body = tt;
  head = (s, inr (inl ((itself (global_variables (one_of a b)) s, (refl, refl, refl), tt), tt)));
  rests = tt;
}

-- ---- the two answer sets

one_is_chosen : (a b c : List ℕ) → ((s : Substitution) (I earlier : List Atom) → LicensesFrom (one_of a b) s (atom c) I earlier) → IsAnswerSet (one_of a b ∷ []) (atom c ∷ [])
one_is_chosen a b c licenses = record {
  set = ((λ k. k), tt);
  closed = record {
    met = λ r k s i b. elim k [ inl e ↦ subst (λ (q : Statement). HeadIsMet q s (atom c ∷ []) q.head) (sym e) (tt, bound s) | inr none ↦ absurd none ];
    consistent = one_alone_is_consistent c;
  };
  founded = record {
    order = atom c ∷ [];
    once = ((λ k. k), tt);
    same = SameSet-refl (atom c ∷ []);
    founded = (inl (any, licenses any (atom c ∷ []) []), tt);
  };
}
  where
    bound : (s : Substitution) → BoundHolds (one_of a b) s (atom c ∷ []) (RightHolds s) is_one
    bound s = (
      atom c ∷ [],
      record {
        once = ((λ k. k), tt);
        sound = λ x k. (
          k,
          elim k [
            | inl e ↦ subst (λ y. Licenses (one_of a b) s y (atom c ∷ [])) (sym e) (licenses s (atom c ∷ []) (atom c ∷ []))
            | inr none ↦ absurd none
          ],
        );
        complete = λ x k l. k;
      },
      one_is_one s,
    )

one_licensed : (a b : List ℕ) (I : List Atom) (x : Atom) → (x ≡ atom a) ⊎ (x ≡ atom b) → Licenses (one_of a b) any x I
one_licensed a b I x (inl e) = subst (λ y. Licenses (one_of a b) any y I) (sym e) (licenses_first a b any I I)
one_licensed a b I x (inr e) = subst (λ y. Licenses (one_of a b) any y I) (sym e) (licenses_second a b any I I)

only_member : (x c : Atom) → x ∈ (c ∷ []) → x ≡ c
only_member x c (inl e) = e
only_member x c (inr k) = absurd k

only_those : (a b : List ℕ) (I : List Atom) → IsAnswerSet (one_of a b ∷ []) I → (I ≡ atom a ∷ []) ⊎ (I ≡ atom b ∷ [])
only_those a b I h =
    let bound : BoundHolds (one_of a b) any I (RightHolds any) is_one = (h.closed.met (one_of a b) (inl refl) any (instance a b any) tt).1 in
    let single : (x : Atom) × (bound.0 ≡ x ∷ []) = only_one bound.0 (number_is_one any (length bound.0) bound.2) in
    let inside : single.0 ∈ I = (bound.1.sound single.0 (subst (λ ys. single.0 ∈ ys) (sym single.1) (inl refl))).0 in
    let alone : I ≡ single.0 ∷ [] = that_one single.0 I h.set inside
    (λ x k. only_member x single.0 (subst (λ ys. x ∈ ys) single.1 (bound.1.complete x k (one_licensed a b I x (one x k))))) in
    elim (one single.0 inside) [ inl f ↦ inl (alone ∙ ap (λ x. x ∷ []) f) | inr f ↦ inr (alone ∙ ap (λ x. x ∷ []) f) ]
  where
    one : (x : Atom) → x ∈ I → (x ≡ atom a) ⊎ (x ≡ atom b)
    one x k = one_of_two a b I x (each_atom_is_licensed (one_of a b ∷ []) I h x k)

pub a_choice_of_one : AChoiceOfOneGivesEach
a_choice_of_one a b I = (
  only_those a b I,
  λ e. elim e [
    | inl p ↦ subst (IsAnswerSet (one_of a b ∷ [])) (sym p) (one_is_chosen a b a (licenses_first a b))
    | inr q ↦ subst (IsAnswerSet (one_of a b ∷ [])) (sym q) (one_is_chosen a b b (licenses_second a b))
  ],
)
