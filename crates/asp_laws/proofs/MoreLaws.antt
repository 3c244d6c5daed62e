-- Choices that rest on one another, two guards under `not`, and local variables of the same name.
use Rattle.std.proofs.Common.{◌≡◌, inl, inr, refl, sym, ap, subst, ℕ, pos, List, [], ◌∷◌, codes}
use Rattle.lists.specs.Lists.{◌∈◌, AtLeastOne}
use Rattle.lists.proofs.ListLemmas.{Each-at, SameSet-refl, none-member}
use Rattle.asp_syntax.specs.declared.tree.Statement.{Statement}
use Rattle.asp_syntax.specs.declared.tree.Term.TheVariants as term
use Rattle.asp_meaning.specs.declared.value.Value.{Value}
use Rattle.asp_meaning.specs.Terms.{Substitution, all_of}
use Rattle.asp_meaning.specs.Atoms.{Atom}
use Rattle.asp_meaning.specs.Bodies.{Gives, GuardsHold}
use Rattle.asp_meaning.specs.Programs.{HeadIsMet, LicensesFrom, Licenses, IsAnswerSet}
use Rattle.asp_laws.specs.Words.{IsUnfounded}
use Rattle.asp_laws.specs.Examples.{written, atom, may_be_where, of_variable, value_of, tuple_of}
use Rattle.asp_laws.specs.Laws.{ChoicesThatRestOnOneAnother, TwoGuardsUnderNot, EqualLocalNamesAreTwoVariables}
use Rattle.asp_laws.proofs.Foundations.{Becomes-one, each_atom_is_licensed, unfounded_sets_are_out}
use Rattle.asp_laws.proofs.Arithmetic.{eval-Int}
use Rattle.asp_laws.proofs.Weights.{eval_one}
use Rattle.asp_laws.proofs.Extents.{one_total}

-- ---- choices that rest on one another

-- the two choices
abbrev loop : List ℕ → List ℕ → List Statement
loop a b = may_be_where a b ∷ may_be_where b a ∷ []

-- a choice of x where y gives x alone, and rests on y
given : (x y : List ℕ) (s : Substitution) (c : Atom) (I earlier : List Atom) → LicensesFrom (may_be_where x y) s c I earlier
    → (c ≡ atom x) × (atom y ∈ earlier)
given x y s c I earlier l = elim l.head.1 [
  | inl e ↦ (
    Becomes-one l.head.0 (written x) c (atom x) e.0.1 (refl, refl, refl),
    subst (λ z. z ∈ earlier) (Becomes-one l.head.0 (written y) e.1.0.0 (atom y) e.1.0.1 (refl, refl, refl)) e.1.0.2,
  )
  | inr none ↦ absurd none
]

-- so what one of them gives rests on what the other gives
unfounded : (a b : List ℕ) (I : List Atom) → IsUnfounded (loop a b) I (atom a ∷ atom b ∷ [])
unfounded a b I r k s c among earlier l none = elim k [
  | inl e ↦ Each-at (λ x. ¬ (x ∈ (atom a ∷ atom b ∷ []))) earlier (atom b) none
      (given a b s c I earlier (subst (λ (q : Statement). LicensesFrom q s c I earlier) e l)).1 (inr (inl refl))
  | inr more ↦ elim more [
    | inl e ↦ Each-at (λ x. ¬ (x ∈ (atom a ∷ atom b ∷ []))) earlier (atom a) none
        (given b a s c I earlier (subst (λ (q : Statement). LicensesFrom q s c I earlier) e l)).1 (inl refl)
    | inr nothing ↦ nothing
  ]
]

-- each atom is one of the two
one_of_both : (a b : List ℕ) (I : List Atom) (x : Atom) → AtLeastOne (λ r. (s : Substitution) × Licenses r s x I) (loop a b)
    → x ∈ (atom a ∷ atom b ∷ [])
one_of_both a b I x (inl l) = inl (given a b l.0 x I I l.1).0
one_of_both a b I x (inr (inl l)) = inr (inl (given b a l.0 x I I l.1).0)
one_of_both a b I x (inr (inr none)) = absurd none

-- the empty set is an answer set
empty : (a b : List ℕ) → IsAnswerSet (loop a b) []
empty a b = record {
  set = tt;
  closed = record {
    met = λ r k s i h. elim k [
      | inl e ↦ subst (λ (q : Statement). HeadIsMet q s [] q.head) (sym e) (tt, tt)
      | inr more ↦ elim more [ inl e ↦ subst (λ (q : Statement). HeadIsMet q s [] q.head) (sym e) (tt, tt) | inr none ↦ absurd none ]
    ];
    consistent = λ x k. absurd k;
  };
  founded = record { order = []; once = tt; same = SameSet-refl []; founded = tt };
}

pub choices_in_a_loop : ChoicesThatRestOnOneAnother
choices_in_a_loop a b I = (
  λ h. none-member I (λ x among.
      unfounded_sets_are_out (loop a b) I (atom a ∷ atom b ∷ []) (unfounded a b I) h x (one_of_both a b I x (each_atom_is_licensed (loop a b) I h x among)) among),
  λ e. subst (IsAnswerSet (loop a b)) (sym e) (empty a b),
)

-- ---- two guards under `not`

pub two_guards_under_not : TwoGuardsUnderNot
two_guards_under_not globals s I g tuples extent = (
  λ h both. h.2 (subst (λ n. GuardsHold s n g) (one_total globals s I g tuples h.0 extent h.1 g.kind) both),
  λ apart. (tuples, extent, apart),
)

-- ---- local variables of the same name

-- an element with X in its condition gives its tuple for each value of X
gives : (s : Substitution) (I : List Atom) (n : ℕ) (p : List ℕ) (x : Value) → value_of p x ∈ I
    → Gives [] s I (tuple_of n) (record { terms = term.Int (pos n) ∷ []; condition = of_variable p ∷ [] })
gives s I n p x among = (
  (λ v. x),
  tt,
  ap (λ o. all_of (o ∷ [])) (eval-Int (λ v. x) (pos n)),
  ((value_of p x, (refl, refl, eval_one (λ v. x) (codes "X")), among), tt),
)

pub equal_local_names : EqualLocalNamesAreTwoVariables
equal_local_names s I p q x y tuples extent first second = (
  extent.all_given (tuple_of 1) (inl (gives s I 1 p x first)),
  extent.all_given (tuple_of 2) (inr (inl (gives s I 2 q y second))),
)
