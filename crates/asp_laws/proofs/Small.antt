-- The answer sets of small programs.
use Rattle.std.proofs.Common.{◌≡◌, ◌⊎◌, inl, inr, refl, sym, ap, subst, ◌∙◌, ℕ, pos, true, false, not, List, [], ◌∷◌}
use Rattle.lists.specs.Lists.{◌∈◌, HasNoRepeats, Each, AtLeastOne}
use Rattle.lists.proofs.ListLemmas.{Each-at, AtLeastOne-from, SameSet-refl, none-member}
use Rattle.asp_syntax.specs.declared.tree.Literal.TheVariants as literal
use Rattle.asp_syntax.specs.declared.tree.Statement.{Statement}
use Rattle.asp_meaning.specs.declared.value.Value.TheVariants as value
use Rattle.asp_meaning.specs.Terms.{Substitution}
use Rattle.asp_meaning.specs.Atoms.{Atom, strong_negation}
use Rattle.asp_meaning.specs.Bodies.{LiteralHolds}
use Rattle.asp_meaning.specs.Programs.{BodyHolds, LicensesFrom, Licenses, HeadIsMet, IsAnswerSet}
use Rattle.asp_laws.specs.Words.{HasAtomIn}
use Rattle.asp_laws.specs.Examples.{written, atom, rule, rule_without, must_be, may_be, denied}
use Rattle.asp_laws.specs.Laws.{ALoopHasTheEmptySet, MustBeTrueAloneIsNoSupport, MustBeTrueInALoopIsNoSupport, TheEmptyProgramHasTheEmptySet, AChoiceGivesBoth, NoAtomFollowsFromItsAbsence, TwoRulesWithoutEachOther, StrongNegationContradicts}
use Rattle.asp_laws.proofs.Stable.{in_or_out}
use Rattle.asp_laws.proofs.Foundations.{Becomes-one, each_atom_is_licensed, self_support_is_no_foundation}

pub any : Substitution
any v = value.Int (pos 0)

-- the body holds in no empty set
abbrev NeedsOne : Statement → Type 0
NeedsOne r = (s : Substitution) → BodyHolds r s [] → ⊥

empty_answer_set : (P : List Statement) → Each NeedsOne P → IsAnswerSet P []
empty_answer_set P needs = record {
  set = tt;
  closed = record { met = λ r k s i b. absurd (Each-at NeedsOne P r needs k s b); consistent = λ a k. absurd k };
  founded = record { order = []; once = tt; same = SameSet-refl []; founded = tt };
}

-- ---- the empty program

pub the_empty_program : TheEmptyProgramHasTheEmptySet
the_empty_program I = (
  λ h. none-member I (λ a among. each_atom_is_licensed [] I h a among),
  λ e. subst (IsAnswerSet []) (sym e) (empty_answer_set [] tt),
)

-- ---- loops

-- the rules of a loop, and statements that license nothing in the set
abbrev OfLoop : List ℕ → List ℕ → List Atom → Statement → Type 0
OfLoop a b I r = (r ≡ rule a b) ⊎ (r ≡ rule b a) ⊎ ((s : Substitution) (x : Atom) → ¬ Licenses r s x I)

loop_is_out : (P : List Statement) (a b : List ℕ) (I : List Atom) → Each (OfLoop a b I) P → IsAnswerSet P I → (x : Atom) → x ∈ (atom a ∷ atom b ∷ []) → ¬ (x ∈ I)
loop_is_out P a b I known = self_support_is_no_foundation P I (atom a ∷ atom b ∷ []) (λ r k s x u l. go r s x (Each-at (OfLoop a b I) P r known k) l)
  where
    go : (r : Statement) (s : Substitution) (x : Atom) → OfLoop a b I r → Licenses r s x I → AtLeastOne (HasAtomIn s (atom a ∷ atom b ∷ [])) r.body
    go r s x (inl e) l = subst (λ (q : Statement). AtLeastOne (HasAtomIn s (atom a ∷ atom b ∷ [])) q.body) (sym e) (inl (atom b, (refl, refl, refl), inr (inl refl)))
    go r s x (inr (inl e)) l = subst (λ (q : Statement). AtLeastOne (HasAtomIn s (atom a ∷ atom b ∷ [])) q.body) (sym e) (inl (atom a, (refl, refl, refl), inl refl))
    go r s x (inr (inr none)) l = absurd (none s x l)

constraint_licenses_nothing : (a : List ℕ) (I : List Atom) (s : Substitution) (x : Atom) → ¬ Licenses (must_be a) s x I
constraint_licenses_nothing a I s x l = l.head

pub a_loop_has_the_empty_set : ALoopHasTheEmptySet
a_loop_has_the_empty_set a b I = (
  λ h. none-member I (λ x among. out h x among (each_atom_is_licensed _ I h x among)),
  λ e. subst (IsAnswerSet (rule a b ∷ rule b a ∷ [])) (sym e) (empty_answer_set _ ((λ s h. h.0.2), ((λ s h. h.0.2), tt))),
)
  where
    out : IsAnswerSet (rule a b ∷ rule b a ∷ []) I → (x : Atom) → x ∈ I → AtLeastOne (λ r. (s : Substitution) × Licenses r s x I) (rule a b ∷ rule b a ∷ []) → ⊥
    out h x among (inl l) =
        loop_is_out _ a b I (inl refl, (inr (inl refl), tt)) h x (inl (Becomes-one l.0 (written a) x (atom a) l.1.head (refl, refl, refl))) among
    out h x among (inr (inl l)) =
        loop_is_out _ a b I (inl refl, (inr (inl refl), tt)) h x (inr (inl (Becomes-one l.0 (written b) x (atom b) l.1.head (refl, refl, refl)))) among
    out h x among (inr (inr none)) = none

-- ---- what must be true

-- a program with `:- not a.` has no answer set without a
must_be_in : (P : List Statement) (a : List ℕ) (I : List Atom) → must_be a ∈ P → IsAnswerSet P I → ¬ ¬ (atom a ∈ I)
must_be_in P a I k h out = h.closed.met (must_be a) k any tt ((atom a, (refl, refl, refl), out), tt)

pub must_be_true_alone : MustBeTrueAloneIsNoSupport
must_be_true_alone a I h = must_be_in (must_be a ∷ []) a I (inl refl) h (λ among. none (each_atom_is_licensed _ I h (atom a) among))
  where
    none : ¬ AtLeastOne (λ r. (s : Substitution) × Licenses r s (atom a) I) (must_be a ∷ [])
    none (inl l) = constraint_licenses_nothing a I l.0 (atom a) l.1
    none (inr k) = k

pub must_be_true_in_a_loop : MustBeTrueInALoopIsNoSupport
must_be_true_in_a_loop a b I h =
    must_be_in _ a I (inr (inr (inl refl))) h
    (loop_is_out _ a b I (inl refl, (inr (inl refl), (inr (inr (constraint_licenses_nothing a I)), tt))) h (atom a) (inl refl))

-- ---- choice, and `not`

-- what `{a}.` licenses is a
chosen_is : (a : List ℕ) (I : List Atom) (x : Atom) → AtLeastOne (λ r. (s : Substitution) × Licenses r s x I) (may_be a ∷ []) → x ≡ atom a
chosen_is a I x (inl l) = elim (l.1.head.1) [ inl e ↦ Becomes-one l.1.head.0 (written a) x (atom a) e.0.1 (refl, refl, refl) | inr k ↦ absurd k ]
chosen_is a I x (inr k) = absurd k

-- a set whose atoms are all one
pub one_or_none : (x : Atom) (I : List Atom) → HasNoRepeats I → ((y : Atom) → y ∈ I → y ≡ x) → (I ≡ []) ⊎ (I ≡ x ∷ [])
one_or_none x [] once all = inl refl
one_or_none x (y ∷ ys) once all =
    let first : y ≡ x = all y (inl refl) in
    let rest : ys ≡ [] = none-member ys (λ z k. once.0 (subst (λ w. w ∈ ys) (all z (inr k) ∙ sym first) k)) in
    inr (λ i. first i ∷ rest i)

-- a set of one atom is consistent
pub one_alone_is_consistent : (a : List ℕ) (x : Atom) → x ∈ (atom a ∷ []) → ¬ (strong_negation x ∈ (atom a ∷ []))
one_alone_is_consistent a x k n = elim k [ inl e ↦ elim n [ inl f ↦ other e f | inr none ↦ none ] | inr none ↦ none ]
  where
    other : x ≡ atom a → strong_negation x ≡ atom a → ⊥
    other e f =
        let p : x.negated ≡ false = ap (λ (y : Atom). y.negated) e in
        let q : not x.negated ≡ false = ap (λ (y : Atom). y.negated) f in
        let r : not x.negated ≡ true = ap not p in
        (cc)

chosen_alone : (a : List ℕ) → IsAnswerSet (may_be a ∷ []) (atom a ∷ [])
chosen_alone a = record {
  set = ((λ k. k), tt);
  closed = record {
    met = λ r k s i b. elim k [ inl e ↦ subst (λ (q : Statement). HeadIsMet q s (atom a ∷ []) q.head) (sym e) (tt, tt) | inr none ↦ absurd none ];
    consistent = one_alone_is_consistent a;
  };
  founded = record {
    order = atom a ∷ [];
    once = ((λ k. k), tt);
    same = SameSet-refl (atom a ∷ []);
    founded = (inl (any, record { instance = tt; body = tt; head = (any, inl ((tt, (refl, refl, refl), tt), tt)); rests = tt }), tt);
  };
}

chosen_none : (a : List ℕ) → IsAnswerSet (may_be a ∷ []) []
chosen_none a = record {
  set = tt;
  closed = record {
    met = λ r k s i b. elim k [ inl e ↦ subst (λ (q : Statement). HeadIsMet q s [] q.head) (sym e) (tt, tt) | inr none ↦ absurd none ];
    consistent = λ x k. absurd k;
  };
  founded = record { order = []; once = tt; same = SameSet-refl []; founded = tt };
}

pub a_choice_gives_both : AChoiceGivesBoth
a_choice_gives_both a I = (
  λ h. one_or_none (atom a) I h.set (λ x among. chosen_is a I x (each_atom_is_licensed _ I h x among)),
  λ e. elim e [ inl p ↦ subst (IsAnswerSet (may_be a ∷ [])) (sym p) (chosen_none a) | inr q ↦ subst (IsAnswerSet (may_be a ∷ [])) (sym q) (chosen_alone a) ],
)

pub no_atom_from_its_absence : NoAtomFollowsFromItsAbsence
no_atom_from_its_absence a I h = out (λ among. licensed among (each_atom_is_licensed _ I h (atom a) among))
  where
    out : ¬ ¬ (atom a ∈ I)
    out k = k (h.closed.met (rule_without a a) (inl refl) any tt ((atom a, (refl, refl, refl), k), tt) (atom a) (refl, refl, refl))

    licensed : atom a ∈ I → ¬ AtLeastOne (λ r. (s : Substitution) × Licenses r s (atom a) I) (rule_without a a ∷ [])
    licensed among (inl l) =
        let b = l.1.body.0 in
        b.2 (subst (λ x. x ∈ I) (Becomes-one l.0 (written a) (atom a) b.0 (refl, refl, refl) b.1) among)
    licensed among (inr k) = k

-- ---- two rules without each other

abbrev two : List ℕ → List ℕ → List Statement
two a b = rule_without a b ∷ rule_without b a ∷ []

two_license : (a b : List ℕ) (I : List Atom) (x : Atom) → AtLeastOne (λ r. (s : Substitution) × Licenses r s x I) (two a b)
    → ((x ≡ atom a) × (¬ (atom b ∈ I))) ⊎ ((x ≡ atom b) × (¬ (atom a ∈ I)))
two_license a b I x some = go some
  where
    without : (c : List ℕ) (s : Substitution) → LiteralHolds s I (literal.Negative (written c)) → ¬ (atom c ∈ I)
    without c s h k = h.2 (subst (λ z. z ∈ I) (Becomes-one s (written c) (atom c) h.0 (refl, refl, refl) h.1) k)

    go : AtLeastOne (λ r. (s : Substitution) × Licenses r s x I) (two a b) → ((x ≡ atom a) × (¬ (atom b ∈ I))) ⊎ ((x ≡ atom b) × (¬ (atom a ∈ I)))
    go (inl l) = inl (Becomes-one l.0 (written a) x (atom a) l.1.head (refl, refl, refl), without b l.0 l.1.body.0)
    go (inr (inl l)) = inr (Becomes-one l.0 (written b) x (atom b) l.1.head (refl, refl, refl), without a l.0 l.1.body.0)
    go (inr (inr k)) = absurd k

-- the only member of a set that has one
pub that_one : (x : Atom) (I : List Atom) → HasNoRepeats I → x ∈ I → ((y : Atom) → y ∈ I → y ≡ x) → I ≡ x ∷ []
that_one x I once k all = elim (one_or_none x I once all) [ inl e ↦ absurd (subst (λ ys. x ∈ ys) e k) | inr e ↦ e ]

alone_without : (P : List Statement) (a b : List ℕ) → ¬ (a ≡ b) → rule_without a b ∈ P → ((r : Statement) → r ∈ P → (r ≡ rule_without a b) ⊎ (r ≡ rule_without b a))
    → IsAnswerSet P (atom a ∷ [])
alone_without P a b other among known = record {
  set = ((λ k. k), tt);
  closed = record { met = λ r k s i. met r s (known r k); consistent = one_alone_is_consistent a };
  founded = record {
    order = atom a ∷ [];
    once = ((λ k. k), tt);
    same = SameSet-refl (atom a ∷ []);
    founded = (
      AtLeastOne-from (λ r. (s : Substitution) × LicensesFrom r s (atom a) (atom a ∷ []) []) P (rule_without a b) among
          (any, record { instance = tt; body = ((atom b, (refl, refl, refl), out), tt); head = (refl, refl, refl); rests = (tt, tt) }),
      tt,
    );
  };
}
  where
    out : ¬ (atom b ∈ (atom a ∷ []))
    out (inl e) = other (sym (ap (λ (x : Atom). x.name) e))
    out (inr k) = k

    met : (r : Statement) (s : Substitution) → (r ≡ rule_without a b) ⊎ (r ≡ rule_without b a) → BodyHolds r s (atom a ∷ []) → HeadIsMet r s (atom a ∷ []) r.head
    met r s (inl e) b = subst (λ (q : Statement). HeadIsMet q s (atom a ∷ []) q.head) (sym e) (λ x c. inl (Becomes-one s (written a) x (atom a) c (refl, refl, refl)))
    met r s (inr e) b =
        let body = subst (λ (q : Statement). BodyHolds q s (atom a ∷ [])) e b in
        absurd (body.0.2 (inl (Becomes-one s (written a) body.0.0 (atom a) body.0.1 (refl, refl, refl))))

pub two_rules : TwoRulesWithoutEachOther
two_rules a b I other = (
  λ h. go h (in_or_out (atom b) I),
  λ e. elim e [
    | inl p ↦ subst (IsAnswerSet (two a b)) (sym p) (alone_without (two a b) a b other (inl refl) known)
    | inr q ↦ subst (IsAnswerSet (two a b)) (sym q) (alone_without (two a b) b a (λ e. other (sym e)) (inr (inl refl)) turned)
  ],
)
  where
    known : (r : Statement) → r ∈ two a b → (r ≡ rule_without a b) ⊎ (r ≡ rule_without b a)
    known r (inl e) = inl e
    known r (inr (inl e)) = inr e
    known r (inr (inr k)) = absurd k

    turned : (r : Statement) → r ∈ two a b → (r ≡ rule_without b a) ⊎ (r ≡ rule_without a b)
    turned r (inl e) = inr e
    turned r (inr (inl e)) = inl e
    turned r (inr (inr k)) = absurd k

    go : IsAnswerSet (two a b) I → (atom b ∈ I) ⊎ (¬ (atom b ∈ I)) → (I ≡ atom a ∷ []) ⊎ (I ≡ atom b ∷ [])
    go h (inl k) = inr (that_one (atom b) I h.set k (λ x j. elim (two_license a b I x (each_atom_is_licensed _ I h x j)) [ inl l ↦ absurd (l.1 k) | inr l ↦ l.0 ]))
    go h (inr out) =
        let first : atom a ∈ I = h.closed.met (rule_without a b) (inl refl) any tt ((atom b, (refl, refl, refl), out), tt) (atom a) (refl, refl, refl) in
        inl (that_one (atom a) I h.set first (λ x j. elim (two_license a b I x (each_atom_is_licensed _ I h x j)) [ inl l ↦ l.0 | inr l ↦ absurd (l.1 first) ]))

-- ---- strong negation

abbrev denial : List ℕ → Atom
denial a = record { negated = true; name = a; args = [] }

pub strong_negation_contradicts : StrongNegationContradicts
strong_negation_contradicts a b I h = h.closed.consistent (atom a) first minus
  where
    minus : denial a ∈ I
    minus = h.closed.met (denied a) (inl refl) any tt tt (denial a) (refl, refl, refl)

    none : atom b ∈ I → ¬ AtLeastOne (λ r. (s : Substitution) × Licenses r s (atom b) I) (denied a ∷ rule_without a b ∷ [])
    none k (inl l) = let sign : false ≡ true = l.1.head.0 in cc
    none k (inr (inl l)) =
        let body = l.1.body.0 in
        body.2 (subst (λ x. x ∈ I) (Becomes-one l.0 (written b) (atom b) body.0 (refl, refl, refl) body.1) k)
    none k (inr (inr j)) = j

    first : atom a ∈ I
    first = h.closed.met (rule_without a b) (inr (inl refl)) any tt ((atom b, (refl, refl, refl), λ k. none k (each_atom_is_licensed _ I h (atom b) k)), tt) (atom a) (refl, refl, refl)
