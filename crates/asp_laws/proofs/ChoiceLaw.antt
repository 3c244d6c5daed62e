-- A choice of an atom is its fact, or nothing.
use Rattle.std.proofs.Common.{◌≡◌, ◌⊎◌, inl, inr, refl, sym, subst, ℕ, List, [], ◌∷◌}
use Rattle.lists.specs.Lists.{◌∈◌, ◌⊆◌, AtLeastOne}
use Rattle.asp_syntax.specs.declared.tree.Statement.{Statement}
use Rattle.asp_meaning.specs.Terms.{Substitution}
use Rattle.asp_meaning.specs.Atoms.{Atom, Becomes}
use Rattle.asp_meaning.specs.Programs.{IsInstance, BodyHolds, HeadIsMet, LicensesFrom, IsFoundedList, IsFounded, IsClosed, IsAnswerSet}
use Rattle.asp_laws.specs.Examples.{written, atom, fact, may_be}
use Rattle.asp_laws.specs.Laws.{AChoiceIsAFactOrNothing}
use Rattle.asp_laws.proofs.Foundations.{Becomes-one}
use Rattle.asp_laws.proofs.Stable.{in_or_out}

abbrev Licensed : List Atom → Atom → List Atom → List Statement → Type 0
Licensed I x earlier P = AtLeastOne (λ r. (s : Substitution) × LicensesFrom r s x I earlier) P

founded_change : (P Q : List Statement) (I order : List Atom) → order ⊆ I → ((x : Atom) (earlier : List Atom) → x ∈ I → Licensed I x earlier P → Licensed I x earlier Q)
    → IsFoundedList P I order → IsFoundedList Q I order
founded_change P Q I [] within change h = tt
founded_change P Q I (x ∷ earlier) within change h =
    (change x earlier (within x (inl refl)) h.0, founded_change P Q I earlier (λ y k. within y (inr k)) change h.1)

changed : (P Q : List Statement) (I : List Atom) → ((x : Atom) (earlier : List Atom) → x ∈ I → Licensed I x earlier P → Licensed I x earlier Q) → IsFounded P I → IsFounded Q I
changed P Q I change h = record {
  order = h.order;
  once = h.once;
  same = h.same;
  founded = founded_change P Q I h.order h.same.back change h.founded;
}

-- what the choice licenses is a
chosen_is : (a : List ℕ) (s : Substitution) (x : Atom) (I earlier : List Atom) → LicensesFrom (may_be a) s x I earlier → x ≡ atom a
chosen_is a s x I earlier l = elim (l.head.1) [ inl e ↦ Becomes-one l.head.0 (written a) x (atom a) e.0.1 (refl, refl, refl) | inr k ↦ absurd k ]

fact_licenses : (a : List ℕ) (s : Substitution) (x : Atom) (I earlier : List Atom) → x ≡ atom a → LicensesFrom (fact a) s x I earlier
fact_licenses a s x I earlier e = record { instance = tt; body = tt; head = subst (Becomes s (written a)) (sym e) (refl, refl, refl); rests = tt }

choice_licenses : (a : List ℕ) (s : Substitution) (x : Atom) (I earlier : List Atom) → Becomes s (written a) x → LicensesFrom (may_be a) s x I earlier
choice_licenses a s x I earlier b = record { instance = tt; body = tt; head = (s, inl ((tt, b, tt), tt)); rests = tt }

-- a statement is added that demands nothing more
closed_with : (P : List Statement) (r : Statement) (I : List Atom) → ((s : Substitution) → HeadIsMet r s I r.head) → IsClosed P I → IsClosed (r ∷ P) I
closed_with P r I met h = record {
  met = λ q k. elim k [
    | inl e ↦ subst (λ (x : Statement). (s : Substitution) → IsInstance x s → BodyHolds x s I → HeadIsMet x s I x.head) (sym e) (λ s i b. met s)
    | inr among ↦ h.met q among
  ];
  consistent = h.consistent;
}

closed_without : (P : List Statement) (r : Statement) (I : List Atom) → IsClosed (r ∷ P) I → IsClosed P I
closed_without P r I h = record { met = λ q k. h.met q (inr k); consistent = h.consistent }

pub a_choice_is_a_fact_or_nothing : AChoiceIsAFactOrNothing
a_choice_is_a_fact_or_nothing P a I = (λ h. to h (in_or_out (atom a) I), back)
  where
    to : IsAnswerSet (may_be a ∷ P) I → (atom a ∈ I) ⊎ (¬ (atom a ∈ I)) → IsAnswerSet (fact a ∷ P) I ⊎ ((¬ (atom a ∈ I)) × IsAnswerSet P I)
    to h (inl k) = inl (record {
      set = h.set;
      closed = closed_with P (fact a) I
          (λ s x b. subst (λ y. y ∈ I) (Becomes-one s (written a) (atom a) x (refl, refl, refl) b) k) (closed_without P (may_be a) I h.closed);
      founded = changed (may_be a ∷ P) (fact a ∷ P) I
          (λ x earlier among some. elim some [ inl l ↦ inl (l.0, fact_licenses a l.0 x I earlier (chosen_is a l.0 x I earlier l.1)) | inr rest ↦ inr rest ]) h.founded;
    })
    to h (inr out) = inr (
      out,
      record {
        set = h.set;
        closed = closed_without P (may_be a) I h.closed;
        founded = changed (may_be a ∷ P) P I
            (λ x earlier among some. elim some [ inl l ↦ absurd (out (subst (λ y. y ∈ I) (chosen_is a l.0 x I earlier l.1) among)) | inr rest ↦ rest ]) h.founded;
      },
    )

    back : IsAnswerSet (fact a ∷ P) I ⊎ ((¬ (atom a ∈ I)) × IsAnswerSet P I) → IsAnswerSet (may_be a ∷ P) I
    back (inl h) = record {
      set = h.set;
      closed = closed_with P (may_be a) I (λ s. (tt, tt)) (closed_without P (fact a) I h.closed);
      founded = changed (fact a ∷ P) (may_be a ∷ P) I
          (λ x earlier among some. elim some [ inl l ↦ inl (l.0, choice_licenses a l.0 x I earlier l.1.head) | inr rest ↦ inr rest ]) h.founded;
    }
    back (inr h) = record {
      set = h.1.set;
      closed = closed_with P (may_be a) I (λ s. (tt, tt)) h.1.closed;
      founded = changed P (may_be a ∷ P) I (λ x earlier among some. inr some) h.1.founded;
    }
