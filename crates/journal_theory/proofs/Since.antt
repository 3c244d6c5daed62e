-- A named atom that is must-be-true above a closed entry became so after it, since atoms are closed only where none is must-be-true.
use Rattle.std.proofs.Common.{◌≡◌, ℕ, ◌+◌, ◌⊎◌, Bool, true, false, cond, List, [], ◌∷◌, ◌++◌, length, refl, sym, ◌∙◌, ap, subst, inl, inr}
use Rattle.std.specs.Prelude.{Option, Some, nat_le, slice_get}
use Rattle.lists.specs.Lists.{◌∈◌}
use Rattle.search_values.specs.declared.entry.Why.TheVariants.{Closed}
use Rattle.search_values.specs.declared.entry.Entry.{Entry}
use Rattle.search_values.specs.Values.{MustBe, False, Lit, explain, value_of, opened, level_of, back_to, HasClosed, MustSinceClosed}
use Rattle.search_values.specs.Instances.{Rules}
use Rattle.search_values.specs.Ids.{AtomNode, Named, BodyOf}
use Rattle.journal_theory.specs.States.{State}
use Rattle.journal_theory.specs.Events.{Event, NameTerm, NameAtom, NameBody, Number, Make, Put, Choose, Close, Strike, Keep, Learn, Justify, CallWide, Back, Show, Pass, explain_first, happens, Allowed}
use Rattle.journal_theory.specs.Journals.{replay, Legal}
use Rattle.search_values.proofs.Basics.{get_snoc, value_cases, get_none}
use Rattle.journal_theory.proofs.Meaning.{OfAtom, OfBody, Known}
use Rattle.journal_theory.proofs.Stack.{Good, value_known}
use Rattle.journal_theory.proofs.Central.{Valid}
use Rattle.journal_theory.proofs.Explaining.{value_explain, closed_before}
use Rattle.journal_theory.proofs.Events.{legal_safe}
use Rattle.journal_theory.specs.Laws.{MustBeIsSinceClosed}

-- below each closed entry, which is false, no named atom is must-be-true
abbrev pub IsClean : {A : Type 0} → List (AtomNode A) → List Entry → Type 0
IsClean names [] = Unit {0}
IsClean {A} names (e ∷ rest) =
    ((reason : Option ℕ) → e.why ≡ Closed reason → (e.value ≡ False) × ((x : ℕ) (a : A) → slice_get names x ≡ Some (Named a) → ¬ (value_of rest x ≡ Some MustBe)))
    × IsClean names rest

clean_pick : {A : Type 0} (names : List (AtomNode A)) (b : Bool) (stack other : List Entry) → IsClean names stack → IsClean names other → IsClean names (cond b stack other)
clean_pick names true stack other g h = g
clean_pick names false stack other g h = h

pub clean_back : {A : Type 0} (names : List (AtomNode A)) (l : ℕ) (stack : List Entry) → IsClean names stack → IsClean names (back_to l stack)
clean_back names l [] h = tt
clean_back names l (e ∷ rest) h = clean_pick names (nat_le (level_of rest + opened e.why) l) (e ∷ rest) (back_to l rest) h (clean_back names l rest h.1)

clean_explain : {A : Type 0} (names : List (AtomNode A)) (a n : ℕ) (stack : List Entry) → IsClean names stack → IsClean names (explain a n stack)
clean_explain names a n [] h = tt
clean_explain names a n (e ∷ rest) h = (
  (λ reason w. let r = closed_before a n e reason w in let c = h.0 r.0 r.1 in (c.0, (λ x b p v. c.1 x b p (sym (value_explain a n rest x) ∙ v)))),
  clean_explain names a n rest h.1,
)

clean_first : {A : Type 0} (names : List (AtomNode A)) (ls : List Lit) (n : ℕ) (stack : List Entry) → IsClean names stack → IsClean names (explain_first ls n stack)
clean_first names [] n stack h = h
clean_first names (l ∷ ls) n stack h = clean_explain names l.atom n stack h

module _ {N A K : Type 0} (core : Rules N A K) (s : State N A K) (valid : Valid core s) where
  -- the next id means nothing yet
  next_unknown : ¬ Known s (length s.names)
  next_unknown (OfAtom a, h) = get_none s.names (Named a) h
  next_unknown (OfBody i, h) = get_none s.names (BodyOf h.number) h.node

  clean_more : (n : AtomNode A) (stack : List Entry) → Good core s stack → IsClean s.names stack → IsClean (s.names ++ n ∷ []) stack
  clean_more n [] g h = tt
  clean_more n (e ∷ rest) g h = (
    (λ reason w. let c = h.0 reason w in (
      c.0,
      (λ x a p v. elim (get_snoc s.names n x (Named a) p) [
        | inl q ↦ c.1 x a q v
        | inr q ↦ next_unknown (subst (λ z. Known s z) q.0 (value_known core s rest g.1 x MustBe v))
      ]),
    )),
    clean_more n rest g.1 h.1,
  )

  clean_keep : (listed : List (List A)) (e : Event A K) → IsClean s.names s.stack → Allowed core listed s e → IsClean (State.names (happens core s e)) (State.stack (happens core s e))
  clean_keep listed (NameTerm node) h ok = h
  clean_keep listed (NameAtom a) h ok = clean_more (Named a) s.stack valid.good h
  clean_keep listed NameBody h ok = clean_more (BodyOf (length s.made)) s.stack valid.good h
  clean_keep listed (Number x a number) h ok = h
  clean_keep listed (Make k) h ok = h
  clean_keep listed (Put a v n) h ok = ((λ reason w. cc), h)
  clean_keep listed (Choose b up) h ok = ((λ reason w. cc), h)
  clean_keep listed (Close x) h ok = ((λ reason w. (refl, ok.5)), h)
  clean_keep listed (Strike n) h ok = h
  clean_keep listed (Learn how ls) h ok = h
  clean_keep listed (Justify patterns ls) h ok = clean_first s.names ls (length s.nogoods) s.stack h
  clean_keep listed (Keep n) h ok = h
  clean_keep listed (CallWide x) h ok = h
  clean_keep listed (Back l) h ok = clean_back s.names l s.stack h
  clean_keep listed (Show ids) h ok = h
  clean_keep listed (Pass ids) h ok = h

pub legal_clean : {N A K : Type 0} (core : Rules N A K) (listed : List (List A)) (journal : List (Event A K)) → Legal core listed journal
    → IsClean (State.names (replay core journal)) (State.stack (replay core journal))
legal_clean core listed [] legal = tt
legal_clean core listed (e ∷ journal) legal = clean_keep core (replay core journal) (legal_safe core listed journal legal.0).valid listed e (legal_clean core listed journal legal.0) legal.1

since : {A : Type 0} (names : List (AtomNode A)) (stack : List Entry) → IsClean names stack → (x : ℕ) (a : A) → slice_get names x ≡ Some (Named a) → value_of stack x ≡ Some MustBe
    → HasClosed stack → MustSinceClosed stack x
since names [] h x a n v closed = cc
since names (e ∷ rest) h x a n v (d, i, (reason, w)) = go (value_cases e rest x) i (since names rest h.1 x a n)
  where
    go : ((e.atom ≡ x) × (value_of (e ∷ rest) x ≡ Some e.value)) ⊎ ((e.atom ≡ x → ⊥) × (value_of (e ∷ rest) x ≡ value_of rest x)) → d ∈ (e ∷ rest)
        → (value_of rest x ≡ Some MustBe → HasClosed rest → MustSinceClosed rest x)
        → ((e.atom ≡ x) × (e.value ≡ MustBe) × HasClosed rest) ⊎ ((¬ (e.atom ≡ x)) × MustSinceClosed rest x)
    go (inl k) (inl q) below =
        let f = (h.0 reason (ap (λ (z : Entry). z.why) (sym q) ∙ w)).0 in
        let g : Some e.value ≡ Some MustBe = sym k.1 ∙ v in cc
    go (inl k) (inr j) below = (let g : Some e.value ≡ Some MustBe = sym k.1 ∙ v in let m : e.value ≡ MustBe = cc in inl (k.0, m, (d, j, (reason, w))))
    go (inr k) (inl q) below = absurd ((h.0 reason (ap (λ (z : Entry). z.why) (sym q) ∙ w)).1 x a n (sym k.1 ∙ v))
    go (inr k) (inr j) below = inr (k.0, below (sym k.1 ∙ v) (d, j, (reason, w)))

-- law: a named atom that is must-be-true above a closed entry became so after it
pub must_be_is_since_closed : {N A K : Type 0} → MustBeIsSinceClosed N A K
must_be_is_since_closed core listed journal legal x a n v closed =
    since (State.names (replay core journal)) (State.stack (replay core journal)) (legal_clean core listed journal legal) x a n v closed
