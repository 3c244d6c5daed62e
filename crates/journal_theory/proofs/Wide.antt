-- An atom is called wide only where it is, and only then the literals chosen are learned in place of a cover.
use Rattle.std.proofs.Common.{◌≡◌, ℕ, Bool, true, false, List, [], ◌∷◌, length, refl, sym, ◌∙◌, ap, subst, inl, inr}
use Rattle.std.specs.Prelude.{Option, Some, None}
use Rattle.lists.specs.Lists.{◌∈◌}
use Rattle.lists.proofs.ListLemmas.{∈-append_cases}
use Rattle.alpha_outside.specs.declared.event.Event as outside
use Rattle.alpha_outside.specs.declared.event.Event.TheVariants as say
use Rattle.search_values.specs.Instances.{Rules}
use Rattle.alpha_outside.specs.declared.pattern.Pattern.{Pattern}
use Rattle.search_values.specs.Values.{Value, Lit, all_at_0}
use Rattle.journal_theory.specs.States.{Phase, Free, MustLearn, MustDecide, Found, MustStrike, MustJump, Over, State}
use Rattle.journal_theory.specs.Covers.{IsWanted, for_stuck, for_closed, for_unassigned}
use Rattle.journal_theory.specs.Events.{Event, NameTerm, NameAtom, NameBody, Number, Make, Put, Choose, Close, Strike, Keep, Learn, Justify, CallWide, Back, Show, Pass, Decisions, phase_struck, phase_learned, phase_justified, first_value, lits_at}
use Rattle.journal_theory.specs.Journals.{replay, Legal, Says, SaysAll, EachIsWide}
use Rattle.journal_theory.specs.Laws.{before_terms, WideIsAsked, DecisionsFollowWide}

module _ {N A K : Type 0} (core : Rules N A K) (is_wide : State N A K → ℕ → Bool) where
  abbrev Asked : State N A K → ℕ → Type 0
  Asked s y = is_wide s y ≡ true

  wide_before : (e : Event A K) (earlier : List (Event A K)) → EachIsWide core Asked (e ∷ earlier) → EachIsWide core Asked earlier
  wide_before (NameTerm node) earlier h = h
  wide_before (NameAtom a) earlier h = h
  wide_before NameBody earlier h = h
  wide_before (Number x a number) earlier h = h
  wide_before (Make k) earlier h = h
  wide_before (Put a v n) earlier h = h
  wide_before (Choose b up) earlier h = h
  wide_before (Close x) earlier h = h
  wide_before (Strike n) earlier h = h
  wide_before (Keep n) earlier h = h
  wide_before (Learn how ls) earlier h = h
  wide_before (Justify patterns ls) earlier h = h
  wide_before (Back level) earlier h = h
  wide_before (Show ids) earlier h = h
  wide_before (Pass ids) earlier h = h
  wide_before (CallWide x) earlier h = h.1

  asked : (listed : List (List A)) (x count : ℕ) (events : List outside.Event) (journal : List (Event A K)) → Legal core listed journal → EachIsWide core Asked journal → SaysAll core events journal
      → say.Wide x count ∈ events → (count ≡ 256) × ((earlier : List (Event A K)) × Legal core listed earlier × (is_wide (replay core earlier) x ≡ true))
  asked listed x count events [] legal each says i = absurd (subst (λ z. say.Wide x count ∈ z) says i)
  asked listed x count events (e ∷ earlier) legal each says i = elim (∈-append_cases (say.Wide x count) says.0 (says.1 ∷ []) (subst (λ z. say.Wide x count ∈ z) says.2 i)) [
    | inl j ↦ asked listed x count says.0 earlier legal.0 (wide_before e earlier each) says.3 j
    | inr j ↦ elim j [
      | inl same ↦ (
          let said : Says core (replay core earlier) (say.Wide x count) e = subst (λ z. Says core (replay core earlier) z e) (sym same) says.4 in
          let is : EachIsWide core Asked (CallWide x ∷ earlier) = subst (λ z. EachIsWide core Asked (z ∷ earlier)) said.1 each in
          (said.0, (earlier, legal.0, is.0)))
      | inr z ↦ absurd z
    ]
  ]

-- law: what is called wide is
pub wide_is_asked : {N A K : Type 0} → WideIsAsked N A K
wide_is_asked core is_wide listed events x count legal i = asked core is_wide listed x count events legal.0 legal.1 legal.2 legal.3 i

-- ---- what comes before the literals chosen

-- a phase in which nothing in particular has to come isn't that in which the literals chosen have to be learned
not_free : (phase : Phase) → phase ≡ Free → ¬ (phase ≡ MustDecide)
not_free phase f e = let q = sym f ∙ e in cc

not_jump : (n : ℕ) → ¬ (MustJump n ≡ MustDecide)
not_jump n e = cc

not_found : ¬ (Found ≡ MustDecide)
not_found e = cc

not_struck : (n : ℕ) (low : Bool) → ¬ (phase_struck n low ≡ MustDecide)
not_struck n true e = cc
not_struck n false e = cc

not_learned : (phase : Phase) (n : ℕ) → ¬ (phase_learned phase n ≡ MustDecide)
not_learned Free n e = cc
not_learned (MustLearn m) n e = cc
not_learned MustDecide n e = cc
not_learned Found n e = cc
not_learned (MustStrike m) n e = cc
not_learned (MustJump m) n e = cc
not_learned Over n e = cc

free_not_decide : (v : Option Value) (n : ℕ) → ¬ (phase_justified Free v n ≡ MustDecide)
free_not_decide None n e = cc
free_not_decide (Some v) n e = cc

learn_not_decide : (m : ℕ) (v : Option Value) (n : ℕ) → ¬ (phase_justified (MustLearn m) v n ≡ MustDecide)
learn_not_decide m v n e = cc

module _ {N A K : Type 0} (core : Rules N A K) (listed : List (List A)) where
  not_justified : (s : State N A K) (x : ℕ) (v : Option Value) (n : ℕ) → IsWanted core s x → ¬ (phase_justified s.phase v n ≡ MustDecide)
  not_justified s x v n (for_stuck e stuck) q = free_not_decide v n (subst (λ z. phase_justified z v n ≡ MustDecide) e q)
  not_justified s x v n (for_unassigned e can) q = free_not_decide v n (subst (λ z. phase_justified z v n ≡ MustDecide) e q)
  not_justified s x v n (for_closed m struck ls e at w a i) q = learn_not_decide m v n (subst (λ z. phase_justified z v n ≡ MustDecide) e q)

  -- where the literals chosen have to be learned, an atom was called wide last
  wide_last : (journal : List (Event A K)) → Legal core listed journal → State.phase (replay core journal) ≡ MustDecide
      → (x : ℕ) × (earlier : List (Event A K)) × (before_terms journal ≡ CallWide x ∷ earlier)
  wide_last [] legal e = absurd (not_free Free refl e)
  wide_last (NameTerm node ∷ journal) legal e = wide_last journal legal.0 e
  wide_last (CallWide x ∷ journal) legal e = (x, journal, refl)
  wide_last (NameAtom a ∷ journal) legal e = absurd (not_free (State.phase (replay core journal)) legal.1.0 e)
  wide_last (NameBody ∷ journal) legal e = absurd (not_free (State.phase (replay core journal)) legal.1.0 e)
  wide_last (Number x a number ∷ journal) legal e = absurd (not_free (State.phase (replay core journal)) legal.1.0 e)
  wide_last (Make k ∷ journal) legal e = absurd (not_free (State.phase (replay core journal)) legal.1.0 e)
  wide_last (Put a v n ∷ journal) legal e = absurd (not_free (State.phase (replay core journal)) legal.1.0 e)
  wide_last (Choose b up ∷ journal) legal e = absurd (not_free (State.phase (replay core journal)) legal.1.0 e)
  wide_last (Close x ∷ journal) legal e = absurd (not_free (State.phase (replay core journal)) legal.1.0 e)
  wide_last (Strike n ∷ journal) legal e =
      absurd (not_struck n (all_at_0 (State.stack (replay core journal)) (lits_at (State.nogoods (replay core journal)) n)) e)
  wide_last (Keep n ∷ journal) legal e = absurd (not_jump n e)
  wide_last (Learn how ls ∷ journal) legal e = absurd (not_learned (State.phase (replay core journal)) (length (State.nogoods (replay core journal))) e)
  wide_last (Justify patterns ls ∷ journal) legal e =
      let s = replay core journal in
      absurd (not_justified s legal.1.0.id (first_value ls s.stack) (length s.nogoods) legal.1.0.wanted e)
  wide_last (Back level ∷ journal) legal e = absurd (not_free Free refl e)
  wide_last (Show ids ∷ journal) legal e = absurd (not_found e)
  wide_last (Pass ids ∷ journal) legal e = absurd (not_found e)

-- law: the literals chosen follow Wide
pub decisions_follow_wide : {N A K : Type 0} → DecisionsFollowWide N A K
decisions_follow_wide core listed journal ls legal = wide_last core listed journal legal.0 legal.1.0.1
