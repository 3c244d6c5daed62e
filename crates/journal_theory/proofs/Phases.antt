-- What has to come next may come.
use Rattle.std.proofs.Common.{◌≡◌, ℕ, ◌<◌, ◌⊎◌, Bool, true, false, List, [], ◌∷◌, ◌++◌, length, refl, ap, sym, ◌∙◌, subst, inl, inr}
use Rattle.std.specs.Prelude.{Some, None, slice_get}
use Rattle.lists.specs.Lists.{◌∈◌}
use Rattle.alpha_outside.specs.declared.pattern.Pattern.{Pattern}
use Rattle.search_values.specs.Values.{MustBe, Lit, level_of, back_to, all_at_0, chosen}
use Rattle.search_values.specs.Nogoods.{Nogood, IsStruck, IsLeft}
use Rattle.search_values.specs.Instances.{Rules}
use Rattle.journal_theory.specs.States.{Phase, Free, MustLearn, MustDecide, Found, MustStrike, MustJump, Over, State}
use Rattle.journal_theory.specs.Covers.{IsWanted, for_stuck, for_closed, for_unassigned, MayJustify}
use Rattle.journal_theory.specs.Events.{Analysed, Justified, Decisions, Enumerated, Event, NameTerm, NameAtom, NameBody, Number, Make, Put, Choose, Close, Strike, Keep, Learn, Justify, CallWide, Back, Show, Pass, phase_struck, phase_learned, first_value, phase_justified, lits_at, happens, IsNew, IsUnitAt, Allowed}
use Rattle.journal_theory.specs.Journals.{replay, Legal}
use Rattle.search_values.proofs.Basics.{get_last}
use Rattle.search_values.proofs.Tables.{nogood}
use Rattle.journal_theory.proofs.Central.{Valid}
use Rattle.journal_theory.proofs.Covers.{justified_struck}
use Rattle.journal_theory.proofs.Events.{legal_safe}
use Rattle.journal_theory.proofs.Explaining.{value_first}
use Rattle.journal_theory.proofs.Highest.{left_unit, highest_left}
use Rattle.journal_theory.proofs.Fresh.{NewlyChosen, ChosenAreBodies, chosen_holds, superset_of_none, legal_newly}
use Rattle.journal_theory.proofs.Jumps.{jump_exists}
use Rattle.journal_theory.specs.Laws.{NoneEmpty, LearnedIsNew, KeptOnce, GoesOn, WhatMustComeMay}
use Rattle.alpha_outside.specs.declared.node.Node.{Node}

-- the nogood that is to be struck is so, and the one at which to go back is unit at some level
abbrev pub PhaseLeads : {N A K : Type 0} → State N A K → Phase → Type 0
PhaseLeads s Free = Unit {0}
PhaseLeads s (MustLearn n) = Unit {0}
PhaseLeads s MustDecide = Unit {0}
PhaseLeads s Found = Unit {0}
PhaseLeads s Over = Unit {0}
PhaseLeads s (MustStrike n) = (ng : Nogood) × (slice_get s.nogoods n ≡ Some ng) × IsStruck s.stack ng
PhaseLeads s (MustJump n) = (level : ℕ) × (level < level_of s.stack) × IsUnitAt (back_to level s.stack) s.nogoods n

module _ {N A K : Type 0} (core : Rules N A K) (s : State N A K) (valid : Valid core s) (bodies : ChosenAreBodies s) (newly : NewlyChosen s) where
  free_leads : (s' : State N A K) (phase : Phase) → phase ≡ Free → PhaseLeads s' phase
  free_leads s' phase e = subst (λ z. PhaseLeads s' z) (sym e) tt

  term_leads : (terms : List Node) (phase : Phase) → PhaseLeads s phase → PhaseLeads (record s { terms = terms }) phase
  term_leads terms Free h = tt
  term_leads terms (MustLearn n) h = tt
  term_leads terms MustDecide h = tt
  term_leads terms Found h = tt
  term_leads terms Over h = tt
  term_leads terms (MustStrike n) h = h
  term_leads terms (MustJump n) h = h

  strike_leads : (s' : State N A K) (n : ℕ) (low : Bool) → PhaseLeads s' (phase_struck n low)
  strike_leads s' n true = tt
  strike_leads s' n false = tt

  new_here : (ls : List Lit) → slice_get (s.nogoods ++ nogood None ls ∷ []) (length s.nogoods) ≡ Some (nogood None ls)
  new_here ls = get_last s.nogoods (nogood None ls)

  -- what is learned is unit at the level that a literal is left at
  learned_leads : (ls : List Lit) (left : Lit) (level : ℕ) → level < level_of s.stack → IsLeft (back_to level s.stack) (nogood None ls) left
      → PhaseLeads (record s { nogoods = s.nogoods ++ nogood None ls ∷ []; phase = MustJump (length s.nogoods) }) (MustJump (length s.nogoods))
  learned_leads ls left level low h = (level, low, (nogood None ls, new_here ls, left_unit (back_to level s.stack) (nogood None ls) left h))

  justified_leads : (patterns : List Pattern) (ls : List Lit) (may : MayJustify core s patterns ls) → IsWanted core s may.id
      → PhaseLeads (happens core s (Justify patterns ls)) (phase_justified s.phase (first_value ls s.stack) (length s.nogoods))
  justified_leads patterns ls may (for_stuck e stuck) =
      let first : first_value ls s.stack ≡ Some MustBe = ap (λ z. first_value z s.stack) may.lits_are ∙ stuck.must_be in
      subst (λ z. PhaseLeads (happens core s (Justify patterns ls)) (phase_justified z (first_value ls s.stack) (length s.nogoods))) (sym e)
      (subst (λ v. PhaseLeads (happens core s (Justify patterns ls)) (phase_justified Free v (length s.nogoods))) (sym first)
      (nogood None ls, new_here ls, (λ l i. let h = justified_struck core s valid patterns ls may stuck.must_be l i in (h.0, value_first ls (length s.nogoods) s.stack l.atom ∙ h.1, h.2))))
  justified_leads patterns ls may (for_unassigned e can) =
      let first : first_value ls s.stack ≡ None = ap (λ z. first_value z s.stack) may.lits_are ∙ can.no_value in
      subst (λ z. PhaseLeads (happens core s (Justify patterns ls)) (phase_justified z (first_value ls s.stack) (length s.nogoods))) (sym e)
      (subst (λ v. PhaseLeads (happens core s (Justify patterns ls)) (phase_justified Free v (length s.nogoods))) (sym first) tt)
  justified_leads patterns ls may (for_closed n struck ms e at w a i) =
      subst (λ z. PhaseLeads (happens core s (Justify patterns ls)) (phase_justified z (first_value ls s.stack) (length s.nogoods))) (sym e) tt

  -- each event keeps it
  pub leads_keep : (listed : List (List A)) (e : Event A K) → PhaseLeads s s.phase → Allowed core listed s e → PhaseLeads (happens core s e) (State.phase (happens core s e))
  leads_keep listed (NameTerm node) h ok = term_leads (s.terms ++ node ∷ []) s.phase h
  leads_keep listed (NameAtom a) h ok = free_leads (happens core s (NameAtom a)) s.phase ok.0
  leads_keep listed NameBody h ok = free_leads (happens core s NameBody) s.phase ok.0
  leads_keep listed (Number x a number) h ok = free_leads (happens core s (Number x a number)) s.phase ok.0
  leads_keep listed (Make k) h ok = free_leads (happens core s (Make k)) s.phase ok.0
  leads_keep listed (Put a v n) h ok = free_leads (happens core s (Put a v n)) s.phase ok.0
  leads_keep listed (Choose b up) h ok = free_leads (happens core s (Choose b up)) s.phase ok.0
  leads_keep listed (Close x) h ok = free_leads (happens core s (Close x)) s.phase ok.0
  leads_keep listed (Strike n) h ok = strike_leads (happens core s (Strike n)) n (all_at_0 s.stack (lits_at s.nogoods n))
  leads_keep listed (Keep n) h ok = ok.2
  leads_keep listed (Learn Decisions ls) h ok =
      subst (λ z. PhaseLeads (happens core s (Learn Decisions ls)) (phase_learned z (length s.nogoods))) (sym ok.0.1)
      (nogood None ls, new_here ls, (λ l i. chosen_holds core s valid bodies newly s.stack valid.good l (subst (λ z. l ∈ z) ok.0.0 i)))
  leads_keep listed (Learn Enumerated ls) h ok =
      let j = jump_exists core s valid bodies newly s.stack valid.good (λ none. ok.0.2 (ok.0.0 ∙ none)) in
      subst (λ z. PhaseLeads (happens core s (Learn Enumerated ls)) (phase_learned z (length s.nogoods))) (sym ok.0.1)
      (learned_leads ls j.2 j.0 j.1 (subst (λ z. IsLeft (back_to j.0 s.stack) (nogood None z) j.2) (sym ok.0.0) j.3))
  leads_keep listed (Learn Analysed ls) h ok =
      let r = highest_left core s s.stack valid.good (nogood None ls) ok.0.1.hold ok.0.1.one_highest in
      subst (λ z. PhaseLeads (happens core s (Learn Analysed ls)) (phase_learned z (length s.nogoods))) (sym ok.0.0.1)
      (learned_leads ls ok.0.1.one_highest.left r.0 r.1 r.2)
  leads_keep listed (Learn Justified ls) h ok = absurd ok.0
  leads_keep listed (Justify patterns ls) h ok = justified_leads patterns ls ok.0 ok.0.wanted
  leads_keep listed (CallWide x) h ok = tt
  leads_keep listed (Back level) h ok = tt
  leads_keep listed (Show ids) h ok = tt
  leads_keep listed (Pass ids) h ok = tt

-- a legal journal leads to a state in which the nogood to be struck is so, and the one to go back at is unit at some level
pub legal_leads : {N A K : Type 0} (core : Rules N A K) (listed : List (List A)) (journal : List (Event A K)) → Legal core listed journal
    → PhaseLeads (replay core journal) (State.phase (replay core journal))
legal_leads core listed [] legal = tt
legal_leads core listed (e ∷ journal) legal =
    let r = legal_newly core listed journal legal.0 in
    leads_keep core (replay core journal) (legal_safe core listed journal legal.0).valid r.0 r.1 listed e (legal_leads core listed journal legal.0) legal.1

new_from : {N A K : Type 0} (core : Rules N A K) (s : State N A K) → Valid core s → ChosenAreBodies s → NewlyChosen s → NoneEmpty s.nogoods
    → (s.phase ≡ Free) ⊎ ((s.phase ≡ MustDecide) ⊎ (s.phase ≡ Found)) → IsNew s.nogoods (chosen s.stack)
new_from core s valid bodies newly some w ng i sub = some ng i (superset_of_none core s valid bodies newly w ng i sub)

-- law: where the literals chosen may be learned, they are new
pub learned_is_new : {N A K : Type 0} → LearnedIsNew N A K
learned_is_new core listed journal legal some Decisions ls other may =
    let r = legal_newly core listed journal legal in
    subst (λ z. IsNew (State.nogoods (replay core journal)) z) (sym may.0)
    (new_from core (replay core journal) (legal_safe core listed journal legal).valid r.0 r.1 some (inr (inl may.1)))
learned_is_new core listed journal legal some Enumerated ls other may =
    let r = legal_newly core listed journal legal in
    subst (λ z. IsNew (State.nogoods (replay core journal)) z) (sym may.0)
    (new_from core (replay core journal) (legal_safe core listed journal legal).valid r.0 r.1 some (inr (inr may.1)))
learned_is_new core listed journal legal some Analysed ls other may = absurd (other refl)
learned_is_new core listed journal legal some Justified ls other may = absurd may

-- law: no nogood is kept twice
pub kept_once : {N A K : Type 0} → KeptOnce N A K
kept_once core listed [] legal = tt
kept_once core listed (Keep n ∷ journal) legal = (legal.1.1, kept_once core listed journal legal.0)
kept_once core listed (NameTerm node ∷ journal) legal = kept_once core listed journal legal.0
kept_once core listed (NameAtom a ∷ journal) legal = kept_once core listed journal legal.0
kept_once core listed (NameBody ∷ journal) legal = kept_once core listed journal legal.0
kept_once core listed (Number x a number ∷ journal) legal = kept_once core listed journal legal.0
kept_once core listed (Make k ∷ journal) legal = kept_once core listed journal legal.0
kept_once core listed (Put a v n ∷ journal) legal = kept_once core listed journal legal.0
kept_once core listed (Choose b up ∷ journal) legal = kept_once core listed journal legal.0
kept_once core listed (Close x ∷ journal) legal = kept_once core listed journal legal.0
kept_once core listed (Strike n ∷ journal) legal = kept_once core listed journal legal.0
kept_once core listed (Learn how ls ∷ journal) legal = kept_once core listed journal legal.0
kept_once core listed (Justify patterns ls ∷ journal) legal = kept_once core listed journal legal.0
kept_once core listed (CallWide x ∷ journal) legal = kept_once core listed journal legal.0
kept_once core listed (Back l ∷ journal) legal = kept_once core listed journal legal.0
kept_once core listed (Show ids ∷ journal) legal = kept_once core listed journal legal.0
kept_once core listed (Pass ids ∷ journal) legal = kept_once core listed journal legal.0

is_empty : (ls : List Lit) → (ls ≡ []) ⊎ (¬ (ls ≡ []))
is_empty [] = inl refl
is_empty (l ∷ ls) = inr (λ e. cc)

goes_on : {N A K : Type 0} (core : Rules N A K) (listed : List (List A)) (s : State N A K) → Valid core s → ChosenAreBodies s → NewlyChosen s → NoneEmpty s.nogoods
    → (phase : Phase) → s.phase ≡ phase → PhaseLeads s phase → GoesOn core listed s phase
goes_on core listed s valid bodies newly some Free e h = tt
goes_on core listed s valid bodies newly some Over e h = tt
goes_on core listed s valid bodies newly some (MustLearn n) e h = tt
goes_on core listed s valid bodies newly some MustDecide e h = ((refl, e), new_from core s valid bodies newly some (inr (inl e)))
goes_on core listed s valid bodies newly some Found e h = elim (is_empty (chosen s.stack)) [
  | inl none ↦ inl none
  | inr any ↦ inr ((refl, e, any), new_from core s valid bodies newly some (inr (inr e)))
]
goes_on core listed s valid bodies newly some (MustStrike n) e h = (inr e, h)
goes_on core listed s valid bodies newly some (MustJump n) e h = (h.0, (h.1, (n, e, h.2)))

-- law: what has to come next may come
pub what_must_come_may : {N A K : Type 0} → WhatMustComeMay N A K
what_must_come_may core listed journal legal some =
    let r = legal_newly core listed journal legal in
    goes_on core listed (replay core journal) (legal_safe core listed journal legal).valid r.0 r.1 some (State.phase (replay core journal)) refl (legal_leads core listed journal legal)
