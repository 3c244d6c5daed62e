-- A journal that goes on leaves the open sets that it had, but for atoms that couldn't be named, and no others.
use Rattle.std.proofs.Common.{List, [], ◌∷◌, ◌++◌, length, refl, ◌∙◌, inl, inr}
use Rattle.search_values.specs.Instances.{Rules}
use Rattle.search_values.specs.Ids.{Named, BodyOf}
use Rattle.journal_theory.specs.States.{State}
use Rattle.journal_theory.specs.Events.{Event, NameTerm, NameAtom, NameBody, Number, Make, Put, Choose, Close, Strike, Keep, Learn, Justify, CallWide, Back, Show, Pass, happens, Allowed}
use Rattle.journal_theory.specs.Journals.{replay, Legal}
use Rattle.journal_theory.proofs.Meaning.{Grows, known_grows, Later}
use Rattle.journal_theory.proofs.Central.{Valid}
use Rattle.journal_theory.proofs.Keep.{later_from, name_grows}
use Rattle.journal_theory.proofs.Events.{legal_safe, number_later, make_grows}

-- what grows twice grows
pub grows_trans : {N A K : Type 0} (s s' s'' : State N A K) → Grows s s' → Grows s' s'' → Grows s s''
grows_trans s s' s'' g h = record {
  names = λ x n e. h.names x n (g.names x n e);
  made = λ j k e. h.made j k (g.made j k e);
}

-- what is later than a later state is later
pub later_trans : {N A K : Type 0} (core : Rules N A K) (s s' s'' : State N A K) → Later core s s' → Later core s' s'' → Later core s s''
later_trans core s s' s'' first second = record {
  grows = grows_trans s s' s'' first.grows second.grows;
  earlier = λ c o.
      let r = second.earlier c o in
      let q = first.earlier r.0 r.1 in
      (q.0, q.1, λ x k. q.2 x k ∙ r.2 x (known_grows s s' first.grows x k));
}

-- a state is later than itself
pub later_same : {N A K : Type 0} (core : Rules N A K) (s : State N A K) → Later core s s
later_same core s = later_from core s s refl (record { names = λ x n e. e; made = λ j k e. e }) (λ ids w. w)

-- each event that may come leads to a later state
pub event_later : {N A K : Type 0} (core : Rules N A K) (s : State N A K) (listed : List (List A)) (e : Event A K) → Valid core s → Allowed core listed s e → Later core s (happens core s e)
event_later core s listed (NameTerm node) v ok = later_from core s (happens core s (NameTerm node)) refl (record { names = λ x n e. e; made = λ j k e. e }) (λ ids w. w)
event_later core s listed (NameAtom a) v ok = later_from core s (happens core s (NameAtom a)) refl (name_grows s (Named a)) (λ ids w. w)
event_later core s listed NameBody v ok = later_from core s (happens core s NameBody) refl (name_grows s (BodyOf (length s.made))) (λ ids w. w)
event_later core s listed (Number x a number) v ok = number_later core s v x a number ok.3
event_later core s listed (Make k) v ok = later_from core s (happens core s (Make k)) refl (make_grows core s k) (λ ids w. w)
event_later core s listed (Put a w n) v ok = later_from core s (happens core s (Put a w n)) refl (record { names = λ x n e. e; made = λ j k e. e }) (λ ids w. w)
event_later core s listed (Choose b up) v ok = later_from core s (happens core s (Choose b up)) refl (record { names = λ x n e. e; made = λ j k e. e }) (λ ids w. w)
event_later core s listed (Close x) v ok = later_from core s (happens core s (Close x)) refl (record { names = λ x n e. e; made = λ j k e. e }) (λ ids w. w)
event_later core s listed (Strike n) v ok = later_from core s (happens core s (Strike n)) refl (record { names = λ x n e. e; made = λ j k e. e }) (λ ids w. w)
event_later core s listed (Learn how ls) v ok = later_from core s (happens core s (Learn how ls)) refl (record { names = λ x n e. e; made = λ j k e. e }) (λ ids w. w)
event_later core s listed (Justify patterns ls) v ok = later_from core s (happens core s (Justify patterns ls)) refl (record { names = λ x n e. e; made = λ j k e. e }) (λ ids w. w)
event_later core s listed (Keep n) v ok = later_from core s (happens core s (Keep n)) refl (record { names = λ x n e. e; made = λ j k e. e }) (λ ids w. w)
event_later core s listed (CallWide x) v ok = later_from core s (happens core s (CallWide x)) refl (record { names = λ x n e. e; made = λ j k e. e }) (λ ids w. w)
event_later core s listed (Back l) v ok = later_from core s (happens core s (Back l)) refl (record { names = λ x n e. e; made = λ j k e. e }) (λ ids w. w)
event_later core s listed (Show ids) v ok = later_from core s (happens core s (Show ids)) refl (record { names = λ x n e. e; made = λ j k e. e }) (λ k w. elim w [ inl i ↦ inl (inr i) | inr i ↦ inr i ])
event_later core s listed (Pass ids) v ok = later_from core s (happens core s (Pass ids)) refl (record { names = λ x n e. e; made = λ j k e. e }) (λ k w. elim w [ inl i ↦ inl i | inr i ↦ inr (inr i) ])

-- the first events of a legal journal are one
pub legal_before : {N A K : Type 0} (core : Rules N A K) (listed : List (List A)) (journal later : List (Event A K)) → Legal core listed (later ++ journal) → Legal core listed journal
legal_before core listed journal [] h = h
legal_before core listed journal (e ∷ later) h = legal_before core listed journal later h.0

-- a legal journal that goes on leads to a later state
pub journal_later : {N A K : Type 0} (core : Rules N A K) (listed : List (List A)) (journal later : List (Event A K)) → Legal core listed (later ++ journal)
    → Later core (replay core journal) (replay core (later ++ journal))
journal_later core listed journal [] h = later_same core (replay core journal)
journal_later core listed journal (e ∷ later) h =
    later_trans core (replay core journal) (replay core (later ++ journal)) (happens core (replay core (later ++ journal)) e)
    (journal_later core listed journal later h.0)
    (event_later core (replay core (later ++ journal)) listed e (legal_safe core listed (later ++ journal) h.0).valid h.1)
