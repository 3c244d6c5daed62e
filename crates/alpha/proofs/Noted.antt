-- What the events of a run tell, from the journal of its search.
use Rattle.std.proofs.Common.{◌≡◌, inl, inr, refl, sym, ap, subst, ◌∙◌, ℕ, ℤ, ◌+◌, arith, List, [], ◌∷◌, ◌++◌, Option}
use Rattle.std.specs.Prelude.{reverse}
use Rattle.std.proofs.lemmas.List.{reverse-append}
use Rattle.alpha_outside.specs.declared.kinds.ArithOp.{ArithOp}
use Rattle.alpha_outside.specs.declared.event.Event as outside
use Rattle.alpha_outside.specs.declared.event.Event.TheVariants as say
use Rattle.journal_theory.specs.States.{State}
use Rattle.journal_theory.specs.Journals.{Says, SaysAll, replay}
use Rattle.journal_theory.specs.Events.{happens}
use Rattle.search_values.specs.Instances.{Rules}
use Rattle.core_meaning.specs.Atoms.{GroundAtom}
use Rattle.search_rules.specs.Tests.{Maker}
use Rattle.search_rules.specs.Rules.{Numbers, Reached}
use Rattle.search_journals.specs.Search.{TraceChange, Journaled}
use Rattle.search_journals.specs.Journals.{Step, strikes, makes, AreLinesOf}
use Rattle.alpha.specs.Journals.{Task, core_for, rules_for, state_after, WasTold, IsSaid, shown_sets, struck_events, made_events, used_by, used_in, AreShownLines, HasSpent, AreSpent, HasEnded, AreEnded, HasOverflow, AreOverflow, HasTooLarge, AreTooLarge}
use Rattle.alpha.specs.Promises.{IsNoted, begun}
use Rattle.alpha.specs.declared.status.BudgetKind.{BudgetKind}
use Rattle.alpha.specs.declared.status.BudgetKind.TheVariants as budget
use Rattle.alpha.proofs.Appended.{noted_is, adds_nothing}

-- ---- event by event

-- the sets that one event shows
shown_by : outside.Event → List (List ℕ)
shown_by (say.Shown ids) = ids ∷ []
shown_by _ = []

shown_sets-cons : (e : outside.Event) (events : List outside.Event) → shown_sets (e ∷ events) ≡ shown_by e ++ shown_sets events
unfolding shown_by
shown_sets-cons (say.Term id node) events = refl
shown_sets-cons (say.Atom id pred args) events = refl
shown_sets-cons (say.Body id inst) events = refl
shown_sets-cons (say.Numbered atom number) events = refl
shown_sets-cons (say.Made inst maker) events = refl
shown_sets-cons (say.Put atom value by) events = refl
shown_sets-cons (say.Chosen body up) events = refl
shown_sets-cons (say.Closed atom) events = refl
shown_sets-cons (say.Struck nogood) events = refl
shown_sets-cons (say.Kept nogood) events = refl
shown_sets-cons (say.Learned nogood how lits cover) events = refl
shown_sets-cons (say.Back level) events = refl
shown_sets-cons (say.Wide atom count) events = refl
shown_sets-cons (say.Shown ids) events = refl
shown_sets-cons (say.Passed ids) events = refl

-- how many nogoods one event strikes
struck_by : outside.Event → ℕ
struck_by (say.Struck nogood) = 1
struck_by _ = 0

struck_events-cons : (e : outside.Event) (events : List outside.Event) → struck_events (e ∷ events) ≡ struck_events events + struck_by e
unfolding struck_by
struck_events-cons (say.Term id node) events = omega arith
struck_events-cons (say.Atom id pred args) events = omega arith
struck_events-cons (say.Body id inst) events = omega arith
struck_events-cons (say.Numbered atom number) events = omega arith
struck_events-cons (say.Made inst maker) events = omega arith
struck_events-cons (say.Put atom value by) events = omega arith
struck_events-cons (say.Chosen body up) events = omega arith
struck_events-cons (say.Closed atom) events = omega arith
struck_events-cons (say.Struck nogood) events = refl
struck_events-cons (say.Kept nogood) events = omega arith
struck_events-cons (say.Learned nogood how lits cover) events = omega arith
struck_events-cons (say.Back level) events = omega arith
struck_events-cons (say.Wide atom count) events = omega arith
struck_events-cons (say.Shown ids) events = omega arith
struck_events-cons (say.Passed ids) events = omega arith

-- how many instances one event makes
made_by_one : outside.Event → ℕ
made_by_one (say.Made inst maker) = 1
made_by_one _ = 0

made_events-cons : (e : outside.Event) (events : List outside.Event) → made_events (e ∷ events) ≡ made_events events + made_by_one e
unfolding made_by_one
made_events-cons (say.Term id node) events = omega arith
made_events-cons (say.Atom id pred args) events = omega arith
made_events-cons (say.Body id inst) events = omega arith
made_events-cons (say.Numbered atom number) events = omega arith
made_events-cons (say.Made inst maker) events = refl
made_events-cons (say.Put atom value by) events = omega arith
made_events-cons (say.Chosen body up) events = omega arith
made_events-cons (say.Closed atom) events = omega arith
made_events-cons (say.Struck nogood) events = omega arith
made_events-cons (say.Kept nogood) events = omega arith
made_events-cons (say.Learned nogood how lits cover) events = omega arith
made_events-cons (say.Back level) events = omega arith
made_events-cons (say.Wide atom count) events = omega arith
made_events-cons (say.Shown ids) events = omega arith
made_events-cons (say.Passed ids) events = omega arith

-- ---- the newest event

list_assoc : (xs ys zs : List (List ℕ)) → (xs ++ ys) ++ zs ≡ xs ++ (ys ++ zs)
list_assoc [] ys zs = refl
list_assoc (x ∷ xs) ys zs = ap (λ l. x ∷ l) (list_assoc xs ys zs)

no_sets : (xs : List (List ℕ)) → xs ++ [] ≡ xs
no_sets [] = refl
no_sets (x ∷ xs) = ap (λ l. x ∷ l) (no_sets xs)

shown_sets-push : (events : List outside.Event) (last : outside.Event) → shown_sets (events ++ last ∷ []) ≡ shown_sets events ++ shown_by last
shown_sets-push [] last = shown_sets-cons last [] ∙ no_sets (shown_by last)
shown_sets-push (e ∷ events) last =
    shown_sets-cons e (events ++ last ∷ [])
    ∙ (ap (λ xs. shown_by e ++ xs) (shown_sets-push events last)
    ∙ (sym (list_assoc (shown_by e) (shown_sets events) (shown_by last)) ∙ ap (λ xs. xs ++ shown_by last) (sym (shown_sets-cons e events))))

struck_events-push : (events : List outside.Event) (last : outside.Event) → struck_events (events ++ last ∷ []) ≡ struck_events events + struck_by last
struck_events-push [] last = struck_events-cons last []
struck_events-push (e ∷ events) last =
    let first = struck_events-cons e (events ++ last ∷ []) in
    let rest = struck_events-push events last in
    let same = struck_events-cons e events in
    omega arith

made_events-push : (events : List outside.Event) (last : outside.Event) → made_events (events ++ last ∷ []) ≡ made_events events + made_by_one last
made_events-push [] last = made_events-cons last []
made_events-push (e ∷ events) last =
    let first = made_events-cons e (events ++ last ∷ []) in
    let rest = made_events-push events last in
    let same = made_events-cons e events in
    omega arith

-- ---- what one event says

module _ (rules : Rules Numbers GroundAtom Maker) where
  -- the sets shown, in order
  in_order : Reached → List (List ℕ)
  in_order s = reverse (State.shown s)

  shown_next : (s : Reached) (ids : List ℕ) → reverse (ids ∷ State.shown s) ≡ reverse (State.shown s) ++ ids ∷ []
  shown_next s ids = reverse-append (ids ∷ []) (State.shown s)

  says_shown : (s : Reached) (last : outside.Event) (e : Step) → Says rules s last e → reverse (State.shown (happens rules s e)) ≡ reverse (State.shown s) ++ shown_by last
  unfolding shown_by
  says_shown s (say.Term id node) e is = rw is.1 (sym (no_sets (reverse (State.shown s))))
  says_shown s (say.Atom id pred args) e is = rw is.2.2 (sym (no_sets (reverse (State.shown s))))
  says_shown s (say.Body id inst) e is = rw is.2 (sym (no_sets (reverse (State.shown s))))
  says_shown s (say.Numbered atom number) e is = rw is.1 (sym (no_sets (reverse (State.shown s))))
  says_shown s (say.Made inst maker) e is = rw is.1.2 (sym (no_sets (reverse (State.shown s))))
  says_shown s (say.Put atom value by) e is = rw is (sym (no_sets (reverse (State.shown s))))
  says_shown s (say.Chosen body up) e is = rw is (sym (no_sets (reverse (State.shown s))))
  says_shown s (say.Closed atom) e is = rw is (sym (no_sets (reverse (State.shown s))))
  says_shown s (say.Struck nogood) e is = rw is (sym (no_sets (reverse (State.shown s))))
  says_shown s (say.Kept nogood) e is = rw is (sym (no_sets (reverse (State.shown s))))
  says_shown s (say.Learned nogood how lits cover) e is = elim is.1 [
    | inl chosen ↦ rw chosen.1 (sym (no_sets (reverse (State.shown s))))
    | inr covered ↦ rw covered.1 (sym (no_sets (reverse (State.shown s))))
  ]
  says_shown s (say.Back level) e is = rw is (sym (no_sets (reverse (State.shown s))))
  says_shown s (say.Wide atom count) e is = rw is.1 (sym (no_sets (reverse (State.shown s))))
  says_shown s (say.Shown ids) e is = rw is (shown_next s ids)
  says_shown s (say.Passed ids) e is = rw is (sym (no_sets (reverse (State.shown s))))

  says_struck : (s : Reached) (last : outside.Event) (e : Step) (earlier : List Step) → Says rules s last e → strikes (e ∷ earlier) ≡ strikes earlier + struck_by last
  unfolding struck_by
  says_struck s (say.Term id node) e earlier is = rw is.1 (omega arith)
  says_struck s (say.Atom id pred args) e earlier is = rw is.2.2 (omega arith)
  says_struck s (say.Body id inst) e earlier is = rw is.2 (omega arith)
  says_struck s (say.Numbered atom number) e earlier is = rw is.1 (omega arith)
  says_struck s (say.Made inst maker) e earlier is = rw is.1.2 (omega arith)
  says_struck s (say.Put atom value by) e earlier is = rw is (omega arith)
  says_struck s (say.Chosen body up) e earlier is = rw is (omega arith)
  says_struck s (say.Closed atom) e earlier is = rw is (omega arith)
  says_struck s (say.Struck nogood) e earlier is = rw is refl
  says_struck s (say.Kept nogood) e earlier is = rw is (omega arith)
  says_struck s (say.Learned nogood how lits cover) e earlier is = elim is.1 [ inl chosen ↦ rw chosen.1 (omega arith) | inr covered ↦ rw covered.1 (omega arith) ]
  says_struck s (say.Back level) e earlier is = rw is (omega arith)
  says_struck s (say.Wide atom count) e earlier is = rw is.1 (omega arith)
  says_struck s (say.Shown ids) e earlier is = rw is (omega arith)
  says_struck s (say.Passed ids) e earlier is = rw is (omega arith)

  says_made : (s : Reached) (last : outside.Event) (e : Step) (earlier : List Step) → Says rules s last e → makes (e ∷ earlier) ≡ makes earlier + made_by_one last
  unfolding made_by_one
  says_made s (say.Term id node) e earlier is = rw is.1 (omega arith)
  says_made s (say.Atom id pred args) e earlier is = rw is.2.2 (omega arith)
  says_made s (say.Body id inst) e earlier is = rw is.2 (omega arith)
  says_made s (say.Numbered atom number) e earlier is = rw is.1 (omega arith)
  says_made s (say.Made inst maker) e earlier is = rw is.1.2 refl
  says_made s (say.Put atom value by) e earlier is = rw is (omega arith)
  says_made s (say.Chosen body up) e earlier is = rw is (omega arith)
  says_made s (say.Closed atom) e earlier is = rw is (omega arith)
  says_made s (say.Struck nogood) e earlier is = rw is (omega arith)
  says_made s (say.Kept nogood) e earlier is = rw is (omega arith)
  says_made s (say.Learned nogood how lits cover) e earlier is = elim is.1 [ inl chosen ↦ rw chosen.1 (omega arith) | inr covered ↦ rw covered.1 (omega arith) ]
  says_made s (say.Back level) e earlier is = rw is (omega arith)
  says_made s (say.Wide atom count) e earlier is = rw is.1 (omega arith)
  says_made s (say.Shown ids) e earlier is = rw is (omega arith)
  says_made s (say.Passed ids) e earlier is = rw is (omega arith)

  -- ---- a whole journal

  -- the sets of the `Shown` events are those that the replay has as shown
  shown_is : (E : List outside.Event) (journal : List Step) → SaysAll rules E journal → shown_sets E ≡ reverse (State.shown (replay rules journal))
  shown_is E [] says = ap shown_sets says
  shown_is E (e ∷ earlier) says =
      ap shown_sets says.2
      ∙ (shown_sets-push says.0 says.1
      ∙ (ap (λ xs. xs ++ shown_by says.1) (shown_is says.0 earlier says.3) ∙ sym (says_shown (replay rules earlier) says.1 e says.4)))

  struck_is : (E : List outside.Event) (journal : List Step) → SaysAll rules E journal → struck_events E ≡ strikes journal
  struck_is E [] says = ap struck_events says
  struck_is E (e ∷ earlier) says =
      ap struck_events says.2
      ∙ (struck_events-push says.0 says.1
      ∙ (ap (λ n. n + struck_by says.1) (struck_is says.0 earlier says.3) ∙ sym (says_struck (replay rules earlier) says.1 e earlier says.4)))

  made_is : (E : List outside.Event) (journal : List Step) → SaysAll rules E journal → made_events E ≡ makes journal
  made_is E [] says = ap made_events says
  made_is E (e ∷ earlier) says =
      ap made_events says.2
      ∙ (made_events-push says.0 says.1
      ∙ (ap (λ n. n + made_by_one says.1) (made_is says.0 earlier says.3) ∙ sym (says_made (replay rules earlier) says.1 e earlier says.4)))

  -- so the events used as much of a budget as the journal did
  used_is : (kind : BudgetKind) (E : List outside.Event) (journal : List Step) → SaysAll rules E journal → used_by kind E ≡ used_in kind journal
  used_is budget.Conflicts E journal says = struck_is E journal says
  used_is budget.Instances E journal says = made_is E journal says

-- ---- of a run

-- where nothing was noted
pub nothing_journaled : (k : Task) (trace : TraceChange) → trace.told' ≡ trace.told → Journaled (core_for k.program) k.listed trace []
nothing_journaled k trace kept = record {
  journal = [];
  legal = tt;
  tells = ([], adds_nothing trace.told trace.told' kept, refl);
  shown = tt;
}

-- where nothing was noted the events are none
pub nothing_said : (k : Task) (E : List outside.Event) → E ≡ [] → AreShownLines k E []
nothing_said k E none = record {
  journal = [];
  said = record { legal = tt; says = none };
  lines_are = subst (λ sets. AreLinesOf (state_after k []) sets []) (sym (ap shown_sets none)) tt;
}

-- what a journal that was told says
pub told_by : (k : Task) (trace : TraceChange) (lines : List (List ℕ)) (j : Journaled (core_for k.program) k.listed trace lines)
    → WasTold k trace j.journal
told_by k trace lines j = record { legal = j.legal; tells = j.tells }

module _ (k : Task) (name : Option (List ℕ)) (trace : TraceChange) (E : List outside.Event) (is : IsNoted trace.told trace.told' E) where
  -- the trace from where its file was named on
  abbrev from_name : TraceChange
  from_name = record trace { told = begun name trace.told }

  -- the events say the journal that was told
  said : (journal : List Step) → WasTold k from_name journal → IsSaid k E journal
  said journal w = record {
    legal = w.legal;
    says = subst (λ events. SaysAll (rules_for k.program) events journal)
        (noted_is trace.told trace.told' name E w.tells.0 is w.tells.1) w.tells.2;
  }

  pub shown_lines : (lines : List (List ℕ)) → Journaled (core_for k.program) k.listed from_name lines → AreShownLines k E lines
  shown_lines lines j =
      let says = said j.journal (told_by k from_name lines j) in
      record {
        journal = j.journal;
        said = says;
        lines_are = subst (λ sets. AreLinesOf (state_after k j.journal) sets lines)
            (sym (shown_is (rules_for k.program) E j.journal says.says)) j.shown;
      }

  pub spent : (kind : BudgetKind) (number : ℕ) → HasSpent k from_name kind number → AreSpent k E kind number
  spent kind number h =
      let says = said h.journal h.told in
      record {
        journal = h.journal;
        said = says;
        count = used_is (rules_for k.program) kind E h.journal says.says ∙ h.used;
        one_more = h.one_more;
      }

  pub has_ended : HasEnded k from_name → AreEnded k E
  has_ended h = record { journal = h.journal; said = said h.journal h.told; ended = h.ended }

  pub too_large : (line size : ℕ) → HasTooLarge k from_name line size → AreTooLarge k E line size
  too_large line size h = record { journal = h.journal; said = said h.journal h.told; too_large = h.too_large }

  pub overflow : (line : ℕ) (op : ArithOp) (left right : ℤ) → HasOverflow k from_name line op left right → AreOverflow k E line op left right
  overflow line op left right h = record { journal = h.journal; said = said h.journal h.told; overflow = h.overflow }
