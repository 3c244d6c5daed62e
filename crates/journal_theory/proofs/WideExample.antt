-- The events of the worked example that calls an atom wide are a legal journal where it is so, and none where nothing is.
use Rattle.std.proofs.Common.{◌≡◌, ℕ, ◌⊎◌, true, false, List, [], ◌∷◌, ◌++◌, refl, sym, ap, subst, inl, inr, arith}
use Rattle.std.specs.Prelude.{Some, None, slice_get}
use Rattle.lists.specs.Lists.{◌∈◌}
use Rattle.search_values.specs.Values.{True, MustBe, False, Lit, lit, value_of, Holds, HoldsFully}
use Rattle.search_values.specs.Nogoods.{IsStruck, Rises}
use Rattle.journal_theory.specs.States.{State, IsFull, AreTrueUserAtoms}
use Rattle.journal_theory.specs.Covers.{for_stuck}
use Rattle.journal_theory.specs.Events.{Decisions, Event, Put, Strike, Keep, Learn, CallWide, Back, Show, IsUnitAt, Allowed}
use Rattle.journal_theory.specs.Journals.{replay, Legal, SaysAll}
use Rattle.alpha_outside.specs.declared.event.Event as outside
use Rattle.alpha_outside.specs.declared.event.Event.TheVariants as say
use Rattle.journal_theory.specs.Examples.{closing_rules, WideIsLegal}
use Rattle.journal_theory.proofs.Deciding.{none_struck, is_new, none_must, left_only, left_second, rises_pair}
use Rattle.journal_theory.proofs.ClosingExample.{journal_8, state_8, legal_8, told_8, says_8, stuck_c, the_names, due, valued, named_cases}

-- the journal after so many events
abbrev journal_9 : List (Event ℕ ℕ)
journal_9 = CallWide 2 ∷ journal_8

abbrev journal_10 : List (Event ℕ ℕ)
journal_10 = Learn Decisions (lit 3 false ∷ []) ∷ journal_9

abbrev journal_11 : List (Event ℕ ℕ)
journal_11 = Strike 4 ∷ journal_10

abbrev journal_12 : List (Event ℕ ℕ)
journal_12 = Keep 4 ∷ journal_11

abbrev journal_13 : List (Event ℕ ℕ)
journal_13 = Back 0 ∷ journal_12

abbrev journal_14 : List (Event ℕ ℕ)
journal_14 = Put 3 MustBe 4 ∷ journal_13

abbrev journal_15 : List (Event ℕ ℕ)
journal_15 = Put 1 False 1 ∷ journal_14

abbrev journal_16 : List (Event ℕ ℕ)
journal_16 = Put 2 False 2 ∷ journal_15

abbrev journal_17 : List (Event ℕ ℕ)
journal_17 = Put 3 True 0 ∷ journal_16

abbrev journal_18 : List (Event ℕ ℕ)
journal_18 = Put 0 True 3 ∷ journal_17

abbrev journal_19 : List (Event ℕ ℕ)
journal_19 = Show (0 ∷ []) ∷ journal_18

-- and the state that it leads to
abbrev state_9 : State (Unit {0}) ℕ ℕ
state_9 = replay closing_rules journal_9

abbrev state_10 : State (Unit {0}) ℕ ℕ
state_10 = replay closing_rules journal_10

abbrev state_11 : State (Unit {0}) ℕ ℕ
state_11 = replay closing_rules journal_11

abbrev state_12 : State (Unit {0}) ℕ ℕ
state_12 = replay closing_rules journal_12

abbrev state_13 : State (Unit {0}) ℕ ℕ
state_13 = replay closing_rules journal_13

abbrev state_14 : State (Unit {0}) ℕ ℕ
state_14 = replay closing_rules journal_14

abbrev state_15 : State (Unit {0}) ℕ ℕ
state_15 = replay closing_rules journal_15

abbrev state_16 : State (Unit {0}) ℕ ℕ
state_16 = replay closing_rules journal_16

abbrev state_17 : State (Unit {0}) ℕ ℕ
state_17 = replay closing_rules journal_17

abbrev state_18 : State (Unit {0}) ℕ ℕ
state_18 = replay closing_rules journal_18

abbrev state_19 : State (Unit {0}) ℕ ℕ
state_19 = replay closing_rules journal_19

-- the nogood just learned is struck
struck : IsStruck (State.stack state_10) (record { lits = lit 3 false ∷ []; head = None })
struck l (inl e) = subst (λ (z : Lit). Holds (State.stack state_10) z) (sym e) (False, refl, refl)
struck l (inr z) = absurd z

-- and is unit where nothing is assigned
unit_below : IsUnitAt [] (State.nogoods state_12) 4
unit_below = (record { lits = lit 3 false ∷ []; head = None }, refl, (3, MustBe, (left_only [] None (lit 3 false) refl, (λ r. let e = r.heads in cc))))

-- the atoms of the body's instance are false, so the body rises
rises_body : Rises (State.stack state_16) (record { lits = lit 3 false ∷ lit 1 false ∷ lit 2 false ∷ []; head = Some 3 }) 3
rises_body = record { heads = refl; among = inl refl; not_yet = inr refl; others = others }
  where
    others : (l : Lit) → l ∈ (lit 3 false ∷ lit 1 false ∷ lit 2 false ∷ []) → (l ≡ lit 3 false) ⊎ HoldsFully (State.stack state_16) l
    others l (inl e) = inl e
    others l (inr (inl e)) = inr (subst (λ (z : Lit). HoldsFully (State.stack state_16) z) (sym e) refl)
    others l (inr (inr (inl e))) = inr (subst (λ (z : Lit). HoldsFully (State.stack state_16) z) (sym e) refl)
    others l (inr (inr (inr z))) = absurd z

-- the state is full
full : IsFull closing_rules state_18
full = record {
  all_valued = valued (State.stack state_18) ((True, refl), (False, refl), (False, refl), (True, refl));
  none_must_be = none_must (State.stack state_18) refl;
  none_struck = none_struck (State.stack state_18) (State.nogoods state_18) refl;
  none_due = λ m i e up. due m i e state_18 refl;
  none_waiting = λ x a n up. refl;
}

-- the true atoms are a alone
atoms_shown : AreTrueUserAtoms closing_rules state_18 (0 ∷ [])
atoms_shown = record {
  all_there = λ x a n user v. elim (named_cases x a n) [
    | inl w ↦ inl w
    | inr r ↦ elim r [
      | inl w ↦ (let f : value_of (State.stack state_18) 1 ≡ Some True = subst (λ z. value_of (State.stack state_18) z ≡ Some True) w v in cc)
      | inr w ↦ (let f : value_of (State.stack state_18) 2 ≡ Some True = subst (λ z. value_of (State.stack state_18) z ≡ Some True) w v in cc)
    ]
  ];
  each_true = λ x i. elim i [ inl e ↦ (0, ap (slice_get the_names) e, refl, ap (value_of (State.stack state_18)) e) | inr z ↦ absurd z ];
  atoms = 0 ∷ [];
  names = (refl, tt);
  ordered = refl;
}

-- each event may come
allowed_8 : Allowed closing_rules [] state_8 (CallWide 2)
allowed_8 = (for_stuck refl stuck_c, (λ e. cc))

allowed_9 : Allowed closing_rules [] state_9 (Learn Decisions (lit 3 false ∷ []))
allowed_9 = ((refl, refl), is_new (State.nogoods state_9) (lit 3 false ∷ []) refl)

allowed_10 : Allowed closing_rules [] state_10 (Strike 4)
allowed_10 = (inr refl, (record { lits = lit 3 false ∷ []; head = None }, refl, struck))

allowed_11 : Allowed closing_rules [] state_11 (Keep 4)
allowed_11 = (refl, (λ i. i), (0, omega arith, unit_below))

allowed_12 : Allowed closing_rules [] state_12 (Back 0)
allowed_12 = (omega arith, (4, refl, unit_below))

allowed_13 : Allowed closing_rules [] state_13 (Put 3 MustBe 4)
allowed_13 = (refl, (record { lits = lit 3 false ∷ []; head = None }, refl, (left_only (State.stack state_13) None (lit 3 false) refl, (λ r. let e = r.heads in cc))))

allowed_14 : Allowed closing_rules [] state_14 (Put 1 False 1)
allowed_14 = (refl, (record { lits = lit 3 true ∷ lit 1 true ∷ []; head = None }, refl, left_second (State.stack state_14) None (lit 3 true) (lit 1 true) (MustBe, refl, refl) refl))

allowed_15 : Allowed closing_rules [] state_15 (Put 2 False 2)
allowed_15 = (refl, (record { lits = lit 3 true ∷ lit 2 true ∷ []; head = None }, refl, left_second (State.stack state_15) None (lit 3 true) (lit 2 true) (MustBe, refl, refl) refl))

allowed_16 : Allowed closing_rules [] state_16 (Put 3 True 0)
allowed_16 = (refl, (record { lits = lit 3 false ∷ lit 1 false ∷ lit 2 false ∷ []; head = Some 3 }, refl, rises_body))

allowed_17 : Allowed closing_rules [] state_17 (Put 0 True 3)
allowed_17 = (refl, (record { lits = lit 0 false ∷ lit 3 true ∷ []; head = Some 0 }, refl, rises_pair (State.stack state_17) 0 (lit 3 true) (inl refl) refl))

allowed_18 : Allowed closing_rules [] state_18 (Show (0 ∷ []))
allowed_18 = (refl, full, atoms_shown, (λ atoms i. absurd i), (λ earlier i. absurd i))

-- so the journal is legal
legal_9 : Legal closing_rules [] journal_9
legal_9 = (legal_8, allowed_8)

legal_10 : Legal closing_rules [] journal_10
legal_10 = (legal_9, allowed_9)

legal_11 : Legal closing_rules [] journal_11
legal_11 = (legal_10, allowed_10)

legal_12 : Legal closing_rules [] journal_12
legal_12 = (legal_11, allowed_11)

legal_13 : Legal closing_rules [] journal_13
legal_13 = (legal_12, allowed_12)

legal_14 : Legal closing_rules [] journal_14
legal_14 = (legal_13, allowed_13)

legal_15 : Legal closing_rules [] journal_15
legal_15 = (legal_14, allowed_14)

legal_16 : Legal closing_rules [] journal_16
legal_16 = (legal_15, allowed_15)

legal_17 : Legal closing_rules [] journal_17
legal_17 = (legal_16, allowed_16)

legal_18 : Legal closing_rules [] journal_18
legal_18 = (legal_17, allowed_17)

legal_19 : Legal closing_rules [] journal_19
legal_19 = (legal_18, allowed_18)

-- and is what the events say
abbrev told_9 : List outside.Event
told_9 = told_8 ++ say.Wide 2 256 ∷ []

abbrev told_10 : List outside.Event
told_10 = told_9 ++ say.Learned 4 Decisions (lit 3 false ∷ []) [] ∷ []

abbrev told_11 : List outside.Event
told_11 = told_10 ++ say.Struck 4 ∷ []

abbrev told_12 : List outside.Event
told_12 = told_11 ++ say.Kept 4 ∷ []

abbrev told_13 : List outside.Event
told_13 = told_12 ++ say.Back 0 ∷ []

abbrev told_14 : List outside.Event
told_14 = told_13 ++ say.Put 3 MustBe 4 ∷ []

abbrev told_15 : List outside.Event
told_15 = told_14 ++ say.Put 1 False 1 ∷ []

abbrev told_16 : List outside.Event
told_16 = told_15 ++ say.Put 2 False 2 ∷ []

abbrev told_17 : List outside.Event
told_17 = told_16 ++ say.Put 3 True 0 ∷ []

abbrev told_18 : List outside.Event
told_18 = told_17 ++ say.Put 0 True 3 ∷ []

abbrev told_19 : List outside.Event
told_19 = told_18 ++ say.Shown (0 ∷ []) ∷ []

says_9 : SaysAll closing_rules told_9 journal_9
says_9 = (told_8, say.Wide 2 256, refl, says_8, (refl, refl))

says_10 : SaysAll closing_rules told_10 journal_10
says_10 = (told_9, say.Learned 4 Decisions (lit 3 false ∷ []) [], refl, says_9, (refl, inl (refl, refl)))

says_11 : SaysAll closing_rules told_11 journal_11
says_11 = (told_10, say.Struck 4, refl, says_10, refl)

says_12 : SaysAll closing_rules told_12 journal_12
says_12 = (told_11, say.Kept 4, refl, says_11, refl)

says_13 : SaysAll closing_rules told_13 journal_13
says_13 = (told_12, say.Back 0, refl, says_12, refl)

says_14 : SaysAll closing_rules told_14 journal_14
says_14 = (told_13, say.Put 3 MustBe 4, refl, says_13, refl)

says_15 : SaysAll closing_rules told_15 journal_15
says_15 = (told_14, say.Put 1 False 1, refl, says_14, refl)

says_16 : SaysAll closing_rules told_16 journal_16
says_16 = (told_15, say.Put 2 False 2, refl, says_15, refl)

says_17 : SaysAll closing_rules told_17 journal_17
says_17 = (told_16, say.Put 3 True 0, refl, says_16, refl)

says_18 : SaysAll closing_rules told_18 journal_18
says_18 = (told_17, say.Put 0 True 3, refl, says_17, refl)

says_19 : SaysAll closing_rules told_19 journal_19
says_19 = (told_18, say.Shown (0 ∷ []), refl, says_18, refl)

-- the example
pub wide_is_legal : WideIsLegal
wide_is_legal = (journal_19, legal_19, (refl, tt), says_19, refl, inr (refl, refl))
