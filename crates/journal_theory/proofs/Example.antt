-- The events of the worked example are a legal journal.
use Rattle.std.proofs.Common.{◌≡◌, ℕ, suc, zero, ◌+◌, ◌⊎◌, true, false, List, [], ◌∷◌, ◌++◌, refl, sym, ◌∙◌, ap, subst, inl, inr, arith}
use Rattle.std.specs.Prelude.{Option, Some, None, nat_eq, slice_get}
use Rattle.lists.specs.Lists.{◌∈◌, SameSet}
use Rattle.search_values.specs.declared.entry.Why.TheVariants.{Given, Closed}
use Rattle.search_values.specs.declared.entry.Entry.{Entry}
use Rattle.search_values.specs.Values.{Value, True, MustBe, False, Lit, lit, value_of, Holds, back_to, HasClosed, before_closed}
use Rattle.search_values.specs.Nogoods.{IsStruck}
use Rattle.search_values.specs.Instances.{Plain, Instance, IsHead}
use Rattle.search_values.specs.Tables.{Made}
use Rattle.search_values.specs.Ids.{AtomNode, Named, BodyOf}
use Rattle.journal_theory.specs.States.{State, IsUp, IsActive, IsMade, IsStuck, IsFull, AreTrueUserAtoms}
use Rattle.alpha_outside.specs.Preds.{pred_eq}
use Rattle.journal_theory.specs.Covers.{has_false_body, IsCover, for_stuck, MayJustify}
use Rattle.journal_theory.specs.Events.{Justified, Enumerated, Event, NameAtom, NameBody, Make, Put, Choose, Strike, Learn, Justify, Back, Show, NoneStuck, Allowed}
use Rattle.journal_theory.specs.Journals.{replay, Legal}
use Rattle.alpha_outside.specs.declared.event.Event as outside
use Rattle.alpha_outside.specs.declared.event.Event.TheVariants as say
use Rattle.alpha_outside.specs.declared.pred.Pred.TheVariants.{User}
use Rattle.alpha_outside.specs.declared.maker.Maker.TheVariants as maker
use Rattle.journal_theory.specs.Journals.{SaysAll}
use Rattle.journal_theory.specs.Examples.{example_instance, example_rules, of_a, ExampleIsLegal}
use Rattle.journal_theory.proofs.Stack.{since_closed}
use Rattle.journal_theory.proofs.Deciding.{none_struck, none_unit, none_active, is_new, none_must, left_only, left_second, left_first, rises_pair}

-- the instances over ids
abbrev made_a : Made ℕ
made_a = record { maker = 0; inst = record { kind = Plain 0; pos = []; neg = 1 ∷ [] }; body = Some 2 }

abbrev made_b : Made ℕ
made_b = record { maker = 1; inst = record { kind = Plain 1; pos = []; neg = 0 ∷ [] }; body = Some 3 }

-- the journal after so many events
abbrev journal_0 : List (Event ℕ ℕ)
journal_0 = []

abbrev journal_1 : List (Event ℕ ℕ)
journal_1 = NameAtom 0 ∷ journal_0

abbrev journal_2 : List (Event ℕ ℕ)
journal_2 = NameAtom 1 ∷ journal_1

abbrev journal_3 : List (Event ℕ ℕ)
journal_3 = NameBody ∷ journal_2

abbrev journal_4 : List (Event ℕ ℕ)
journal_4 = Make made_a ∷ journal_3

abbrev journal_5 : List (Event ℕ ℕ)
journal_5 = NameBody ∷ journal_4

abbrev journal_6 : List (Event ℕ ℕ)
journal_6 = Make made_b ∷ journal_5

abbrev journal_7 : List (Event ℕ ℕ)
journal_7 = Choose 2 true ∷ journal_6

abbrev journal_8 : List (Event ℕ ℕ)
journal_8 = Put 1 False 1 ∷ journal_7

abbrev journal_9 : List (Event ℕ ℕ)
journal_9 = Put 0 True 2 ∷ journal_8

abbrev journal_10 : List (Event ℕ ℕ)
journal_10 = Put 3 False 4 ∷ journal_9

abbrev journal_11 : List (Event ℕ ℕ)
journal_11 = Show (0 ∷ []) ∷ journal_10

abbrev journal_12 : List (Event ℕ ℕ)
journal_12 = Learn Enumerated (lit 2 true ∷ []) ∷ journal_11

abbrev journal_13 : List (Event ℕ ℕ)
journal_13 = Back 0 ∷ journal_12

abbrev journal_14 : List (Event ℕ ℕ)
journal_14 = Put 2 False 6 ∷ journal_13

abbrev journal_15 : List (Event ℕ ℕ)
journal_15 = Put 1 MustBe 0 ∷ journal_14

abbrev journal_16 : List (Event ℕ ℕ)
journal_16 = Choose 3 true ∷ journal_15

abbrev journal_17 : List (Event ℕ ℕ)
journal_17 = Put 1 True 5 ∷ journal_16

abbrev journal_18 : List (Event ℕ ℕ)
journal_18 = Put 0 False 4 ∷ journal_17

abbrev journal_19 : List (Event ℕ ℕ)
journal_19 = Show (1 ∷ []) ∷ journal_18

abbrev journal_20 : List (Event ℕ ℕ)
journal_20 = Learn Enumerated (lit 3 true ∷ []) ∷ journal_19

abbrev journal_21 : List (Event ℕ ℕ)
journal_21 = Back 0 ∷ journal_20

abbrev journal_22 : List (Event ℕ ℕ)
journal_22 = Put 3 False 7 ∷ journal_21

abbrev journal_23 : List (Event ℕ ℕ)
journal_23 = Put 0 MustBe 3 ∷ journal_22

abbrev journal_24 : List (Event ℕ ℕ)
journal_24 = Justify (of_a ∷ []) (lit 0 true ∷ lit 2 false ∷ []) ∷ journal_23

abbrev journal_25 : List (Event ℕ ℕ)
journal_25 = Strike 8 ∷ journal_24

-- and the state that it leads to
abbrev state_0 : State (Unit {0}) ℕ ℕ
state_0 = replay example_rules journal_0

abbrev state_1 : State (Unit {0}) ℕ ℕ
state_1 = replay example_rules journal_1

abbrev state_2 : State (Unit {0}) ℕ ℕ
state_2 = replay example_rules journal_2

abbrev state_3 : State (Unit {0}) ℕ ℕ
state_3 = replay example_rules journal_3

abbrev state_4 : State (Unit {0}) ℕ ℕ
state_4 = replay example_rules journal_4

abbrev state_5 : State (Unit {0}) ℕ ℕ
state_5 = replay example_rules journal_5

abbrev state_6 : State (Unit {0}) ℕ ℕ
state_6 = replay example_rules journal_6

abbrev state_7 : State (Unit {0}) ℕ ℕ
state_7 = replay example_rules journal_7

abbrev state_8 : State (Unit {0}) ℕ ℕ
state_8 = replay example_rules journal_8

abbrev state_9 : State (Unit {0}) ℕ ℕ
state_9 = replay example_rules journal_9

abbrev state_10 : State (Unit {0}) ℕ ℕ
state_10 = replay example_rules journal_10

abbrev state_11 : State (Unit {0}) ℕ ℕ
state_11 = replay example_rules journal_11

abbrev state_12 : State (Unit {0}) ℕ ℕ
state_12 = replay example_rules journal_12

abbrev state_13 : State (Unit {0}) ℕ ℕ
state_13 = replay example_rules journal_13

abbrev state_14 : State (Unit {0}) ℕ ℕ
state_14 = replay example_rules journal_14

abbrev state_15 : State (Unit {0}) ℕ ℕ
state_15 = replay example_rules journal_15

abbrev state_16 : State (Unit {0}) ℕ ℕ
state_16 = replay example_rules journal_16

abbrev state_17 : State (Unit {0}) ℕ ℕ
state_17 = replay example_rules journal_17

abbrev state_18 : State (Unit {0}) ℕ ℕ
state_18 = replay example_rules journal_18

abbrev state_19 : State (Unit {0}) ℕ ℕ
state_19 = replay example_rules journal_19

abbrev state_20 : State (Unit {0}) ℕ ℕ
state_20 = replay example_rules journal_20

abbrev state_21 : State (Unit {0}) ℕ ℕ
state_21 = replay example_rules journal_21

abbrev state_22 : State (Unit {0}) ℕ ℕ
state_22 = replay example_rules journal_22

abbrev state_23 : State (Unit {0}) ℕ ℕ
state_23 = replay example_rules journal_23

abbrev state_24 : State (Unit {0}) ℕ ℕ
state_24 = replay example_rules journal_24

abbrev state_25 : State (Unit {0}) ℕ ℕ
state_25 = replay example_rules journal_25

-- every instance is made where both are
due : (m : ℕ) (i : Instance ℕ) → example_instance m ≡ Some i → (s : State (Unit {0}) ℕ ℕ) → s.made ≡ made_a ∷ made_b ∷ [] → IsMade example_rules s m
due zero i e s made = (made_a, subst (λ ks. made_a ∈ ks) (sym made) (inl refl), refl)
due (suc zero) i e s made = (made_b, subst (λ ks. made_b ∈ ks) (sym made) (inr (inl refl)), refl)
due (suc (suc m)) i e s made = cc

-- the values of the four atoms, where all have one
abbrev AllValued : List Entry → Type 0
AllValued stack = ((v : Value) × (value_of stack 0 ≡ Some v)) × ((v : Value) × (value_of stack 1 ≡ Some v)) × ((v : Value) × (value_of stack 2 ≡ Some v)) × ((v : Value) × (value_of stack 3 ≡ Some v))

-- what the ids stand for
abbrev the_names : List (AtomNode ℕ)
the_names = Named 0 ∷ Named 1 ∷ BodyOf 0 ∷ BodyOf 1 ∷ []

-- each id that stands for something has a value
valued : (stack : List Entry) → AllValued stack → (x : ℕ) (n : AtomNode ℕ) → slice_get the_names x ≡ Some n → (v : Value) × (value_of stack x ≡ Some v)
valued stack all zero n e = all.0
valued stack all (suc zero) n e = all.1
valued stack all (suc (suc zero)) n e = all.2
valued stack all (suc (suc (suc zero))) n e = all.3
valued stack all (suc (suc (suc (suc x)))) n e = cc

-- only the first two ids are names
named_cases : (x a : ℕ) → slice_get the_names x ≡ Some (Named a) → ((x ≡ 0) × (a ≡ 0)) ⊎ ((x ≡ 1) × (a ≡ 1))
named_cases zero a e = inl (refl, cc)
named_cases (suc zero) a e = inr (refl, cc)
named_cases (suc (suc zero)) a e = cc
named_cases (suc (suc (suc zero))) a e = cc
named_cases (suc (suc (suc (suc x)))) a e = cc

-- b is not named yet
not_named_b : (x : ℕ) → ¬ (slice_get {X = AtomNode ℕ} (Named 0 ∷ []) x ≡ Some (Named 1))
not_named_b zero e = (let w : ◌≡◌ {A = ℕ} 0 1 = cc in cc)
not_named_b (suc x) e = cc

-- the first body is not named yet
not_pending_a : (x : ℕ) → ¬ (slice_get {X = AtomNode ℕ} (Named 0 ∷ Named 1 ∷ []) x ≡ Some (BodyOf 0))
not_pending_a zero e = cc
not_pending_a (suc zero) e = cc
not_pending_a (suc (suc x)) e = cc

-- the second body is not named yet
not_pending_b : (x : ℕ) → ¬ (slice_get {X = AtomNode ℕ} (Named 0 ∷ Named 1 ∷ BodyOf 0 ∷ []) x ≡ Some (BodyOf 1))
not_pending_b zero e = cc
not_pending_b (suc zero) e = cc
not_pending_b (suc (suc zero)) e = (let w : ◌≡◌ {A = ℕ} 0 1 = cc in cc)
not_pending_b (suc (suc (suc x))) e = cc

-- nothing is stuck where nothing has a value
none_stuck_at_first : (s : State (Unit {0}) ℕ ℕ) → s.stack ≡ [] → NoneStuck example_rules s
none_stuck_at_first s e x stuck = (let w : value_of [] x ≡ Some MustBe = subst (λ z. value_of z x ≡ Some MustBe) e stuck.must_be in cc)

-- the second instance is not made yet
made_a_only : ¬ IsMade example_rules state_5 1
made_a_only (k, inl e, same) = (let w : nat_eq 0 1 ≡ true = subst (λ (z : Made ℕ). nat_eq z.maker 1 ≡ true) e same in cc)
made_a_only (k, inr none, same) = none

-- the first body is active
active_a : IsActive state_6 made_a 2
active_a = record { has_body = refl; not_yet = inl refl; pos_true = λ p i. absurd i; neg_not_up = λ n i up. let w = up.1 in cc }

-- the second body is active
active_b : IsActive state_15 made_b 3
active_b = record { has_body = refl; not_yet = inl refl; pos_true = λ p i. absurd i; neg_not_up = not_up }
  where
    not_up : (n : ℕ) → n ∈ (0 ∷ []) → ¬ IsUp state_15 n
    not_up n (inl e) up = (let w : value_of (State.stack state_15) 0 ≡ Some up.0 = subst (λ z. value_of (State.stack state_15) z ≡ Some up.0) e up.1 in cc)
    not_up n (inr z) up = z

-- nothing is closed
none_closed : ¬ HasClosed (State.stack state_15)
none_closed (e, inl q, (reason, w)) = (let f : Closed reason ≡ Given 0 = sym w ∙ ap (λ (z : Entry). z.why) q in cc)
none_closed (e, inr (inl q), (reason, w)) = (let f : Closed reason ≡ Given 6 = sym w ∙ ap (λ (z : Entry). z.why) q in cc)
none_closed (e, inr (inr z), w) = z

-- so nothing is stuck
none_stuck_then : NoneStuck example_rules state_15
none_stuck_then x stuck = elim stuck.why [
  | inl settled ↦ settled.none_active made_b (inr (inl refl)) 3 active_b
  | inr since ↦ none_closed (since_closed (State.stack state_15) x since)
]

-- the state is full
full_first : IsFull example_rules state_10
full_first = record {
  all_valued = valued (State.stack state_10) ((True, refl), (False, refl), (True, refl), (False, refl));
  none_must_be = none_must (State.stack state_10) refl;
  none_struck = none_struck (State.stack state_10) (State.nogoods state_10) refl;
  none_due = λ m i e up. due m i e state_10 refl;
  none_waiting = λ x a n up. refl;
}

-- the true atoms are a alone
atoms_first : AreTrueUserAtoms example_rules state_10 (0 ∷ [])
atoms_first = record {
  all_there = λ x a n user v. elim (named_cases x a n) [
    | inl w ↦ inl w.0
    | inr w ↦ (let f : value_of (State.stack state_10) 1 ≡ Some True = subst (λ z. value_of (State.stack state_10) z ≡ Some True) w.0 v in cc)
  ];
  each_true = λ x i. elim i [ inl e ↦ (0, ap (slice_get the_names) e, refl, ap (value_of (State.stack state_10)) e) | inr z ↦ absurd z ];
  atoms = 0 ∷ [];
  names = (refl, tt);
  ordered = refl;
}

-- the state is full again
full_second : IsFull example_rules state_18
full_second = record {
  all_valued = valued (State.stack state_18) ((False, refl), (True, refl), (False, refl), (True, refl));
  none_must_be = none_must (State.stack state_18) refl;
  none_struck = none_struck (State.stack state_18) (State.nogoods state_18) refl;
  none_due = λ m i e up. due m i e state_18 refl;
  none_waiting = λ x a n up. refl;
}

-- the true atoms are b alone
atoms_second : AreTrueUserAtoms example_rules state_18 (1 ∷ [])
atoms_second = record {
  all_there = λ x a n user v. elim (named_cases x a n) [
    | inl w ↦ (let f : value_of (State.stack state_18) 0 ≡ Some True = subst (λ z. value_of (State.stack state_18) z ≡ Some True) w.0 v in cc)
    | inr w ↦ inl w.0
  ];
  each_true = λ x i. elim i [ inl e ↦ (1, ap (slice_get the_names) e, refl, ap (value_of (State.stack state_18)) e) | inr z ↦ absurd z ];
  atoms = 1 ∷ [];
  names = (refl, tt);
  ordered = refl;
}

-- it is another set
other_set : (earlier : List ℕ) → earlier ∈ ((0 ∷ []) ∷ []) → ¬ SameSet (1 ∷ []) earlier
other_set earlier (inl e) same = elim (subst (λ z. 1 ∈ z) e (same.to 1 (inl refl))) [ inl q ↦ cc | inr z ↦ z ]
other_set earlier (inr z) same = z

-- a is stuck
stuck_a : IsStuck example_rules state_23 0
stuck_a = record {
  named = (0, refl);
  must_be = refl;
  none_struck = none_struck (State.stack state_23) (State.nogoods state_23) refl;
  none_unit = none_unit (State.stack state_23) (State.nogoods state_23) refl;
  why = inl (record {
    none_struck = none_struck (State.stack state_23) (State.nogoods state_23) refl;
    none_unit = none_unit (State.stack state_23) (State.nogoods state_23) refl;
    none_active = none_active state_23 refl;
    none_due = λ m i e up. due m i e state_23 refl;
    none_waiting = λ x a n up. refl;
  });
}

-- the rule for a has a false body, so the pattern of a is a cover with that literal
cover_a : IsCover example_rules state_23 (of_a ∷ []) (lit 2 false ∷ [])
cover_a n c ext zero i made a covers head = has_false_body made_a 2 (inl refl) refl refl (inl refl)
cover_a n c ext (suc zero) i made a (inl covers) head =
    let same : record { kind = Plain 1; pos = []; neg = 0 ∷ [] } ≡ i = cc in
    let e : 1 ≡ a = subst (λ (z : Instance ℕ). IsHead z.kind a) (sym same) head in
    let f : pred_eq (User false (97 ∷ []) 0) (User false ((97 + 1) ∷ []) 0) ≡ true = subst (λ z. pred_eq (User false (97 ∷ []) 0) (User false ((97 + z) ∷ []) 0) ≡ true) (sym e) covers.0 in
    cc
cover_a n c ext (suc zero) i made a (inr none) head = absurd none
cover_a n c ext (suc (suc m)) i made a covers head = cc

-- so {T a, F body} is justified for it
justified_a : MayJustify example_rules state_23 (of_a ∷ []) (lit 0 true ∷ lit 2 false ∷ [])
justified_a = record {
  id = 0;
  wanted = for_stuck refl stuck_a;
  atom = 0;
  named = refl;
  first = of_a;
  others = [];
  patterns_are = refl;
  covered = (refl, (λ x i. absurd i));
  reasons = lit 2 false ∷ [];
  lits_are = refl;
  before = λ l i. elim i [ inl e ↦ subst (λ (z : Lit). Holds (before_closed (State.stack state_23)) z) (sym e) (False, refl, refl) | inr z ↦ absurd z ];
  covers = cover_a;
}

-- the nogood just learned is struck
struck_a : IsStruck (State.stack state_24) (record { lits = lit 0 true ∷ lit 2 false ∷ []; head = None })
struck_a l (inl e) = subst (λ (z : Lit). Holds (State.stack state_24) z) (sym e) (MustBe, refl, refl)
struck_a l (inr (inl e)) = subst (λ (z : Lit). Holds (State.stack state_24) z) (sym e) (False, refl, refl)
struck_a l (inr (inr z)) = absurd z

-- the instances over atoms
abbrev made_a_atoms : Instance ℕ
made_a_atoms = record { kind = Plain 0; pos = []; neg = 1 ∷ [] }

abbrev made_b_atoms : Instance ℕ
made_b_atoms = record { kind = Plain 1; pos = []; neg = 0 ∷ [] }

-- each event may come
allowed_0 : Allowed example_rules [] state_0 (NameAtom 0)
allowed_0 = (refl, (λ x e. cc), refl)

allowed_1 : Allowed example_rules [] state_1 (NameAtom 1)
allowed_1 = (refl, not_named_b, refl)

allowed_2 : Allowed example_rules [] state_2 (NameBody)
allowed_2 = (refl, not_pending_a, none_stuck_at_first state_2 refl)

allowed_3 : Allowed example_rules [] state_3 (Make made_a)
allowed_3 = (refl, (λ m. absurd m.1), (made_a_atoms, refl, record { kind = refl; pos = tt; neg = (refl, tt) }), (λ p i. absurd i), (2, refl), refl, none_stuck_at_first state_3 refl)

allowed_4 : Allowed example_rules [] state_4 (NameBody)
allowed_4 = (refl, not_pending_b, none_stuck_at_first state_4 refl)

allowed_5 : Allowed example_rules [] state_5 (Make made_b)
allowed_5 = (refl, made_a_only, (made_b_atoms, refl, record { kind = refl; pos = tt; neg = (refl, tt) }), (λ p i. absurd i), (3, refl), refl, none_stuck_at_first state_5 refl)

allowed_6 : Allowed example_rules [] state_6 (Choose 2 true)
allowed_6 = (refl, none_struck (State.stack state_6) (State.nogoods state_6) refl, none_unit (State.stack state_6) (State.nogoods state_6) refl, (made_a, inl refl, active_a), (λ e. cc), none_stuck_at_first state_6 refl)

allowed_7 : Allowed example_rules [] state_7 (Put 1 False 1)
allowed_7 = (refl, (record { lits = lit 2 true ∷ lit 1 true ∷ []; head = None }, refl, left_second (State.stack state_7) None (lit 2 true) (lit 1 true) (True, refl, refl) refl))

allowed_8 : Allowed example_rules [] state_8 (Put 0 True 2)
allowed_8 = (refl, (record { lits = lit 0 false ∷ lit 2 true ∷ []; head = Some 0 }, refl, rises_pair (State.stack state_8) 0 (lit 2 true) (inl refl) refl))

allowed_9 : Allowed example_rules [] state_9 (Put 3 False 4)
allowed_9 = (refl, (record { lits = lit 3 true ∷ lit 0 true ∷ []; head = None }, refl, left_first (State.stack state_9) None (lit 3 true) (lit 0 true) (True, refl, refl) refl))

allowed_10 : Allowed example_rules [] state_10 (Show (0 ∷ []))
allowed_10 = (refl, full_first, atoms_first, (λ atoms i. absurd i), (λ earlier i. absurd i))

allowed_11 : Allowed example_rules [] state_11 (Learn Enumerated (lit 2 true ∷ []))
allowed_11 = ((refl, refl, (λ e. cc)), is_new (State.nogoods state_11) (lit 2 true ∷ []) refl)

allowed_12 : Allowed example_rules [] state_12 (Back 0)
allowed_12 = (omega arith, (6, refl, (record { lits = lit 2 true ∷ []; head = None }, refl, (2, False, left_only [] None (lit 2 true) refl))))

allowed_13 : Allowed example_rules [] state_13 (Put 2 False 6)
allowed_13 = (refl, (record { lits = lit 2 true ∷ []; head = None }, refl, left_only (State.stack state_13) None (lit 2 true) refl))

allowed_14 : Allowed example_rules [] state_14 (Put 1 MustBe 0)
allowed_14 = (refl, (record { lits = lit 2 false ∷ lit 1 false ∷ []; head = Some 2 }, refl, (left_second (State.stack state_14) (Some 2) (lit 2 false) (lit 1 false) (False, refl, refl) refl, (λ r. let e : ◌≡◌ {A = Option ℕ} (Some 2) (Some 1) = r.heads in let w : ◌≡◌ {A = ℕ} 2 1 = cc in cc))))

allowed_15 : Allowed example_rules [] state_15 (Choose 3 true)
allowed_15 = (refl, none_struck (State.stack state_15) (State.nogoods state_15) refl, none_unit (State.stack state_15) (State.nogoods state_15) refl, (made_b, inr (inl refl), active_b), (λ e. cc), none_stuck_then)

allowed_16 : Allowed example_rules [] state_16 (Put 1 True 5)
allowed_16 = (refl, (record { lits = lit 1 false ∷ lit 3 true ∷ []; head = Some 1 }, refl, rises_pair (State.stack state_16) 1 (lit 3 true) (inr refl) refl))

allowed_17 : Allowed example_rules [] state_17 (Put 0 False 4)
allowed_17 = (refl, (record { lits = lit 3 true ∷ lit 0 true ∷ []; head = None }, refl, left_second (State.stack state_17) None (lit 3 true) (lit 0 true) (True, refl, refl) refl))

allowed_18 : Allowed example_rules [] state_18 (Show (1 ∷ []))
allowed_18 = (refl, full_second, atoms_second, (λ atoms i. absurd i), other_set)

allowed_19 : Allowed example_rules [] state_19 (Learn Enumerated (lit 3 true ∷ []))
allowed_19 = ((refl, refl, (λ e. cc)), is_new (State.nogoods state_19) (lit 3 true ∷ []) refl)

allowed_20 : Allowed example_rules [] state_20 (Back 0)
allowed_20 = (omega arith, (7, refl, (record { lits = lit 3 true ∷ []; head = None }, refl, (3, False, left_only (back_to 0 (State.stack state_20)) None (lit 3 true) refl))))

allowed_21 : Allowed example_rules [] state_21 (Put 3 False 7)
allowed_21 = (refl, (record { lits = lit 3 true ∷ []; head = None }, refl, left_only (State.stack state_21) None (lit 3 true) refl))

allowed_22 : Allowed example_rules [] state_22 (Put 0 MustBe 3)
allowed_22 = (refl, (record { lits = lit 3 false ∷ lit 0 false ∷ []; head = Some 3 }, refl, (left_second (State.stack state_22) (Some 3) (lit 3 false) (lit 0 false) (False, refl, refl) refl, (λ r. let e : ◌≡◌ {A = Option ℕ} (Some 3) (Some 0) = r.heads in let w : ◌≡◌ {A = ℕ} 3 0 = cc in cc))))

allowed_23 : Allowed example_rules [] state_23 (Justify (of_a ∷ []) (lit 0 true ∷ lit 2 false ∷ []))
allowed_23 = (justified_a, is_new (State.nogoods state_23) (lit 0 true ∷ lit 2 false ∷ []) refl)

allowed_24 : Allowed example_rules [] state_24 (Strike 8)
allowed_24 = (inr refl, (record { lits = lit 0 true ∷ lit 2 false ∷ []; head = None }, refl, struck_a))

-- so the journal is legal
legal_0 : Legal example_rules [] journal_0
legal_0 = tt

legal_1 : Legal example_rules [] journal_1
legal_1 = (legal_0, allowed_0)

legal_2 : Legal example_rules [] journal_2
legal_2 = (legal_1, allowed_1)

legal_3 : Legal example_rules [] journal_3
legal_3 = (legal_2, allowed_2)

legal_4 : Legal example_rules [] journal_4
legal_4 = (legal_3, allowed_3)

legal_5 : Legal example_rules [] journal_5
legal_5 = (legal_4, allowed_4)

legal_6 : Legal example_rules [] journal_6
legal_6 = (legal_5, allowed_5)

legal_7 : Legal example_rules [] journal_7
legal_7 = (legal_6, allowed_6)

legal_8 : Legal example_rules [] journal_8
legal_8 = (legal_7, allowed_7)

legal_9 : Legal example_rules [] journal_9
legal_9 = (legal_8, allowed_8)

legal_10 : Legal example_rules [] journal_10
legal_10 = (legal_9, allowed_9)

legal_11 : Legal example_rules [] journal_11
legal_11 = (legal_10, allowed_10)

legal_12 : Legal example_rules [] journal_12
legal_12 = (legal_11, allowed_11)

legal_13 : Legal example_rules [] journal_13
legal_13 = (legal_12, allowed_12)

legal_14 : Legal example_rules [] journal_14
legal_14 = (legal_13, allowed_13)

legal_15 : Legal example_rules [] journal_15
legal_15 = (legal_14, allowed_14)

legal_16 : Legal example_rules [] journal_16
legal_16 = (legal_15, allowed_15)

legal_17 : Legal example_rules [] journal_17
legal_17 = (legal_16, allowed_16)

legal_18 : Legal example_rules [] journal_18
legal_18 = (legal_17, allowed_17)

legal_19 : Legal example_rules [] journal_19
legal_19 = (legal_18, allowed_18)

legal_20 : Legal example_rules [] journal_20
legal_20 = (legal_19, allowed_19)

legal_21 : Legal example_rules [] journal_21
legal_21 = (legal_20, allowed_20)

legal_22 : Legal example_rules [] journal_22
legal_22 = (legal_21, allowed_21)

legal_23 : Legal example_rules [] journal_23
legal_23 = (legal_22, allowed_22)

legal_24 : Legal example_rules [] journal_24
legal_24 = (legal_23, allowed_23)

legal_25 : Legal example_rules [] journal_25
legal_25 = (legal_24, allowed_24)

-- and is what the events say
abbrev told_0 : List outside.Event
told_0 = []

abbrev told_1 : List outside.Event
told_1 = told_0 ++ say.Atom 0 (User false (97 ∷ []) 0) [] ∷ []

abbrev told_2 : List outside.Event
told_2 = told_1 ++ say.Atom 1 (User false (98 ∷ []) 0) [] ∷ []

abbrev told_3 : List outside.Event
told_3 = told_2 ++ say.Body 2 0 ∷ []

abbrev told_4 : List outside.Event
told_4 = told_3 ++ say.Made 0 (maker.Rule 0 []) ∷ []

abbrev told_5 : List outside.Event
told_5 = told_4 ++ say.Body 3 1 ∷ []

abbrev told_6 : List outside.Event
told_6 = told_5 ++ say.Made 1 (maker.Rule 1 []) ∷ []

abbrev told_7 : List outside.Event
told_7 = told_6 ++ say.Chosen 2 true ∷ []

abbrev told_8 : List outside.Event
told_8 = told_7 ++ say.Put 1 False 1 ∷ []

abbrev told_9 : List outside.Event
told_9 = told_8 ++ say.Put 0 True 2 ∷ []

abbrev told_10 : List outside.Event
told_10 = told_9 ++ say.Put 3 False 4 ∷ []

abbrev told_11 : List outside.Event
told_11 = told_10 ++ say.Shown (0 ∷ []) ∷ []

abbrev told_12 : List outside.Event
told_12 = told_11 ++ say.Learned 6 Enumerated (lit 2 true ∷ []) [] ∷ []

abbrev told_13 : List outside.Event
told_13 = told_12 ++ say.Back 0 ∷ []

abbrev told_14 : List outside.Event
told_14 = told_13 ++ say.Put 2 False 6 ∷ []

abbrev told_15 : List outside.Event
told_15 = told_14 ++ say.Put 1 MustBe 0 ∷ []

abbrev told_16 : List outside.Event
told_16 = told_15 ++ say.Chosen 3 true ∷ []

abbrev told_17 : List outside.Event
told_17 = told_16 ++ say.Put 1 True 5 ∷ []

abbrev told_18 : List outside.Event
told_18 = told_17 ++ say.Put 0 False 4 ∷ []

abbrev told_19 : List outside.Event
told_19 = told_18 ++ say.Shown (1 ∷ []) ∷ []

abbrev told_20 : List outside.Event
told_20 = told_19 ++ say.Learned 7 Enumerated (lit 3 true ∷ []) [] ∷ []

abbrev told_21 : List outside.Event
told_21 = told_20 ++ say.Back 0 ∷ []

abbrev told_22 : List outside.Event
told_22 = told_21 ++ say.Put 3 False 7 ∷ []

abbrev told_23 : List outside.Event
told_23 = told_22 ++ say.Put 0 MustBe 3 ∷ []

abbrev told_24 : List outside.Event
told_24 = told_23 ++ say.Learned 8 Justified (lit 0 true ∷ lit 2 false ∷ []) (of_a ∷ []) ∷ []

abbrev told_25 : List outside.Event
told_25 = told_24 ++ say.Struck 8 ∷ []

says_0 : SaysAll example_rules told_0 journal_0
says_0 = refl

says_1 : SaysAll example_rules told_1 journal_1
says_1 = (told_0, say.Atom 0 (User false (97 ∷ []) 0) [], refl, says_0, (refl, tt, (0, refl, refl)))

says_2 : SaysAll example_rules told_2 journal_2
says_2 = (told_1, say.Atom 1 (User false (98 ∷ []) 0) [], refl, says_1, (refl, tt, (1, refl, refl)))

says_3 : SaysAll example_rules told_3 journal_3
says_3 = (told_2, say.Body 2 0, refl, says_2, (refl, refl, refl))

says_4 : SaysAll example_rules told_4 journal_4
says_4 = (told_3, say.Made 0 (maker.Rule 0 []), refl, says_3, (refl, (made_a, refl, refl)))

says_5 : SaysAll example_rules told_5 journal_5
says_5 = (told_4, say.Body 3 1, refl, says_4, (refl, refl, refl))

says_6 : SaysAll example_rules told_6 journal_6
says_6 = (told_5, say.Made 1 (maker.Rule 1 []), refl, says_5, (refl, (made_b, refl, refl)))

says_7 : SaysAll example_rules told_7 journal_7
says_7 = (told_6, say.Chosen 2 true, refl, says_6, refl)

says_8 : SaysAll example_rules told_8 journal_8
says_8 = (told_7, say.Put 1 False 1, refl, says_7, refl)

says_9 : SaysAll example_rules told_9 journal_9
says_9 = (told_8, say.Put 0 True 2, refl, says_8, refl)

says_10 : SaysAll example_rules told_10 journal_10
says_10 = (told_9, say.Put 3 False 4, refl, says_9, refl)

says_11 : SaysAll example_rules told_11 journal_11
says_11 = (told_10, say.Shown (0 ∷ []), refl, says_10, refl)

says_12 : SaysAll example_rules told_12 journal_12
says_12 = (told_11, say.Learned 6 Enumerated (lit 2 true ∷ []) [], refl, says_11, (refl, inl (refl, refl)))

says_13 : SaysAll example_rules told_13 journal_13
says_13 = (told_12, say.Back 0, refl, says_12, refl)

says_14 : SaysAll example_rules told_14 journal_14
says_14 = (told_13, say.Put 2 False 6, refl, says_13, refl)

says_15 : SaysAll example_rules told_15 journal_15
says_15 = (told_14, say.Put 1 MustBe 0, refl, says_14, refl)

says_16 : SaysAll example_rules told_16 journal_16
says_16 = (told_15, say.Chosen 3 true, refl, says_15, refl)

says_17 : SaysAll example_rules told_17 journal_17
says_17 = (told_16, say.Put 1 True 5, refl, says_16, refl)

says_18 : SaysAll example_rules told_18 journal_18
says_18 = (told_17, say.Put 0 False 4, refl, says_17, refl)

says_19 : SaysAll example_rules told_19 journal_19
says_19 = (told_18, say.Shown (1 ∷ []), refl, says_18, refl)

says_20 : SaysAll example_rules told_20 journal_20
says_20 = (told_19, say.Learned 7 Enumerated (lit 3 true ∷ []) [], refl, says_19, (refl, inl (refl, refl)))

says_21 : SaysAll example_rules told_21 journal_21
says_21 = (told_20, say.Back 0, refl, says_20, refl)

says_22 : SaysAll example_rules told_22 journal_22
says_22 = (told_21, say.Put 3 False 7, refl, says_21, refl)

says_23 : SaysAll example_rules told_23 journal_23
says_23 = (told_22, say.Put 0 MustBe 3, refl, says_22, refl)

says_24 : SaysAll example_rules told_24 journal_24
says_24 = (told_23, say.Learned 8 Justified (lit 0 true ∷ lit 2 false ∷ []) (of_a ∷ []), refl, says_23, (refl, inr (refl, refl)))

says_25 : SaysAll example_rules told_25 journal_25
says_25 = (told_24, say.Struck 8, refl, says_24, refl)

-- the example
pub example_is_legal : ExampleIsLegal
example_is_legal = (journal_25, legal_25, says_25, refl, inl refl)
