-- The events of the worked example that closes an atom are a legal journal.
use Rattle.std.proofs.Common.{◌≡◌, ℕ, suc, zero, ◌+◌, ◌⊎◌, true, false, List, [], ◌∷◌, ◌++◌, refl, sym, ◌∙◌, ap, subst, inl, inr, arith}
use Rattle.std.specs.Prelude.{Option, Some, None, nat_eq, slice_get}
use Rattle.lists.specs.Lists.{◌∈◌, ◌⊆◌, SameSet}
use Rattle.alpha_outside.specs.Preds.{pred_eq}
use Rattle.search_values.specs.declared.entry.Why.TheVariants.{Given, Closed}
use Rattle.search_values.specs.declared.entry.Entry.{Entry}
use Rattle.search_values.specs.Values.{Value, True, MustBe, False, Lit, lit, value_of, Holds, HoldsFully, entry_on, is_closed, IsClosed}
use Rattle.search_values.specs.Nogoods.{Nogood, IsStruck, IsLeft, Rises}
use Rattle.search_values.specs.Instances.{Plain, Instance, IsHead}
use Rattle.search_values.specs.Tables.{Made}
use Rattle.journal_theory.specs.Resolution.{IsResolvent, Follows, is_nogood, resolved, IsReasonOf, itself, by_reason, IsAnalysed}
use Rattle.search_values.specs.Ids.{AtomNode, Named, BodyOf}
use Rattle.journal_theory.specs.States.{State, IsName, IsUp, IsActive, IsMade, IsSettled, IsStuck, IsFull, AreTrueUserAtoms}
use Rattle.journal_theory.specs.Covers.{IsCover, for_stuck, for_closed, MayJustify}
use Rattle.journal_theory.specs.Events.{Analysed, Justified, Event, NameAtom, NameBody, Make, Put, Choose, Close, Strike, Learn, Justify, Back, Show, NoneStuck, Allowed}
use Rattle.journal_theory.specs.Journals.{replay, Legal}
use Rattle.alpha_outside.specs.declared.event.Event as outside
use Rattle.alpha_outside.specs.declared.event.Event.TheVariants as say
use Rattle.alpha_outside.specs.declared.pred.Pred.TheVariants.{User}
use Rattle.alpha_outside.specs.declared.maker.Maker.TheVariants as maker
use Rattle.journal_theory.specs.Journals.{SaysAll}
use Rattle.journal_theory.specs.Examples.{closing_instance, closing_rules, of_b, of_c, ClosingIsLegal, ClosedIsRefused}
use Rattle.search_values.proofs.Basics.{and_left, nat_eq-true}
use Rattle.journal_theory.proofs.Learning.{closed_is_not_learned, unimplied_is_not_learned}
use Rattle.journal_theory.proofs.Deciding.{none_struck, none_unit, none_active, is_new, none_must, left_only, rises_pair}

-- the instance over atoms
abbrev atoms_one : Instance ℕ
atoms_one = record { kind = Plain 0; pos = []; neg = 1 ∷ 2 ∷ [] }

-- the instance over ids
abbrev pub made_one : Made ℕ
made_one = record { maker = 0; inst = atoms_one; body = Some 3 }

-- the journal after so many events
abbrev pub journal_0 : List (Event ℕ ℕ)
journal_0 = []

abbrev pub journal_1 : List (Event ℕ ℕ)
journal_1 = NameAtom 0 ∷ journal_0

abbrev pub journal_2 : List (Event ℕ ℕ)
journal_2 = NameAtom 1 ∷ journal_1

abbrev pub journal_3 : List (Event ℕ ℕ)
journal_3 = NameAtom 2 ∷ journal_2

abbrev pub journal_4 : List (Event ℕ ℕ)
journal_4 = NameBody ∷ journal_3

abbrev pub journal_5 : List (Event ℕ ℕ)
journal_5 = Make made_one ∷ journal_4

abbrev pub journal_6 : List (Event ℕ ℕ)
journal_6 = Choose 3 false ∷ journal_5

abbrev pub journal_7 : List (Event ℕ ℕ)
journal_7 = Close 1 ∷ journal_6

abbrev pub journal_8 : List (Event ℕ ℕ)
journal_8 = Put 2 MustBe 0 ∷ journal_7

abbrev pub journal_9 : List (Event ℕ ℕ)
journal_9 = Justify (of_c ∷ []) (lit 2 true ∷ []) ∷ journal_8

abbrev pub journal_10 : List (Event ℕ ℕ)
journal_10 = Strike 4 ∷ journal_9

abbrev pub journal_11 : List (Event ℕ ℕ)
journal_11 = Justify (of_b ∷ []) (lit 1 true ∷ []) ∷ journal_10

abbrev pub journal_12 : List (Event ℕ ℕ)
journal_12 = Learn Analysed (lit 3 false ∷ []) ∷ journal_11

abbrev pub journal_13 : List (Event ℕ ℕ)
journal_13 = Back 0 ∷ journal_12

abbrev pub journal_14 : List (Event ℕ ℕ)
journal_14 = Put 2 False 4 ∷ journal_13

abbrev pub journal_15 : List (Event ℕ ℕ)
journal_15 = Put 1 False 5 ∷ journal_14

abbrev pub journal_16 : List (Event ℕ ℕ)
journal_16 = Put 3 True 0 ∷ journal_15

abbrev pub journal_17 : List (Event ℕ ℕ)
journal_17 = Put 0 True 3 ∷ journal_16

abbrev pub journal_18 : List (Event ℕ ℕ)
journal_18 = Show (0 ∷ []) ∷ journal_17

-- and the state that it leads to
abbrev pub state_0 : State (Unit {0}) ℕ ℕ
state_0 = replay closing_rules journal_0

abbrev pub state_1 : State (Unit {0}) ℕ ℕ
state_1 = replay closing_rules journal_1

abbrev pub state_2 : State (Unit {0}) ℕ ℕ
state_2 = replay closing_rules journal_2

abbrev pub state_3 : State (Unit {0}) ℕ ℕ
state_3 = replay closing_rules journal_3

abbrev pub state_4 : State (Unit {0}) ℕ ℕ
state_4 = replay closing_rules journal_4

abbrev pub state_5 : State (Unit {0}) ℕ ℕ
state_5 = replay closing_rules journal_5

abbrev pub state_6 : State (Unit {0}) ℕ ℕ
state_6 = replay closing_rules journal_6

abbrev pub state_7 : State (Unit {0}) ℕ ℕ
state_7 = replay closing_rules journal_7

abbrev pub state_8 : State (Unit {0}) ℕ ℕ
state_8 = replay closing_rules journal_8

abbrev pub state_9 : State (Unit {0}) ℕ ℕ
state_9 = replay closing_rules journal_9

abbrev pub state_10 : State (Unit {0}) ℕ ℕ
state_10 = replay closing_rules journal_10

abbrev pub state_11 : State (Unit {0}) ℕ ℕ
state_11 = replay closing_rules journal_11

abbrev pub state_12 : State (Unit {0}) ℕ ℕ
state_12 = replay closing_rules journal_12

abbrev pub state_13 : State (Unit {0}) ℕ ℕ
state_13 = replay closing_rules journal_13

abbrev pub state_14 : State (Unit {0}) ℕ ℕ
state_14 = replay closing_rules journal_14

abbrev pub state_15 : State (Unit {0}) ℕ ℕ
state_15 = replay closing_rules journal_15

abbrev pub state_16 : State (Unit {0}) ℕ ℕ
state_16 = replay closing_rules journal_16

abbrev pub state_17 : State (Unit {0}) ℕ ℕ
state_17 = replay closing_rules journal_17

abbrev pub state_18 : State (Unit {0}) ℕ ℕ
state_18 = replay closing_rules journal_18

-- what the ids stand for
abbrev pub the_names : List (AtomNode ℕ)
the_names = Named 0 ∷ Named 1 ∷ Named 2 ∷ BodyOf 0 ∷ []

-- the one instance is made
pub due : (m : ℕ) (i : Instance ℕ) → closing_instance m ≡ Some i → (s : State (Unit {0}) ℕ ℕ) → s.made ≡ made_one ∷ [] → IsMade closing_rules s m
due zero i e s made = (made_one, subst (λ ks. made_one ∈ ks) (sym made) (inl refl), refl)
due (suc m) i e s made = cc

-- each of the four atoms has a value
abbrev pub AllValued : List Entry → Type 0
AllValued stack = ((v : Value) × (value_of stack 0 ≡ Some v)) × ((v : Value) × (value_of stack 1 ≡ Some v)) × ((v : Value) × (value_of stack 2 ≡ Some v)) × ((v : Value) × (value_of stack 3 ≡ Some v))

-- each id that stands for something has a value
pub valued : (stack : List Entry) → AllValued stack → (x : ℕ) (n : AtomNode ℕ) → slice_get the_names x ≡ Some n → (v : Value) × (value_of stack x ≡ Some v)
valued stack all zero n e = all.0
valued stack all (suc zero) n e = all.1
valued stack all (suc (suc zero)) n e = all.2
valued stack all (suc (suc (suc zero))) n e = all.3
valued stack all (suc (suc (suc (suc x)))) n e = cc

-- the first three ids are names
pub named_cases : (x a : ℕ) → slice_get the_names x ≡ Some (Named a) → (x ≡ 0) ⊎ ((x ≡ 1) ⊎ (x ≡ 2))
named_cases zero a e = inl refl
named_cases (suc zero) a e = inr (inl refl)
named_cases (suc (suc zero)) a e = inr (inr refl)
named_cases (suc (suc (suc zero))) a e = cc
named_cases (suc (suc (suc (suc x)))) a e = cc

-- b is not named yet
not_named_b : (x : ℕ) → ¬ (slice_get {X = AtomNode ℕ} (Named 0 ∷ []) x ≡ Some (Named 1))
not_named_b zero e = (let w : ◌≡◌ {A = ℕ} 0 1 = cc in cc)
not_named_b (suc x) e = cc

-- c is not named yet
not_named_c : (x : ℕ) → ¬ (slice_get {X = AtomNode ℕ} (Named 0 ∷ Named 1 ∷ []) x ≡ Some (Named 2))
not_named_c zero e = (let w : ◌≡◌ {A = ℕ} 0 2 = cc in cc)
not_named_c (suc zero) e = (let w : ◌≡◌ {A = ℕ} 1 2 = cc in cc)
not_named_c (suc (suc x)) e = cc

-- the body is not named yet
not_pending : (x : ℕ) → ¬ (slice_get {X = AtomNode ℕ} (Named 0 ∷ Named 1 ∷ Named 2 ∷ []) x ≡ Some (BodyOf 0))
not_pending zero e = cc
not_pending (suc zero) e = cc
not_pending (suc (suc zero)) e = cc
not_pending (suc (suc (suc x))) e = cc

-- nothing is stuck where nothing is must-be-true
pub none_stuck : (s : State (Unit {0}) ℕ ℕ) → ((x : ℕ) → ¬ (value_of s.stack x ≡ Some MustBe)) → NoneStuck closing_rules s
none_stuck s none x stuck = none x stuck.must_be

-- of two unassigned atoms none is up
not_up : (s : State (Unit {0}) ℕ ℕ) → value_of s.stack 1 ≡ None → value_of s.stack 2 ≡ None → (n : ℕ) → n ∈ (1 ∷ 2 ∷ []) → ¬ IsUp s n
not_up s one two n (inl e) up = (let w : value_of s.stack 1 ≡ Some up.0 = subst (λ z. value_of s.stack z ≡ Some up.0) e up.1 in cc)
not_up s one two n (inr (inl e)) up = (let w : value_of s.stack 2 ≡ Some up.0 = subst (λ z. value_of s.stack z ≡ Some up.0) e up.1 in cc)
not_up s one two n (inr (inr z)) up = z

-- the body is active
active_first : IsActive state_5 made_one 3
active_first = record { has_body = refl; not_yet = inl refl; pos_true = λ p i. absurd i; neg_not_up = not_up state_5 refl refl }

-- the state is settled
settled : IsSettled closing_rules state_6
settled = record { none_struck = none_struck (State.stack state_6) (State.nogoods state_6) refl; none_unit = none_unit (State.stack state_6) (State.nogoods state_6) refl; none_active = none_active state_6 refl; none_due = λ m i e up. due m i e state_6 refl; none_waiting = λ x a n up. refl }

-- nothing is must-be-true
none_must_named : (y a : ℕ) → IsName state_6 y a → ¬ (value_of (State.stack state_6) y ≡ Some MustBe)
none_must_named y a n = none_must (State.stack state_6) refl y

-- b and the body are false, so c is left
left_c : IsLeft (State.stack state_7) (record { lits = lit 3 false ∷ lit 1 false ∷ lit 2 false ∷ []; head = Some 3 }) (lit 2 false)
left_c = record { among = inr (inr (inl refl)); unassigned = refl; others = others }
  where
    others : (l : Lit) → l ∈ (lit 3 false ∷ lit 1 false ∷ lit 2 false ∷ []) → (l ≡ lit 2 false) ⊎ Holds (State.stack state_7) l
    others l (inl e) = inr (subst (λ (z : Lit). Holds (State.stack state_7) z) (sym e) (False, refl, refl))
    others l (inr (inl e)) = inr (subst (λ (z : Lit). Holds (State.stack state_7) z) (sym e) (False, refl, refl))
    others l (inr (inr (inl e))) = inl e
    others l (inr (inr (inr z))) = absurd z

-- c became must-be-true above the closed entry of b, and is stuck
pub stuck_c : IsStuck closing_rules state_8 2
stuck_c = record {
  named = (2, refl);
  must_be = refl;
  none_struck = none_struck (State.stack state_8) (State.nogoods state_8) refl;
  none_unit = none_unit (State.stack state_8) (State.nogoods state_8) refl;
  why = inr (inl (refl, refl, (entry_on (State.stack state_6) 1 False (Closed None), inl refl, (None, refl))));
}

-- no instance has this head
no_head : (b : ℕ) → ¬ (0 ≡ b) → (n : Unit {0}) (m : ℕ) (i : Instance ℕ) → closing_instance m ≡ Some i → IsHead i.kind b → ⊥
no_head b other n zero i made head = let same : atoms_one ≡ i = cc in other (subst (λ (z : Instance ℕ). IsHead z.kind b) (sym same) head)
no_head b other n (suc m) i made head = cc

-- a pattern of one letter covers its atom alone
letter_is : (x a : ℕ) → pred_eq (User false (x ∷ []) 0) (User false ((97 + a) ∷ []) 0) ≡ true → x ≡ 97 + a
letter_is x a h = nat_eq-true x (97 + a) (and_left (nat_eq x (97 + a)) true h)

-- no instance derives c, so its pattern is a cover with no literals
cover_c : IsCover closing_rules state_8 (of_c ∷ []) []
cover_c n c ext m i made a (inl covers) head = absurd (no_head a (λ e. let w = letter_is 99 a covers.0 in not_so a e w) n m i made head)
  where
    not_so : (a : ℕ) → 0 ≡ a → 99 ≡ 97 + a → ⊥
    not_so a e w = omega (e, w, arith)
cover_c n c ext m i made a (inr none) head = absurd none

-- so {T c} is justified for it
justified_c : MayJustify closing_rules state_8 (of_c ∷ []) (lit 2 true ∷ [])
justified_c = record {
  id = 2;
  wanted = for_stuck refl stuck_c;
  atom = 2;
  named = refl;
  first = of_c;
  others = [];
  patterns_are = refl;
  covered = (refl, (λ x i. absurd i));
  reasons = [];
  lits_are = refl;
  before = λ l i. absurd i;
  covers = cover_c;
}

-- the nogood just learned is struck
struck_c : IsStruck (State.stack state_9) (record { lits = lit 2 true ∷ []; head = None })
struck_c l (inl e) = subst (λ (z : Lit). Holds (State.stack state_9) z) (sym e) (MustBe, refl, refl)
struck_c l (inr z) = absurd z

-- ---- the closed atom b stands in a resolvent of the struck nogood

-- literals of different atoms differ
apart : (l k : Lit) → ¬ (l.atom ≡ k.atom) → ¬ (l ≡ k)
apart l k other e = other (ap (λ (z : Lit). z.atom) e)

-- c is resolved away with the nogood that gave it
without_c : IsResolvent (lit 2 true) (lit 2 true ∷ []) (lit 3 false ∷ lit 1 false ∷ lit 2 false ∷ []) (lit 3 false ∷ lit 1 false ∷ [])
without_c = record { among = inl refl; denied = inr (inr (inl refl)); from = from; left = left; added = added }
  where
    from : (k : Lit) → k ∈ (lit 3 false ∷ lit 1 false ∷ []) → ((k ∈ (lit 2 true ∷ [])) × (¬ (k ≡ lit 2 true))) ⊎ ((k ∈ (lit 3 false ∷ lit 1 false ∷ lit 2 false ∷ [])) × (¬ (k ≡ lit 2 false)))
    from k (inl e) = inr (inl e, (λ w. apart (lit 3 false) (lit 2 false) (λ q. cc) (sym e ∙ w)))
    from k (inr (inl e)) = inr (inr (inl e), (λ w. apart (lit 1 false) (lit 2 false) (λ q. cc) (sym e ∙ w)))
    from k (inr (inr z)) = absurd z

    left : (k : Lit) → k ∈ (lit 2 true ∷ []) → (¬ (k ≡ lit 2 true)) → k ∈ (lit 3 false ∷ lit 1 false ∷ [])
    left k (inl e) other = absurd (other e)
    left k (inr z) other = absurd z

    added : (k : Lit) → k ∈ (lit 3 false ∷ lit 1 false ∷ lit 2 false ∷ []) → (¬ (k ≡ lit 2 false)) → k ∈ (lit 3 false ∷ lit 1 false ∷ [])
    added k (inl e) other = inl e
    added k (inr (inl e)) other = inr (inl e)
    added k (inr (inr (inl e))) other = absurd (other e)
    added k (inr (inr (inr z))) other = absurd z

-- the entries of c, of b, and of the body
abbrev entry_c : Entry
entry_c = record { atom = 2; value = MustBe; level = 2; why = Given 0 }

abbrev entry_b : Entry
entry_b = record { atom = 1; value = False; level = 2; why = Closed None }

-- nogood 0 is the reason of c
reason_c : IsReasonOf (State.nogoods state_10) (State.stack state_10) 2 (record { lits = lit 3 false ∷ lit 1 false ∷ lit 2 false ∷ []; head = Some 3 })
reason_c = record { entry = entry_c; among = inl refl; atom_is = refl; id = 0; why = inl refl; there = refl }

-- no instance derives b, so its pattern is a cover with no literals
cover_b : IsCover closing_rules state_10 (of_b ∷ []) []
cover_b n c ext m i made a (inl covers) head = absurd (no_head a (λ e. let w = letter_is 98 a covers.0 in not_so a e w) n m i made head)
  where
    not_so : (a : ℕ) → 0 ≡ a → 98 ≡ 97 + a → ⊥
    not_so a e w = omega (e, w, arith)
cover_b n c ext m i made a (inr none) head = absurd none

-- so {T b} is justified for it
justified_b : MayJustify closing_rules state_10 (of_b ∷ []) (lit 1 true ∷ [])
justified_b = record {
  id = 1;
  wanted = for_closed 4 (record { lits = lit 2 true ∷ []; head = None }) (lit 3 false ∷ lit 1 false ∷ []) refl refl (entry_b, inr (inl refl), refl, refl)
      (by_reason (lit 2 true) (record { lits = lit 3 false ∷ lit 1 false ∷ lit 2 false ∷ []; head = Some 3 }) (lit 2 true ∷ []) (lit 3 false ∷ lit 1 false ∷ []) (itself (lit 2 true ∷ []) (record { to = λ x j. j; back = λ x j. j })) reason_c without_c)
      (inr (inl refl));
  atom = 1;
  named = refl;
  first = of_b;
  others = [];
  patterns_are = refl;
  covered = (refl, (λ x i. absurd i));
  reasons = [];
  lits_are = refl;
  before = λ l i. absurd i;
  covers = cover_b;
}

-- b is resolved away with its reason
without_b : IsResolvent (lit 1 false) (lit 3 false ∷ lit 1 false ∷ []) (lit 1 true ∷ []) (lit 3 false ∷ [])
without_b = record { among = inr (inl refl); denied = inl refl; from = from; left = left; added = added }
  where
    from : (k : Lit) → k ∈ (lit 3 false ∷ []) → ((k ∈ (lit 3 false ∷ lit 1 false ∷ [])) × (¬ (k ≡ lit 1 false))) ⊎ ((k ∈ (lit 1 true ∷ [])) × (¬ (k ≡ lit 1 true)))
    from k (inl e) = inl (inl e, (λ w. apart (lit 3 false) (lit 1 false) (λ q. cc) (sym e ∙ w)))
    from k (inr z) = absurd z

    left : (k : Lit) → k ∈ (lit 3 false ∷ lit 1 false ∷ []) → (¬ (k ≡ lit 1 false)) → k ∈ (lit 3 false ∷ [])
    left k (inl e) other = inl e
    left k (inr (inl e)) other = absurd (other e)
    left k (inr (inr z)) other = absurd z

    added : (k : Lit) → k ∈ (lit 1 true ∷ []) → (¬ (k ≡ lit 1 true)) → k ∈ (lit 3 false ∷ [])
    added k (inl e) other = absurd (other e)
    added k (inr z) other = absurd z

-- a list is the same set as itself
same_here : (ls : List Lit) → SameSet ls ls
same_here ls = record { to = λ x j. j; back = λ x j. j }

-- so {F body} follows by resolution
follows_body : Follows (State.nogoods state_11) (lit 3 false ∷ [])
follows_body = resolved (lit 1 false) (lit 3 false ∷ lit 1 false ∷ []) (lit 1 true ∷ []) (lit 3 false ∷ [])
    (resolved (lit 2 true) (lit 2 true ∷ []) (lit 3 false ∷ lit 1 false ∷ lit 2 false ∷ []) (lit 3 false ∷ lit 1 false ∷ [])
    (is_nogood (record { lits = lit 2 true ∷ []; head = None }) (lit 2 true ∷ []) (inr (inr (inr (inr (inl refl))))) (same_here (lit 2 true ∷ [])))
    (is_nogood (record { lits = lit 3 false ∷ lit 1 false ∷ lit 2 false ∷ []; head = Some 3 }) (lit 3 false ∷ lit 1 false ∷ lit 2 false ∷ []) (inl refl) (same_here (lit 3 false ∷ lit 1 false ∷ lit 2 false ∷ [])))
    without_c)
    (is_nogood (record { lits = lit 1 true ∷ []; head = None }) (lit 1 true ∷ []) (inr (inr (inr (inr (inr (inl refl)))))) (same_here (lit 1 true ∷ [])))
    without_b

-- the body is not closed
body_not_closed : ¬ IsClosed (State.stack state_11) 3
body_not_closed (e, inl q, at, w) = (let f : 2 ≡ 3 = sym (ap (λ (z : Entry). z.atom) q) ∙ at in cc)
body_not_closed (e, inr (inl q), at, w) = (let f : 1 ≡ 3 = sym (ap (λ (z : Entry). z.atom) q) ∙ at in cc)
body_not_closed (e, inr (inr (inl q)), at, w) = (let f : false ≡ true = sym (ap (λ (z : Entry). is_closed z.why) q) ∙ w in cc)
body_not_closed (e, inr (inr (inr z)), at, w) = z

-- it is what analysis gives
analysed : IsAnalysed (State.nogoods state_11) (State.stack state_11) (lit 3 false ∷ [])
analysed = record {
  follows = follows_body;
  hold = λ l i. elim i [ inl e ↦ subst (λ (z : Lit). Holds (State.stack state_11) z) (sym e) (False, refl, refl) | inr z ↦ absurd z ];
  none_closed = λ l i. elim i [ inl e ↦ subst (λ (z : Lit). ¬ IsClosed (State.stack state_11) z.atom) (sym e) body_not_closed | inr z ↦ absurd z ];
  one_highest = record { left = lit 3 false; among = inl refl; above = omega arith; others = λ l i. elim i [ inl e ↦ inl e | inr z ↦ absurd z ] };
}

-- the struck nogood isn't of literals chosen
not_chosen_alone : ¬ ((lit 2 true ∷ []) ⊆ (lit 3 false ∷ []))
not_chosen_alone sub = elim (sub (lit 2 true) (inl refl)) [ inl e ↦ apart (lit 2 true) (lit 3 false) (λ q. cc) e | inr z ↦ z ]

-- the atoms of the body's instance are false, so the body rises
rises_body : Rises (State.stack state_15) (record { lits = lit 3 false ∷ lit 1 false ∷ lit 2 false ∷ []; head = Some 3 }) 3
rises_body = record { heads = refl; among = inl refl; not_yet = inl refl; others = others }
  where
    others : (l : Lit) → l ∈ (lit 3 false ∷ lit 1 false ∷ lit 2 false ∷ []) → (l ≡ lit 3 false) ⊎ HoldsFully (State.stack state_15) l
    others l (inl e) = inl e
    others l (inr (inl e)) = inr (subst (λ (z : Lit). HoldsFully (State.stack state_15) z) (sym e) refl)
    others l (inr (inr (inl e))) = inr (subst (λ (z : Lit). HoldsFully (State.stack state_15) z) (sym e) refl)
    others l (inr (inr (inr z))) = absurd z

-- the state is full
full : IsFull closing_rules state_17
full = record {
  all_valued = valued (State.stack state_17) ((True, refl), (False, refl), (False, refl), (True, refl));
  none_must_be = none_must (State.stack state_17) refl;
  none_struck = none_struck (State.stack state_17) (State.nogoods state_17) refl;
  none_due = λ m i e up. due m i e state_17 refl;
  none_waiting = λ x a n up. refl;
}

-- the true atoms are a alone
atoms_shown : AreTrueUserAtoms closing_rules state_17 (0 ∷ [])
atoms_shown = record {
  all_there = λ x a n user v. elim (named_cases x a n) [
    | inl w ↦ inl w
    | inr r ↦ elim r [
      | inl w ↦ (let f : value_of (State.stack state_17) 1 ≡ Some True = subst (λ z. value_of (State.stack state_17) z ≡ Some True) w v in cc)
      | inr w ↦ (let f : value_of (State.stack state_17) 2 ≡ Some True = subst (λ z. value_of (State.stack state_17) z ≡ Some True) w v in cc)
    ]
  ];
  each_true = λ x i. elim i [ inl e ↦ (0, ap (slice_get the_names) e, refl, ap (value_of (State.stack state_17)) e) | inr z ↦ absurd z ];
  atoms = 0 ∷ [];
  names = (refl, tt);
  ordered = refl;
}

-- each event may come
allowed_0 : Allowed closing_rules [] state_0 (NameAtom 0)
allowed_0 = (refl, (λ x e. cc), refl)

allowed_1 : Allowed closing_rules [] state_1 (NameAtom 1)
allowed_1 = (refl, not_named_b, refl)

allowed_2 : Allowed closing_rules [] state_2 (NameAtom 2)
allowed_2 = (refl, not_named_c, refl)

allowed_3 : Allowed closing_rules [] state_3 (NameBody)
allowed_3 = (refl, not_pending, none_stuck state_3 (λ x e. cc))

allowed_4 : Allowed closing_rules [] state_4 (Make made_one)
allowed_4 = (refl, (λ m. absurd m.1), (atoms_one, refl, record { kind = refl; pos = tt; neg = (refl, (refl, tt)) }), (λ p i. absurd i), (3, refl), refl, none_stuck state_4 (λ x e. cc))

allowed_5 : Allowed closing_rules [] state_5 (Choose 3 false)
allowed_5 = (refl, none_struck (State.stack state_5) (State.nogoods state_5) refl, none_unit (State.stack state_5) (State.nogoods state_5) refl, (made_one, inl refl, active_first), (λ e. refl), none_stuck state_5 (λ x e. cc))

allowed_6 : Allowed closing_rules [] state_6 (Close 1)
allowed_6 = (refl, none_struck (State.stack state_6) (State.nogoods state_6) refl, none_unit (State.stack state_6) (State.nogoods state_6) refl, (1, refl), refl, none_must_named, (λ e. settled))

allowed_7 : Allowed closing_rules [] state_7 (Put 2 MustBe 0)
allowed_7 = (refl, (record { lits = lit 3 false ∷ lit 1 false ∷ lit 2 false ∷ []; head = Some 3 }, refl, (left_c, (λ r. let e : ◌≡◌ {A = Option ℕ} (Some 3) (Some 2) = r.heads in let w : ◌≡◌ {A = ℕ} 3 2 = cc in cc))))

allowed_8 : Allowed closing_rules [] state_8 (Justify (of_c ∷ []) (lit 2 true ∷ []))
allowed_8 = (justified_c, is_new (State.nogoods state_8) (lit 2 true ∷ []) refl)

allowed_9 : Allowed closing_rules [] state_9 (Strike 4)
allowed_9 = (inr refl, (record { lits = lit 2 true ∷ []; head = None }, refl, struck_c))

allowed_10 : Allowed closing_rules [] state_10 (Justify (of_b ∷ []) (lit 1 true ∷ []))
allowed_10 = (justified_b, is_new (State.nogoods state_10) (lit 1 true ∷ []) refl)

allowed_11 : Allowed closing_rules [] state_11 (Learn Analysed (lit 3 false ∷ []))
allowed_11 = (((4, refl, not_chosen_alone), analysed), is_new (State.nogoods state_11) (lit 3 false ∷ []) refl)

allowed_12 : Allowed closing_rules [] state_12 (Back 0)
allowed_12 = (omega arith, (6, refl, (record { lits = lit 3 false ∷ []; head = None }, refl, (3, MustBe, (left_only [] None (lit 3 false) refl, (λ r. let e = r.heads in cc))))))

allowed_13 : Allowed closing_rules [] state_13 (Put 2 False 4)
allowed_13 = (refl, (record { lits = lit 2 true ∷ []; head = None }, refl, left_only (State.stack state_13) None (lit 2 true) refl))

allowed_14 : Allowed closing_rules [] state_14 (Put 1 False 5)
allowed_14 = (refl, (record { lits = lit 1 true ∷ []; head = None }, refl, left_only (State.stack state_14) None (lit 1 true) refl))

allowed_15 : Allowed closing_rules [] state_15 (Put 3 True 0)
allowed_15 = (refl, (record { lits = lit 3 false ∷ lit 1 false ∷ lit 2 false ∷ []; head = Some 3 }, refl, rises_body))

allowed_16 : Allowed closing_rules [] state_16 (Put 0 True 3)
allowed_16 = (refl, (record { lits = lit 0 false ∷ lit 3 true ∷ []; head = Some 0 }, refl, rises_pair (State.stack state_16) 0 (lit 3 true) (inl refl) refl))

allowed_17 : Allowed closing_rules [] state_17 (Show (0 ∷ []))
allowed_17 = (refl, full, atoms_shown, (λ atoms i. absurd i), (λ earlier i. absurd i))

-- so the journal is legal
pub legal_0 : Legal closing_rules [] journal_0
legal_0 = tt

pub legal_1 : Legal closing_rules [] journal_1
legal_1 = (legal_0, allowed_0)

pub legal_2 : Legal closing_rules [] journal_2
legal_2 = (legal_1, allowed_1)

pub legal_3 : Legal closing_rules [] journal_3
legal_3 = (legal_2, allowed_2)

pub legal_4 : Legal closing_rules [] journal_4
legal_4 = (legal_3, allowed_3)

pub legal_5 : Legal closing_rules [] journal_5
legal_5 = (legal_4, allowed_4)

pub legal_6 : Legal closing_rules [] journal_6
legal_6 = (legal_5, allowed_5)

pub legal_7 : Legal closing_rules [] journal_7
legal_7 = (legal_6, allowed_6)

pub legal_8 : Legal closing_rules [] journal_8
legal_8 = (legal_7, allowed_7)

pub legal_9 : Legal closing_rules [] journal_9
legal_9 = (legal_8, allowed_8)

pub legal_10 : Legal closing_rules [] journal_10
legal_10 = (legal_9, allowed_9)

pub legal_11 : Legal closing_rules [] journal_11
legal_11 = (legal_10, allowed_10)

pub legal_12 : Legal closing_rules [] journal_12
legal_12 = (legal_11, allowed_11)

pub legal_13 : Legal closing_rules [] journal_13
legal_13 = (legal_12, allowed_12)

pub legal_14 : Legal closing_rules [] journal_14
legal_14 = (legal_13, allowed_13)

pub legal_15 : Legal closing_rules [] journal_15
legal_15 = (legal_14, allowed_14)

pub legal_16 : Legal closing_rules [] journal_16
legal_16 = (legal_15, allowed_15)

pub legal_17 : Legal closing_rules [] journal_17
legal_17 = (legal_16, allowed_16)

pub legal_18 : Legal closing_rules [] journal_18
legal_18 = (legal_17, allowed_17)

-- and is what the events say
abbrev pub told_0 : List outside.Event
told_0 = []

abbrev pub told_1 : List outside.Event
told_1 = told_0 ++ say.Atom 0 (User false (97 ∷ []) 0) [] ∷ []

abbrev pub told_2 : List outside.Event
told_2 = told_1 ++ say.Atom 1 (User false (98 ∷ []) 0) [] ∷ []

abbrev pub told_3 : List outside.Event
told_3 = told_2 ++ say.Atom 2 (User false (99 ∷ []) 0) [] ∷ []

abbrev pub told_4 : List outside.Event
told_4 = told_3 ++ say.Body 3 0 ∷ []

abbrev pub told_5 : List outside.Event
told_5 = told_4 ++ say.Made 0 (maker.Rule 0 []) ∷ []

abbrev pub told_6 : List outside.Event
told_6 = told_5 ++ say.Chosen 3 false ∷ []

abbrev pub told_7 : List outside.Event
told_7 = told_6 ++ say.Closed 1 ∷ []

abbrev pub told_8 : List outside.Event
told_8 = told_7 ++ say.Put 2 MustBe 0 ∷ []

abbrev pub told_9 : List outside.Event
told_9 = told_8 ++ say.Learned 4 Justified (lit 2 true ∷ []) (of_c ∷ []) ∷ []

abbrev pub told_10 : List outside.Event
told_10 = told_9 ++ say.Struck 4 ∷ []

abbrev pub told_11 : List outside.Event
told_11 = told_10 ++ say.Learned 5 Justified (lit 1 true ∷ []) (of_b ∷ []) ∷ []

abbrev pub told_12 : List outside.Event
told_12 = told_11 ++ say.Learned 6 Analysed (lit 3 false ∷ []) [] ∷ []

abbrev pub told_13 : List outside.Event
told_13 = told_12 ++ say.Back 0 ∷ []

abbrev pub told_14 : List outside.Event
told_14 = told_13 ++ say.Put 2 False 4 ∷ []

abbrev pub told_15 : List outside.Event
told_15 = told_14 ++ say.Put 1 False 5 ∷ []

abbrev pub told_16 : List outside.Event
told_16 = told_15 ++ say.Put 3 True 0 ∷ []

abbrev pub told_17 : List outside.Event
told_17 = told_16 ++ say.Put 0 True 3 ∷ []

abbrev pub told_18 : List outside.Event
told_18 = told_17 ++ say.Shown (0 ∷ []) ∷ []

pub says_0 : SaysAll closing_rules told_0 journal_0
says_0 = refl

pub says_1 : SaysAll closing_rules told_1 journal_1
says_1 = (told_0, say.Atom 0 (User false (97 ∷ []) 0) [], refl, says_0, (refl, tt, (0, refl, refl)))

pub says_2 : SaysAll closing_rules told_2 journal_2
says_2 = (told_1, say.Atom 1 (User false (98 ∷ []) 0) [], refl, says_1, (refl, tt, (1, refl, refl)))

pub says_3 : SaysAll closing_rules told_3 journal_3
says_3 = (told_2, say.Atom 2 (User false (99 ∷ []) 0) [], refl, says_2, (refl, tt, (2, refl, refl)))

pub says_4 : SaysAll closing_rules told_4 journal_4
says_4 = (told_3, say.Body 3 0, refl, says_3, (refl, refl, refl))

pub says_5 : SaysAll closing_rules told_5 journal_5
says_5 = (told_4, say.Made 0 (maker.Rule 0 []), refl, says_4, (refl, (made_one, refl, refl)))

pub says_6 : SaysAll closing_rules told_6 journal_6
says_6 = (told_5, say.Chosen 3 false, refl, says_5, refl)

pub says_7 : SaysAll closing_rules told_7 journal_7
says_7 = (told_6, say.Closed 1, refl, says_6, refl)

pub says_8 : SaysAll closing_rules told_8 journal_8
says_8 = (told_7, say.Put 2 MustBe 0, refl, says_7, refl)

pub says_9 : SaysAll closing_rules told_9 journal_9
says_9 = (told_8, say.Learned 4 Justified (lit 2 true ∷ []) (of_c ∷ []), refl, says_8, (refl, inr (refl, refl)))

pub says_10 : SaysAll closing_rules told_10 journal_10
says_10 = (told_9, say.Struck 4, refl, says_9, refl)

pub says_11 : SaysAll closing_rules told_11 journal_11
says_11 = (told_10, say.Learned 5 Justified (lit 1 true ∷ []) (of_b ∷ []), refl, says_10, (refl, inr (refl, refl)))

pub says_12 : SaysAll closing_rules told_12 journal_12
says_12 = (told_11, say.Learned 6 Analysed (lit 3 false ∷ []) [], refl, says_11, (refl, inl (refl, refl)))

pub says_13 : SaysAll closing_rules told_13 journal_13
says_13 = (told_12, say.Back 0, refl, says_12, refl)

pub says_14 : SaysAll closing_rules told_14 journal_14
says_14 = (told_13, say.Put 2 False 4, refl, says_13, refl)

pub says_15 : SaysAll closing_rules told_15 journal_15
says_15 = (told_14, say.Put 1 False 5, refl, says_14, refl)

pub says_16 : SaysAll closing_rules told_16 journal_16
says_16 = (told_15, say.Put 3 True 0, refl, says_15, refl)

pub says_17 : SaysAll closing_rules told_17 journal_17
says_17 = (told_16, say.Put 0 True 3, refl, says_16, refl)

pub says_18 : SaysAll closing_rules told_18 journal_18
says_18 = (told_17, say.Shown (0 ∷ []), refl, says_17, refl)

-- the example
pub closing_is_legal : ClosingIsLegal
closing_is_legal = (journal_18, legal_18, says_18, refl, inr (refl, refl))

-- ---- what is refused before b has its reason

-- the values under which b alone is true make all literals of no nogood true
b_alone : (ng : Nogood) → ng ∈ State.nogoods state_10 → ¬ ((l : Lit) → l ∈ ng.lits → nat_eq l.atom 1 ≡ l.positive)
b_alone ng (inl e) all = (let w : true ≡ false = all (lit 1 false) (subst (λ (z : Nogood). lit 1 false ∈ z.lits) (sym e) (inr (inl refl))) in cc)
b_alone ng (inr (inl e)) all = (let w : false ≡ true = all (lit 3 true) (subst (λ (z : Nogood). lit 3 true ∈ z.lits) (sym e) (inl refl)) in cc)
b_alone ng (inr (inr (inl e))) all = (let w : false ≡ true = all (lit 3 true) (subst (λ (z : Nogood). lit 3 true ∈ z.lits) (sym e) (inl refl)) in cc)
b_alone ng (inr (inr (inr (inl e)))) all = (let w : false ≡ true = all (lit 3 true) (subst (λ (z : Nogood). lit 3 true ∈ z.lits) (sym e) (inr (inl refl))) in cc)
b_alone ng (inr (inr (inr (inr (inl e))))) all = (let w : false ≡ true = all (lit 2 true) (subst (λ (z : Nogood). lit 2 true ∈ z.lits) (sym e) (inl refl)) in cc)
b_alone ng (inr (inr (inr (inr (inr z))))) all = z

-- neither may be learned
pub closed_is_refused : ClosedIsRefused
closed_is_refused = (
  journal_10,
  legal_10,
  refl,
  closed_is_not_learned closing_rules [] state_10 (lit 3 false ∷ lit 1 false ∷ []) (lit 1 false) (inr (inl refl)) (entry_b, inr (inl refl), refl, refl),
  unimplied_is_not_learned closing_rules [] state_10 (lit 3 false ∷ []) (λ x. nat_eq x 1) b_alone (λ l i. elim i [ inl e ↦ subst (λ (z : Lit). nat_eq z.atom 1 ≡ z.positive) (sym e) refl | inr z ↦ absurd z ]),
)
