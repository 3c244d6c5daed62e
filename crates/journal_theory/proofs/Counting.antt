-- Conflicts are counted: each is answered, what is learned differs, and so there are only so many.
use Rattle.std.proofs.Common.{◌≡◌, ℕ, zero, suc, ◌+◌, ◌*◌, ◌≤◌, ◌<◌, ◌⊎◌, Bool, true, false, cond, List, [], ◌∷◌, length, refl, sym, ◌∙◌, ap, subst, inl, inr, arith}
use Rattle.std.specs.Prelude.{Some, None, slice_get, nat_eq, ◌^◌}
use Rattle.std.specs.Prelude.{Option}
use Rattle.std.proofs.Math.Nat.{pow-suc}
use Rattle.std.specs.List.{list_any, IsDistinct, AllByRecursion}
use Rattle.std.proofs.lemmas.Map.Steps.{length-le_from_distinct_below}
use Rattle.std.proofs.lemmas.List.{length-append}
use Rattle.lists.specs.Lists.{◌∈◌, ◌⊆◌, HasNoRepeats}
use Rattle.lists.proofs.ListLemmas.{∈-append_left, ∈-append_right}
use Rattle.search_values.specs.declared.entry.Why.TheVariants.{Closed}
use Rattle.search_values.specs.declared.entry.Entry.{Entry}
use Rattle.search_values.specs.Values.{Value, MustBe, False, Lit, is_up, lit, value_of, Holds, chosen, all_at_0, is_closed, any_closed, before_closed}
use Rattle.search_values.specs.Instances.{Rules}
use Rattle.search_values.specs.Tables.{same_lit, nogoods_of}
use Rattle.search_values.specs.Ids.{AtomNode, Named, BodyOf}
use Rattle.journal_theory.specs.States.{Phase, Free, MustLearn, MustDecide, Found, MustStrike, MustJump, Over, State}
use Rattle.journal_theory.specs.Covers.{IsWanted, for_stuck, for_closed, for_unassigned, MayJustify}
use Rattle.journal_theory.specs.Events.{Analysed, Justified, Decisions, Enumerated, How, Event, NameTerm, NameAtom, NameBody, Number, Make, Put, Choose, Close, Strike, Keep, Learn, Justify, CallWide, Back, Show, Pass, phase_struck, phase_learned, first_value, phase_justified, MayStrike, lits_at, happens, Allowed}
use Rattle.journal_theory.specs.Journals.{replay, Legal}
use Rattle.journal_theory.specs.Counting.{strikes, answers, learned, of_instances, unanswered, sets_over, named_so_far, bodies_so_far, EachStruckIsAnswered, StrikesAreBounded, StrikesAreFew}
use Rattle.alpha_outside.specs.declared.pattern.Pattern.{Pattern}
use Rattle.search_values.proofs.Basics.{any_to, any_from, or_left, or_right, bool_cases, lit_is, nat_eq-same, nat_eq-true, value_cases}
use Rattle.journal_theory.proofs.Covers.{valueless}
use Rattle.journal_theory.proofs.Meaning.{OfAtom, OfBody, Known}
use Rattle.search_values.proofs.Tables.{nogood, same_lit-is}
use Rattle.journal_theory.proofs.Stack.{Good}
use Rattle.journal_theory.proofs.Explaining.{holds_before}
use Rattle.journal_theory.proofs.Central.{Valid}
use Rattle.journal_theory.proofs.Deciding.{same_itself}
use Rattle.journal_theory.proofs.Events.{legal_safe}
use Rattle.journal_theory.proofs.Fresh.{chosen_holds, legal_newly}
use Rattle.journal_theory.proofs.Phases.{kept_once}

-- ---- each struck nogood is answered

-- what is to be answered in a phase
open_in : (phase other : Phase) → phase ≡ other → unanswered phase ≡ unanswered other
open_in phase other e = ap unanswered e

-- the count after each kind of event, over plain numbers

one_struck : (m a k u v : ℕ) → m ≤ a + k + u → u ≡ 0 → v ≡ 1 → m + 1 ≤ a + k + v
one_struck m a k u v h e f = omega (h, e, f, arith)

one_kept : (m a k u : ℕ) → m ≤ a + k + u → u ≡ 1 → m ≤ a + suc k + 0
one_kept m a k u h e = omega (h, e, arith)

one_wide : (m a k u : ℕ) → m ≤ a + k + u → u ≤ 1 → m ≤ a + k + 1
one_wide m a k u h e = omega (h, e, arith)

one_learned : (m a k u v : ℕ) → m ≤ a + k + u → u ≡ 1 → v ≡ 0 → m ≤ (a + 1) + k + v
one_learned m a k u v h e f = omega (h, e, f, arith)

one_listed : (m a k u v : ℕ) → m ≤ a + k + u → u ≡ 0 → v ≡ 0 → m ≤ (a + 0) + k + v
one_listed m a k u v h e f = omega (h, e, f, arith)

no_more : (m a k u v : ℕ) → m ≤ a + k + u → v ≡ u → m ≤ a + k + v
no_more m a k u v h e = omega (h, e, arith)

module _ {N A K : Type 0} (core : Rules N A K) (s : State N A K) where
  wanted_open : (x : ℕ) → IsWanted core s x → unanswered s.phase ≤ 1
  wanted_open x (for_stuck e stuck) = let k = open_in s.phase Free e in omega (k, arith)
  wanted_open x (for_unassigned e can) = let k = open_in s.phase Free e in omega (k, arith)
  wanted_open x (for_closed n ng ls e at w a i) = let k = open_in s.phase (MustLearn n) e in omega (k, arith)

  strike_open : (n : ℕ) → MayStrike s.phase n → unanswered s.phase ≡ 0
  strike_open n (inl e) = open_in s.phase Free e
  strike_open n (inr e) = open_in s.phase (MustStrike n) e

  struck_open : (n : ℕ) (low : Bool) → unanswered (phase_struck n low) ≡ 1
  struck_open n true = refl
  struck_open n false = refl

  -- where nothing in particular had to come, nothing is unanswered after a nogood was justified
  free_open : (v : Option Value) (n : ℕ) → unanswered (phase_justified Free v n) ≡ 0
  free_open None n = refl
  free_open (Some v) n = refl

  justified_open : (x : ℕ) (v : Option Value) (n : ℕ) → IsWanted core s x → unanswered (phase_justified s.phase v n) ≡ unanswered s.phase
  justified_open x v n (for_stuck e stuck) = ap (λ z. unanswered (phase_justified z v n)) e ∙ free_open v n ∙ sym (open_in s.phase Free e)
  justified_open x v n (for_unassigned e can) = ap (λ z. unanswered (phase_justified z v n)) e ∙ free_open v n ∙ sym (open_in s.phase Free e)
  justified_open x v n (for_closed m ng ls e at w a i) = ap (λ z. unanswered (phase_justified z v n)) e ∙ sym (open_in s.phase (MustLearn m) e)

  learned_open : (phase : Phase) (n : ℕ) → unanswered (phase_learned phase n) ≡ 0
  learned_open Free n = refl
  learned_open (MustLearn m) n = refl
  learned_open MustDecide n = refl
  learned_open Found n = refl
  learned_open (MustStrike m) n = refl
  learned_open (MustJump m) n = refl
  learned_open Over n = refl

  -- one more event keeps it
  answered_keep : (listed : List (List A)) (e : Event A K) (earlier : List (Event A K)) → Allowed core listed s e
      → strikes earlier ≤ answers earlier + length s.kept + unanswered s.phase
      → strikes (e ∷ earlier) ≤ answers (e ∷ earlier) + length (State.kept (happens core s e)) + unanswered (State.phase (happens core s e))
  answered_keep listed (NameTerm node) earlier ok h = h
  answered_keep listed (NameAtom a) earlier ok h = h
  answered_keep listed NameBody earlier ok h = h
  answered_keep listed (Number x a number) earlier ok h = h
  answered_keep listed (Make k) earlier ok h = h
  answered_keep listed (Put a v n) earlier ok h = h
  answered_keep listed (Choose b up) earlier ok h = h
  answered_keep listed (Close x) earlier ok h = h
  answered_keep listed (Strike n) earlier ok h = one_struck (strikes earlier) (answers earlier) (length s.kept) (unanswered s.phase) _ h (strike_open n ok.0) (struck_open n (all_at_0 s.stack (lits_at s.nogoods n)))
  answered_keep listed (Keep n) earlier ok h = one_kept (strikes earlier) (answers earlier) (length s.kept) (unanswered s.phase) h (open_in s.phase (MustLearn n) ok.0)
  answered_keep listed (Learn Analysed ls) earlier ok h = one_learned (strikes earlier) (answers earlier) (length s.kept) (unanswered s.phase) _ h (open_in s.phase (MustLearn ok.0.0.0) ok.0.0.1) (learned_open s.phase (length s.nogoods))
  answered_keep listed (Learn Justified ls) earlier ok h = absurd ok.0
  answered_keep listed (Learn Decisions ls) earlier ok h = one_learned (strikes earlier) (answers earlier) (length s.kept) (unanswered s.phase) _ h (open_in s.phase MustDecide ok.0.1) (learned_open s.phase (length s.nogoods))
  answered_keep listed (Learn Enumerated ls) earlier ok h = one_listed (strikes earlier) (answers earlier) (length s.kept) (unanswered s.phase) _ h (open_in s.phase Found ok.0.1) (learned_open s.phase (length s.nogoods))
  answered_keep listed (Justify patterns ls) earlier ok h = no_more (strikes earlier) (answers earlier) (length s.kept) (unanswered s.phase) _ h (justified_open ok.0.id (first_value ls s.stack) (length s.nogoods) ok.0.wanted)
  answered_keep listed (CallWide x) earlier ok h = one_wide (strikes earlier) (answers earlier) (length s.kept) (unanswered s.phase) h (wanted_open x ok.0)
  answered_keep listed (Back level) earlier ok h = no_more (strikes earlier) (answers earlier) (length s.kept) (unanswered s.phase) 0 h (sym (open_in s.phase (MustJump ok.1.0) ok.1.1))
  answered_keep listed (Show ids) earlier ok h = no_more (strikes earlier) (answers earlier) (length s.kept) (unanswered s.phase) 0 h (sym (open_in s.phase Free ok.0))
  answered_keep listed (Pass ids) earlier ok h = no_more (strikes earlier) (answers earlier) (length s.kept) (unanswered s.phase) 0 h (sym (open_in s.phase Free ok.0))

-- law: each struck nogood is answered
pub each_struck_is_answered : {N A K : Type 0} → EachStruckIsAnswered N A K
each_struck_is_answered core listed [] legal = omega arith
each_struck_is_answered core listed (e ∷ journal) legal = answered_keep core (replay core journal) listed e journal legal.1 (each_struck_is_answered core listed journal legal.0)

-- ---- what is learned

at_most_one : (a b n : ℕ) → a ≤ b → n ≤ 1 → a + n ≤ suc b
at_most_one a b n h k = omega (h, k, arith)

still : (a b : ℕ) → a ≤ b → a ≤ suc b
still a b h = omega (h, arith)

-- what answers conflicts is learned
answers_learned : {A K : Type 0} (journal : List (Event A K)) → answers journal ≤ length (learned journal)
answers_learned [] = omega arith
answers_learned (NameTerm node ∷ journal) = answers_learned journal
answers_learned (NameAtom a ∷ journal) = answers_learned journal
answers_learned (NameBody ∷ journal) = answers_learned journal
answers_learned (Number x a number ∷ journal) = answers_learned journal
answers_learned (Make k ∷ journal) = answers_learned journal
answers_learned (Put a v n ∷ journal) = answers_learned journal
answers_learned (Choose b up ∷ journal) = answers_learned journal
answers_learned (Close x ∷ journal) = answers_learned journal
answers_learned (Strike n ∷ journal) = answers_learned journal
answers_learned (Keep n ∷ journal) = answers_learned journal
answers_learned (Learn Analysed ls ∷ journal) = at_most_one (answers journal) (length (learned journal)) 1 (answers_learned journal) (omega arith)
answers_learned (Learn Justified ls ∷ journal) = at_most_one (answers journal) (length (learned journal)) 0 (answers_learned journal) (omega arith)
answers_learned (Learn Decisions ls ∷ journal) = at_most_one (answers journal) (length (learned journal)) 1 (answers_learned journal) (omega arith)
answers_learned (Learn Enumerated ls ∷ journal) = at_most_one (answers journal) (length (learned journal)) 0 (answers_learned journal) (omega arith)
answers_learned (Justify patterns ls ∷ journal) = still (answers journal) (length (learned journal)) (answers_learned journal)
answers_learned (CallWide x ∷ journal) = answers_learned journal
answers_learned (Back level ∷ journal) = answers_learned journal
answers_learned (Show ids ∷ journal) = answers_learned journal
answers_learned (Pass ids ∷ journal) = answers_learned journal

more_made : (n m t l i : ℕ) → n ≡ l + i → t ≡ n + m → t ≡ l + (i + m)
more_made n m t l i h e = omega (h, e, arith)

more_learned : (n t l i : ℕ) → n ≡ l + i → t ≡ n + 1 → t ≡ suc l + i
more_learned n t l i h e = omega (h, e, arith)

-- the nogoods are those of instances and those learned
nogoods_count : {N A K : Type 0} (core : Rules N A K) (journal : List (Event A K)) → length (State.nogoods (replay core journal)) ≡ length (learned journal) + of_instances journal
nogoods_count core [] = refl
nogoods_count core (NameTerm node ∷ journal) = nogoods_count core journal
nogoods_count core (NameAtom a ∷ journal) = nogoods_count core journal
nogoods_count core (NameBody ∷ journal) = nogoods_count core journal
nogoods_count core (Number x a number ∷ journal) = nogoods_count core journal
nogoods_count core (Make k ∷ journal) = more_made (length (State.nogoods (replay core journal))) (length (nogoods_of k)) _ (length (learned journal)) (of_instances journal) (nogoods_count core journal) (length-append (State.nogoods (replay core journal)) (nogoods_of k))
nogoods_count core (Put a v n ∷ journal) = nogoods_count core journal
nogoods_count core (Choose b up ∷ journal) = nogoods_count core journal
nogoods_count core (Close x ∷ journal) = nogoods_count core journal
nogoods_count core (Strike n ∷ journal) = nogoods_count core journal
nogoods_count core (Keep n ∷ journal) = nogoods_count core journal
nogoods_count core (Learn how ls ∷ journal) = more_learned (length (State.nogoods (replay core journal))) _ (length (learned journal)) (of_instances journal) (nogoods_count core journal) (length-append (State.nogoods (replay core journal)) (nogood None ls ∷ []))
nogoods_count core (Justify patterns ls ∷ journal) = more_learned (length (State.nogoods (replay core journal))) _ (length (learned journal)) (of_instances journal) (nogoods_count core journal) (length-append (State.nogoods (replay core journal)) (nogood None ls ∷ []))
nogoods_count core (CallWide x ∷ journal) = nogoods_count core journal
nogoods_count core (Back level ∷ journal) = nogoods_count core journal
nogoods_count core (Show ids ∷ journal) = nogoods_count core journal
nogoods_count core (Pass ids ∷ journal) = nogoods_count core journal

-- what is learned is stored
learned_stored : {N A K : Type 0} (core : Rules N A K) (journal : List (Event A K)) (ls : List Lit) → ls ∈ learned journal → nogood None ls ∈ State.nogoods (replay core journal)
learned_stored core [] ls i = absurd i
learned_stored core (NameTerm node ∷ journal) ls i = learned_stored core journal ls i
learned_stored core (NameAtom a ∷ journal) ls i = learned_stored core journal ls i
learned_stored core (NameBody ∷ journal) ls i = learned_stored core journal ls i
learned_stored core (Number x a number ∷ journal) ls i = learned_stored core journal ls i
learned_stored core (Make k ∷ journal) ls i = ∈-append_left (nogood None ls) (State.nogoods (replay core journal)) (nogoods_of k) (learned_stored core journal ls i)
learned_stored core (Put a v n ∷ journal) ls i = learned_stored core journal ls i
learned_stored core (Choose b up ∷ journal) ls i = learned_stored core journal ls i
learned_stored core (Close x ∷ journal) ls i = learned_stored core journal ls i
learned_stored core (Strike n ∷ journal) ls i = learned_stored core journal ls i
learned_stored core (Keep n ∷ journal) ls i = learned_stored core journal ls i
learned_stored core (Learn how ms ∷ journal) ls (inl e) = ∈-append_right (nogood None ls) (State.nogoods (replay core journal)) (nogood None ms ∷ []) (inl (ap (λ z. nogood None z) e))
learned_stored core (Learn how ms ∷ journal) ls (inr i) = ∈-append_left (nogood None ls) (State.nogoods (replay core journal)) (nogood None ms ∷ []) (learned_stored core journal ls i)
learned_stored core (Justify patterns ms ∷ journal) ls (inl e) = ∈-append_right (nogood None ls) (State.nogoods (replay core journal)) (nogood None ms ∷ []) (inl (ap (λ z. nogood None z) e))
learned_stored core (Justify patterns ms ∷ journal) ls (inr i) = ∈-append_left (nogood None ls) (State.nogoods (replay core journal)) (nogood None ms ∷ []) (learned_stored core journal ls i)
learned_stored core (CallWide x ∷ journal) ls i = learned_stored core journal ls i
learned_stored core (Back level ∷ journal) ls i = learned_stored core journal ls i
learned_stored core (Show ids ∷ journal) ls i = learned_stored core journal ls i
learned_stored core (Pass ids ∷ journal) ls i = learned_stored core journal ls i

-- no list is a superset of a later one
abbrev pub AreApart : List (List Lit) → Type 0
AreApart [] = Unit {0}
AreApart (ls ∷ earlier) = ((ms : List Lit) → ms ∈ earlier → ¬ (ms ⊆ ls)) × AreApart earlier

-- what is learned is a superset of nothing that was learned before
learned_apart : {N A K : Type 0} (core : Rules N A K) (listed : List (List A)) (journal : List (Event A K)) → Legal core listed journal → AreApart (learned journal)
learned_apart core listed [] legal = tt
learned_apart core listed (NameTerm node ∷ journal) legal = learned_apart core listed journal legal.0
learned_apart core listed (NameAtom a ∷ journal) legal = learned_apart core listed journal legal.0
learned_apart core listed (NameBody ∷ journal) legal = learned_apart core listed journal legal.0
learned_apart core listed (Number x a number ∷ journal) legal = learned_apart core listed journal legal.0
learned_apart core listed (Make k ∷ journal) legal = learned_apart core listed journal legal.0
learned_apart core listed (Put a v n ∷ journal) legal = learned_apart core listed journal legal.0
learned_apart core listed (Choose b up ∷ journal) legal = learned_apart core listed journal legal.0
learned_apart core listed (Close x ∷ journal) legal = learned_apart core listed journal legal.0
learned_apart core listed (Strike n ∷ journal) legal = learned_apart core listed journal legal.0
learned_apart core listed (Keep n ∷ journal) legal = learned_apart core listed journal legal.0
learned_apart core listed (Learn how ls ∷ journal) legal = ((λ ms i. legal.1.1 (nogood None ms) (learned_stored core journal ms i)), learned_apart core listed journal legal.0)
learned_apart core listed (Justify patterns ls ∷ journal) legal = ((λ ms i. legal.1.1 (nogood None ms) (learned_stored core journal ms i)), learned_apart core listed journal legal.0)
learned_apart core listed (CallWide x ∷ journal) legal = learned_apart core listed journal legal.0
learned_apart core listed (Back level ∷ journal) legal = learned_apart core listed journal legal.0
learned_apart core listed (Show ids ∷ journal) legal = learned_apart core listed journal legal.0
learned_apart core listed (Pass ids ∷ journal) legal = learned_apart core listed journal legal.0

-- ---- no atom has both signs in what is learned

abbrev pub IsConsistent : List Lit → Type 0
IsConsistent ls = (a : ℕ) → lit a true ∈ ls → ¬ (lit a false ∈ ls)

-- both signs of an atom don't hold
not_both_hold : (stack : List Entry) (a : ℕ) → Holds stack (lit a true) → Holds stack (lit a false) → ⊥
not_both_hold stack a h k = let e : Some h.0 ≡ Some k.0 = sym h.1 ∙ k.1 in let f : h.0 ≡ k.0 = cc in let g : true ≡ false = sym h.2 ∙ ap is_up f ∙ k.2 in cc

holding_consistent : (stack : List Entry) (ls : List Lit) → ((l : Lit) → l ∈ ls → Holds stack l) → IsConsistent ls
holding_consistent stack ls h a i j = not_both_hold stack a (h (lit a true) i) (h (lit a false) j)

below_none : (e : Entry) (rest : List Entry) (a : ℕ) → value_of (e ∷ rest) a ≡ None → value_of rest a ≡ None
below_none e rest a h = elim (value_cases e rest a) [
  | inl c ↦ (let w : Some e.value ≡ None = sym c.1 ∙ h in cc)
  | inr c ↦ (sym c.1 ∙ h)
]

-- what is unassigned was so before the first closed entry
before_none : (stack : List Entry) (a : ℕ) → value_of stack a ≡ None → value_of (before_closed stack) a ≡ None
before_none [] a h = h
before_none (e ∷ rest) a h = go (any_closed rest) (is_closed e.why) (before_none rest a (below_none e rest a h))
  where
    go : (b d : Bool) → value_of (before_closed rest) a ≡ None → value_of (cond b (before_closed rest) (cond d rest (e ∷ rest))) a ≡ None
    go true d k = k
    go false true k = below_none e rest a h
    go false false k = h

pub has_any_closed : (stack : List Entry) (e : Entry) → e ∈ stack → is_closed e.why ≡ true → any_closed stack ≡ true
has_any_closed [] e i c = absurd i
has_any_closed (t ∷ rest) e (inl same) c = or_left (is_closed t.why) (any_closed rest) (ap (λ (z : Entry). is_closed z.why) (sym same) ∙ c)
has_any_closed (t ∷ rest) e (inr i) c = or_right (is_closed t.why) (any_closed rest) (has_any_closed rest e i c)

-- a closed atom was unassigned before the first closed entry
closed_none : {N A K : Type 0} (core : Rules N A K) (s : State N A K) (stack : List Entry) → Good core s stack → (e : Entry) → e ∈ stack → e.why ≡ Closed None
    → value_of (before_closed stack) e.atom ≡ None
closed_none core s [] g e i w = absurd i
closed_none core s (t ∷ rest) g e (inl same) w =
    let free : value_of rest e.atom ≡ None = (elim g.0.may_push [
      | inl n ↦ subst (λ (z : Entry). value_of rest z.atom ≡ None) (sym same) n
      | inr m ↦ (let f : t.value ≡ False = g.0.closed_down None (ap (λ (z : Entry). z.why) (sym same) ∙ w) in let q = m.1 in cc)
    ]) in
    let c : is_closed t.why ≡ true = ap is_closed (ap (λ (z : Entry). z.why) (sym same) ∙ w) in
    pick (any_closed rest) (is_closed t.why) c (before_none rest e.atom free) free
  where
    pick : (b d : Bool) → d ≡ true → value_of (before_closed rest) e.atom ≡ None → value_of rest e.atom ≡ None → value_of (cond b (before_closed rest) (cond d rest (t ∷ rest))) e.atom ≡ None
    pick true d c k f = k
    pick false true c k f = f
    pick false false c k f = cc
closed_none core s (t ∷ rest) g e (inr i) w =
    pick (any_closed rest) (has_any_closed rest e i (ap is_closed w)) (closed_none core s rest g.1 e i w)
  where
    pick : (b : Bool) → b ≡ true → value_of (before_closed rest) e.atom ≡ None → value_of (cond b (before_closed rest) (cond (is_closed t.why) rest (t ∷ rest))) e.atom ≡ None
    pick true c k = k
    pick false c k = cc

chosen_consistent : {N A K : Type 0} (core : Rules N A K) (listed : List (List A)) (journal : List (Event A K)) → Legal core listed journal
    → (ls : List Lit) → ls ≡ chosen (State.stack (replay core journal)) → IsConsistent ls
chosen_consistent core listed journal legal ls e =
    let s = replay core journal in
    let r = legal_newly core listed journal legal in
    let valid = (legal_safe core listed journal legal).valid in
    holding_consistent s.stack ls (λ l i. chosen_holds core s valid r.0 r.1 s.stack valid.good l (subst (λ z. l ∈ z) e i))

-- what is learned has no atom with both signs
learned_one : {N A K : Type 0} (core : Rules N A K) (listed : List (List A)) (journal : List (Event A K)) → Legal core listed journal
    → (how : How) (ls : List Lit) → Allowed core listed (replay core journal) (Learn how ls) → IsConsistent ls
learned_one core listed journal legal Analysed ls ok = holding_consistent (State.stack (replay core journal)) ls ok.0.1.hold
learned_one core listed journal legal Justified ls ok = absurd ok.0
learned_one core listed journal legal Decisions ls ok = chosen_consistent core listed journal legal ls ok.0.0
learned_one core listed journal legal Enumerated ls ok = chosen_consistent core listed journal legal ls ok.0.0

justified_one : {N A K : Type 0} (core : Rules N A K) (s : State N A K) → Valid core s → (patterns : List Pattern) (ls : List Lit) → MayJustify core s patterns ls → IsConsistent ls
justified_one core s valid patterns ls may a i j = both (subst (λ z. lit a true ∈ z) may.lits_are i) (subst (λ z. lit a false ∈ z) may.lits_are j)
  where
    before : (l : Lit) → l ∈ may.reasons → Holds s.stack l
    before l k = holds_before core s s.stack valid.good l (may.before l k)

    -- the first literal's atom isn't false before the first closed entry
    first : IsWanted core s may.id → lit may.id false ∈ may.reasons → ⊥
    first (for_stuck e stuck) k = (let h = before (lit may.id false) k in let w : Some h.0 ≡ Some MustBe = sym h.1 ∙ stuck.must_be in let v : h.0 ≡ MustBe = cc in let u : true ≡ false = sym (ap is_up v) ∙ h.2 in cc)
    first (for_unassigned e can) k = valueless core s can (before (lit may.id false) k).1
    first (for_closed n ng ms e at w x y) k =
        let h = may.before (lit may.id false) k in
        let none = closed_none core s s.stack valid.good w.0 w.1 w.3 in
        let free : value_of (before_closed s.stack) may.id ≡ None = subst (λ z. value_of (before_closed s.stack) z ≡ None) w.2 none in
        let bad = sym free ∙ h.1 in cc

    both : lit a true ∈ (lit may.id true ∷ may.reasons) → lit a false ∈ (lit may.id true ∷ may.reasons) → ⊥
    both (inl e) (inl f) = (let w : true ≡ false = ap (λ (z : Lit). z.positive) (e ∙ sym f) in cc)
    both (inl e) (inr m) = first may.wanted (subst (λ z. lit z false ∈ may.reasons) (ap (λ (z : Lit). z.atom) e) m)
    both (inr k) (inl f) = (let w : false ≡ true = ap (λ (z : Lit). z.positive) f in cc)
    both (inr k) (inr m) = not_both_hold s.stack a (before (lit a true) k) (before (lit a false) m)

-- and so is all that was learned
learned_consistent : {N A K : Type 0} (core : Rules N A K) (listed : List (List A)) (journal : List (Event A K)) → Legal core listed journal
    → (ls : List Lit) → ls ∈ learned journal → IsConsistent ls
learned_consistent core listed [] legal ls i = absurd i
learned_consistent core listed (NameTerm node ∷ journal) legal ls i = learned_consistent core listed journal legal.0 ls i
learned_consistent core listed (NameAtom a ∷ journal) legal ls i = learned_consistent core listed journal legal.0 ls i
learned_consistent core listed (NameBody ∷ journal) legal ls i = learned_consistent core listed journal legal.0 ls i
learned_consistent core listed (Number x a number ∷ journal) legal ls i = learned_consistent core listed journal legal.0 ls i
learned_consistent core listed (Make k ∷ journal) legal ls i = learned_consistent core listed journal legal.0 ls i
learned_consistent core listed (Put a v n ∷ journal) legal ls i = learned_consistent core listed journal legal.0 ls i
learned_consistent core listed (Choose b up ∷ journal) legal ls i = learned_consistent core listed journal legal.0 ls i
learned_consistent core listed (Close x ∷ journal) legal ls i = learned_consistent core listed journal legal.0 ls i
learned_consistent core listed (Strike n ∷ journal) legal ls i = learned_consistent core listed journal legal.0 ls i
learned_consistent core listed (Keep n ∷ journal) legal ls i = learned_consistent core listed journal legal.0 ls i
learned_consistent core listed (Learn how ms ∷ journal) legal ls (inl e) = subst (λ z. IsConsistent z) (sym e) (learned_one core listed journal legal.0 how ms legal.1)
learned_consistent core listed (Learn how ms ∷ journal) legal ls (inr i) = learned_consistent core listed journal legal.0 ls i
learned_consistent core listed (Justify patterns ms ∷ journal) legal ls (inl e) = subst (λ z. IsConsistent z) (sym e) (justified_one core (replay core journal) (legal_safe core listed journal legal.0).valid patterns ms legal.1.0)
learned_consistent core listed (Justify patterns ms ∷ journal) legal ls (inr i) = learned_consistent core listed journal legal.0 ls i
learned_consistent core listed (CallWide x ∷ journal) legal ls i = learned_consistent core listed journal legal.0 ls i
learned_consistent core listed (Back level ∷ journal) legal ls i = learned_consistent core listed journal legal.0 ls i
learned_consistent core listed (Show ids ∷ journal) legal ls i = learned_consistent core listed journal legal.0 ls i
learned_consistent core listed (Pass ids ∷ journal) legal ls i = learned_consistent core listed journal legal.0 ls i

-- ---- sets of literals as numbers

-- what an atom is in a set: absent, true or false
abbrev pick : Bool → Bool → ℕ
pick true b = 1
pick false true = 2
pick false false = 0

-- whether the literal is in the list
abbrev has : List Lit → Lit → Bool
has ls l = list_any (same_lit l) ls

abbrev digit : List Lit → ℕ → ℕ
digit ls a = pick (has ls (lit a true)) (has ls (lit a false))

-- the number of a set of literals over so many atoms
abbrev code : ℕ → List Lit → ℕ
code zero ls = 0
code (suc n) ls = code n ls + code n ls + code n ls + digit ls n

pick_below : (b c : Bool) → pick b c ≤ 2
pick_below true c = omega arith
pick_below false true = omega arith
pick_below false false = omega arith

next_below : (x p d : ℕ) → x < p → d ≤ 2 → x + x + x + d < p + p + p
next_below x p d h k = omega (h, k, arith)

code_below : (n : ℕ) (ls : List Lit) → code n ls < sets_over n
code_below zero ls = omega arith
code_below (suc n) ls = next_below (code n ls) (sets_over n) (digit ls n) (code_below n ls) (pick_below (has ls (lit n true)) (has ls (lit n false)))

same_rest : (x y d e : ℕ) → x + x + x + d ≡ y + y + y + e → d ≤ 2 → e ≤ 2 → x ≡ y
same_rest x y d e h k l = omega (h, k, l, arith)

same_last : (x y d e : ℕ) → x + x + x + d ≡ y + y + y + e → d ≤ 2 → e ≤ 2 → d ≡ e
same_last x y d e h k l = omega (h, k, l, arith)

last_or_below : (a n : ℕ) → a < suc n → (a ≡ n) ⊎ (a < n)
last_or_below a n h = go (nat_eq a n) refl
  where
    go : (b : Bool) → nat_eq a n ≡ b → (a ≡ n) ⊎ (a < n)
    go true e = inl (nat_eq-true a n e)
    go false e = inr (not_last a n h (λ w. let q : nat_eq a a ≡ false = subst (λ z. nat_eq a z ≡ false) (sym w) e in let t = nat_eq-same a in cc))
      where
        not_last : (a n : ℕ) → a < suc n → ¬ (a ≡ n) → a < n
        not_last a n h d = grind arith

none_below : (a : ℕ) → a < 0 → ⊥
none_below a h = omega (h, arith)

-- sets with the same number agree on each atom
same_digits : (n : ℕ) (ls ms : List Lit) → code n ls ≡ code n ms → (a : ℕ) → a < n → digit ls a ≡ digit ms a
same_digits zero ls ms e a h = absurd (none_below a h)
same_digits (suc n) ls ms e a h =
    let p = pick_below (has ls (lit n true)) (has ls (lit n false)) in
    let q = pick_below (has ms (lit n true)) (has ms (lit n false)) in
    elim (last_or_below a n h) [
      | inl last ↦ subst (λ z. digit ls z ≡ digit ms z) (sym last) (same_last (code n ls) (code n ms) (digit ls n) (digit ms n) e p q)
      | inr low ↦ same_digits n ls ms (same_rest (code n ls) (code n ms) (digit ls n) (digit ms n) e p q) a low
    ]

has_from : (ls : List Lit) (l : Lit) → l ∈ ls → has ls l ≡ true
has_from ls l i = any_from (same_lit l) ls l i (same_itself l)

has_to : (ls : List Lit) (l : Lit) → has ls l ≡ true → l ∈ ls
has_to ls l h = let r = any_to (same_lit l) ls h in subst (λ z. z ∈ ls) (sym (same_lit-is l r.0 r.2)) r.1

not_same : (a b : ℕ) → a < b → a ≡ b → ⊥
not_same a b h e = omega (h, e, arith)

pick_true : (b c d e : Bool) → b ≡ true → pick b c ≡ pick d e → d ≡ true
pick_true true c true e h k = refl
pick_true true c false true h k = absurd (not_same 1 2 (omega arith) k)
pick_true true c false false h k = absurd (not_same 0 1 (omega arith) (sym k))
pick_true false c d e h k = cc

pick_false : (b c d e : Bool) → b ≡ false → c ≡ true → pick b c ≡ pick d e → e ≡ true
pick_false false true true e h t k = absurd (not_same 1 2 (omega arith) (sym k))
pick_false false true false true h t k = refl
pick_false false true false false h t k = absurd (not_same 0 2 (omega arith) (sym k))
pick_false true c d e h t k = cc
pick_false false false d e h t k = cc

-- a set with no atom with both signs is a subset of each set with its number
same_code_subset : (n : ℕ) (ls ms : List Lit) → ((l : Lit) → l ∈ ls → l.atom < n) → IsConsistent ls → code n ls ≡ code n ms → ls ⊆ ms
same_code_subset n ls ms below consistent e l i = go l.positive refl
  where
    d : digit ls l.atom ≡ digit ms l.atom
    d = same_digits n ls ms e l.atom (below l i)

    go : (b : Bool) → l.positive ≡ b → l ∈ ms
    go true p = (let is = lit_is l l.atom true refl p in
        subst (λ z. z ∈ ms) is (has_to ms (lit l.atom true) (pick_true (has ls (lit l.atom true)) (has ls (lit l.atom false)) (has ms (lit l.atom true)) (has ms (lit l.atom false))
        (has_from ls (lit l.atom true) (subst (λ z. z ∈ ls) (sym is) i)) d)))
    go false p = (let is = lit_is l l.atom false refl p in
        let j : lit l.atom false ∈ ls = subst (λ z. z ∈ ls) (sym is) i in
        subst (λ z. z ∈ ms) is (has_to ms (lit l.atom false) (pick_false (has ls (lit l.atom true)) (has ls (lit l.atom false)) (has ms (lit l.atom true)) (has ms (lit l.atom false))
        (elim (bool_cases (has ls (lit l.atom true))) [ inl t ↦ absurd (consistent l.atom (has_to ls (lit l.atom true) t) j) | inr f ↦ f ])
        (has_from ls (lit l.atom false) j) d)))

codes : ℕ → List (List Lit) → List ℕ
codes n [] = []
codes n (ls ∷ lss) = code n ls ∷ codes n lss

codes_to : (n : ℕ) (lss : List (List Lit)) (c : ℕ) → c ∈ codes n lss → (ls : List Lit) × (ls ∈ lss) × (c ≡ code n ls)
unfolding codes
codes_to n [] c i = absurd i
codes_to n (ls ∷ lss) c (inl e) = (ls, inl refl, e)
codes_to n (ls ∷ lss) c (inr i) = let r = codes_to n lss c i in (r.0, inr r.1, r.2)

codes_length : (n : ℕ) (lss : List (List Lit)) → length (codes n lss) ≡ length lss
unfolding codes
codes_length n [] = refl
codes_length n (ls ∷ lss) = ap suc (codes_length n lss)

codes_once : (n : ℕ) (lss : List (List Lit)) → AreApart lss → ((ls : List Lit) → ls ∈ lss → ((l : Lit) → l ∈ ls → l.atom < n) × IsConsistent ls) → HasNoRepeats (codes n lss)
unfolding codes
codes_once n [] apart good = tt
codes_once n (ls ∷ lss) apart good = (
  (λ i. let r = codes_to n lss (code n ls) i in let g = good r.0 (inr r.1) in apart.0 r.0 r.1 (same_code_subset n r.0 ls g.0 g.1 (sym r.2))),
  codes_once n lss apart.1 (λ ms i. good ms (inr i)),
)

-- ---- a set of numbers below n has at most n

distinct : (xs : List ℕ) → HasNoRepeats xs → IsDistinct nat_eq xs
unfolding IsDistinct
distinct [] once = tt
distinct (x ∷ xs) once = (apart x xs once.0, distinct xs once.1)
  where
    apart : (x : ℕ) (xs : List ℕ) → ¬ (x ∈ xs) → AllByRecursion (λ y. nat_eq x y ≡ false) xs
    apart x [] out = tt
    apart x (y ∷ xs) out = (by_case (nat_eq x y) refl, apart x xs (λ k. out (inr k)))
      where
        by_case : (b : Bool) → nat_eq x y ≡ b → nat_eq x y ≡ false
        by_case true e = absurd (out (inl (nat_eq-true x y e)))
        by_case false e = e

few_below : (xs : List ℕ) (n : ℕ) → HasNoRepeats xs → ((i : ℕ) → i ∈ xs → i < n) → length xs ≤ n
few_below xs n once below = length-le_from_distinct_below xs n (distinct xs once) (λ q h. let r = any_to (nat_eq q) xs h in below q (subst (λ z. z ∈ xs) (sym (nat_eq-true q r.0 r.2)) r.1))

-- what stands at a place is below the length
get_below : {X : Type 0} (xs : List X) (n : ℕ) (x : X) → slice_get xs n ≡ Some x → n < length xs
get_below [] n x e = cc
get_below (y ∷ xs) zero x e = omega arith
get_below (y ∷ xs) (suc n) x e = up n (length xs) (get_below xs n x e)
  where
    up : (a b : ℕ) → a < b → suc a < suc b
    up a b h = omega (h, arith)

-- ---- the bound

known_below : {N A K : Type 0} (s : State N A K) (x : ℕ) → Known s x → x < length s.names
known_below s x (OfAtom a, h) = get_below s.names x (Named a) h
known_below s x (OfBody i, h) = get_below s.names x (BodyOf h.number) h.node

-- what is learned is at most as much as there are sets of literals
few_learned : {N A K : Type 0} (core : Rules N A K) (listed : List (List A)) (journal : List (Event A K)) → Legal core listed journal
    → length (learned journal) ≤ sets_over (length (State.names (replay core journal)))
few_learned core listed journal legal =
    let s = replay core journal in
    let n = length s.names in
    let valid = (legal_safe core listed journal legal).valid in
    subst (λ z. z ≤ sets_over n) (codes_length n (learned journal))
    (few_below (codes n (learned journal)) (sets_over n)
    (codes_once n (learned journal) (learned_apart core listed journal legal) (λ ls i. (
      (λ l j. known_below s l.atom (valid.known (nogood None ls) (learned_stored core journal ls i) l j)),
      learned_consistent core listed journal legal ls i,
    )))
    (λ c i. let r = codes_to n (learned journal) c i in subst (λ z. z < sets_over n) (sym r.2) (code_below n r.0)))

below_more : (n m t a : ℕ) → t ≡ n + m → a < n → a < t
below_more n m t a e h = omega (e, h, arith)

-- what is kept is stored
kept_below : {N A K : Type 0} (core : Rules N A K) (listed : List (List A)) (journal : List (Event A K)) → Legal core listed journal
    → (m : ℕ) → m ∈ State.kept (replay core journal) → m < length (State.nogoods (replay core journal))
kept_below core listed [] legal m i = absurd i
kept_below core listed (NameTerm node ∷ journal) legal m i = kept_below core listed journal legal.0 m i
kept_below core listed (NameAtom a ∷ journal) legal m i = kept_below core listed journal legal.0 m i
kept_below core listed (NameBody ∷ journal) legal m i = kept_below core listed journal legal.0 m i
kept_below core listed (Number x a number ∷ journal) legal m i = kept_below core listed journal legal.0 m i
kept_below core listed (Make k ∷ journal) legal m i = below_more (length (State.nogoods (replay core journal))) (length (nogoods_of k)) _ m (length-append (State.nogoods (replay core journal)) (nogoods_of k)) (kept_below core listed journal legal.0 m i)
kept_below core listed (Put a v n ∷ journal) legal m i = kept_below core listed journal legal.0 m i
kept_below core listed (Choose b up ∷ journal) legal m i = kept_below core listed journal legal.0 m i
kept_below core listed (Close x ∷ journal) legal m i = kept_below core listed journal legal.0 m i
kept_below core listed (Strike n ∷ journal) legal m i = kept_below core listed journal legal.0 m i
kept_below core listed (Keep n ∷ journal) legal m (inl e) = subst (λ z. z < length (State.nogoods (replay core journal))) (sym e) (get_below (State.nogoods (replay core journal)) n legal.1.2.2.0 legal.1.2.2.1)
kept_below core listed (Keep n ∷ journal) legal m (inr i) = kept_below core listed journal legal.0 m i
kept_below core listed (Learn how ls ∷ journal) legal m i = below_more (length (State.nogoods (replay core journal))) 1 _ m (length-append (State.nogoods (replay core journal)) (nogood None ls ∷ [])) (kept_below core listed journal legal.0 m i)
kept_below core listed (Justify patterns ls ∷ journal) legal m i = below_more (length (State.nogoods (replay core journal))) 1 _ m (length-append (State.nogoods (replay core journal)) (nogood None ls ∷ [])) (kept_below core listed journal legal.0 m i)
kept_below core listed (CallWide x ∷ journal) legal m i = kept_below core listed journal legal.0 m i
kept_below core listed (Back level ∷ journal) legal m i = kept_below core listed journal legal.0 m i
kept_below core listed (Show ids ∷ journal) legal m i = kept_below core listed journal legal.0 m i
kept_below core listed (Pass ids ∷ journal) legal m i = kept_below core listed journal legal.0 m i

bound : (strikes answers kept left learned made nogoods sets : ℕ) → strikes ≤ answers + kept + left → answers ≤ learned → kept ≤ nogoods → nogoods ≡ learned + made → learned ≤ sets
    → strikes ≤ sets + sets + made + left
bound strikes answers kept left learned made nogoods sets h a k n l = omega (h, a, k, n, l, arith)

-- law: there are only so many struck nogoods
pub strikes_are_bounded : {N A K : Type 0} → StrikesAreBounded N A K
strikes_are_bounded core listed journal legal =
    let s = replay core journal in
    bound (strikes journal) (answers journal) (length s.kept) (unanswered s.phase) (length (learned journal)) (of_instances journal) (length s.nogoods) (sets_over (length s.names))
    (each_struck_is_answered core listed journal legal)
    (answers_learned journal)
    (few_below s.kept (length s.nogoods) (kept_once core listed journal legal) (kept_below core listed journal legal))
    (nogoods_count core journal)
    (few_learned core listed journal legal)

-- ---- the bound in powers of three

three_times : (s p q : ℕ) → s ≡ p → q ≡ p * 3 → s + s + s ≡ q
three_times s p q h e = omega (h, e, arith)

-- so many sets of literals there are
sets_are : (n : ℕ) → sets_over n ≡ 3 ^ n
sets_are zero = refl
sets_are (suc n) = three_times (sets_over n) (3 ^ n) (3 ^ suc n) (sets_are n) (pow-suc 3 n)

same_or_less : (n m : ℕ) → n ≤ suc m → (n ≡ suc m) ⊎ (n ≤ m)
same_or_less n m h = go (nat_eq n (suc m)) refl
  where
    less : (n m : ℕ) → n ≤ suc m → ¬ (n ≡ suc m) → n ≤ m
    less n m h d = grind arith

    go : (b : Bool) → nat_eq n (suc m) ≡ b → (n ≡ suc m) ⊎ (n ≤ m)
    go true e = inl (nat_eq-true n (suc m) e)
    go false e = inr (less n m h (λ w. let q : nat_eq n n ≡ false = subst (λ z. nat_eq n z ≡ false) (sym w) e in let t = nat_eq-same n in cc))

le_same : (a b : ℕ) → a ≡ b → a ≤ b
le_same a b e = omega (e, arith)

le_thrice : (a b : ℕ) → a ≤ b → a ≤ b + b + b
le_thrice a b h = omega (h, arith)

-- over more atoms there are as many at least
sets_more : (n m : ℕ) → n ≤ m → sets_over n ≤ sets_over m
sets_more n zero h = le_same (sets_over n) 1 (ap sets_over (let q : n ≡ 0 = omega (h, arith) in q))
sets_more n (suc m) h = elim (same_or_less n m h) [
  | inl e ↦ le_same (sets_over n) (sets_over (suc m)) (ap sets_over e)
  | inr k ↦ le_thrice (sets_over n) (sets_over m) (sets_more n m k)
]

one_named : (l a b : ℕ) → l ≡ a + b → suc l ≡ a + 1 + b
one_named l a b h = omega (h, arith)

one_body : (l a b : ℕ) → l ≡ a + b → suc l ≡ a + (b + 1)
one_body l a b h = omega (h, arith)

-- an id is that of a named atom or of a body
names_parted : {A : Type 0} (names : List (AtomNode A)) → length names ≡ named_so_far names + bodies_so_far names
names_parted [] = refl
names_parted (Named a ∷ names) = one_named (length names) (named_so_far names) (bodies_so_far names) (names_parted names)
names_parted (BodyOf k ∷ names) = one_body (length names) (named_so_far names) (bodies_so_far names) (names_parted names)

within : (l a b n m : ℕ) → l ≡ a + b → a ≤ n → b ≤ m → l ≤ n + m
within l a b n m e h k = omega (e, h, k, arith)

wider : (strikes sets more made k left : ℕ) → strikes ≤ sets + sets + made + left → sets ≤ more → made ≤ k → strikes ≤ 2 * more + k + left
wider strikes sets more made k left h s m = omega (h, s, m, arith)

-- law: the same by the numbers of atoms, bodies and nogoods
pub strikes_are_few : {N A K : Type 0} → StrikesAreFew N A K
strikes_are_few core listed journal legal n m k few_named few_bodies few_made =
    let s = replay core journal in
    let names = within (length s.names) (named_so_far s.names) (bodies_so_far s.names) n m (names_parted s.names) few_named few_bodies in
    subst (λ z. strikes journal ≤ 2 * z + k + unanswered s.phase) (sets_are (n + m))
    (wider (strikes journal) (sets_over (length s.names)) (sets_over (n + m)) (of_instances journal) k (unanswered s.phase)
    (strikes_are_bounded core listed journal legal) (sets_more (length s.names) (n + m) names) few_made)
