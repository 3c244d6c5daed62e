-- Each event that may come keeps the invariant; the laws over whole journals.
use Rattle.std.proofs.Common.{◌≡◌, ℕ, ◌⊎◌, Bool, true, false, List, [], ◌∷◌, ◌++◌, length, refl, sym, ◌∙◌, ap, subst, inl, inr}
use Rattle.std.specs.Prelude.{Option, Some, None, slice_get}
use Rattle.lists.specs.Lists.{◌∈◌}
use Rattle.lists.proofs.ListLemmas.{∈-append_left, ∈-append_right, ∈-append_cases}
use Rattle.search_values.specs.declared.entry.Why.TheVariants.{Given, Chosen, Closed}
use Rattle.search_values.specs.declared.entry.Entry.{Entry}
use Rattle.search_values.specs.Values.{Value, True, MustBe, False, Lit, lit, value_of, entry_on, back_to, all_at_0, chosen, HasClosed}
use Rattle.search_values.specs.Nogoods.{Nogood, IsStruck, Gives, NoneUnit}
use Rattle.search_values.specs.Instances.{Kind, Plain, Choice, Constraint, Instance, all_in, none_in, head_taken, Rules}
use Rattle.search_values.specs.Tables.{Made, nogoods_of}
use Rattle.search_values.specs.Ids.{Named, BodyOf, Names, KindNames, Denotes}
use Rattle.journal_theory.specs.States.{Phase, Free, MustLearn, MustDecide, Found, MustStrike, MustJump, Over, State, IsName, Agrees, WasFound, AreUserAtoms, IsOpen, IsSound, IsActive, NoneActive, IsStuck, IsFull, AreTrueUserAtoms}
use Rattle.journal_theory.specs.Events.{Analysed, Justified, Decisions, Enumerated, Event, NameTerm, NameAtom, NameBody, Number, Make, Put, Choose, Close, Strike, Keep, Learn, Justify, CallWide, Back, Show, Pass, phase_struck, phase_learned, first_value, phase_justified, explain_first, lits_in, lits_at, happens, BodyIsNext, Allowed}
use Rattle.search_values.specs.Values.{decision}
use Rattle.journal_theory.specs.Journals.{start, replay, Legal, IsFinished}
use Rattle.search_values.proofs.Basics.{in_single, get_left, get_last, get_in, bool_cases}
use Rattle.journal_theory.proofs.Meaning.{Meaning, OfAtom, OfBody, meaning_true, IsBody, Means, means_grows, truth_means, Grows, Known, known_grows, Later, AllKnown, sound_later}
use Rattle.journal_theory.proofs.Stack.{since_closed, Complete, GoodEntry, Good, agrees_all, struck_blocks, put_follows, choose_follows, close_follows, good_back, closed_complete, chosen_known, good_later, struck_at_0_blocks, all_at_0-hold}
use Rattle.journal_theory.proofs.Central.{GoodMade, Valid, names_in, central}
use Rattle.journal_theory.proofs.Instances.{table_sound}
use Rattle.journal_theory.specs.Covers.{IsWanted, for_stuck, for_closed, for_unassigned}
use Rattle.journal_theory.proofs.Explaining.{chosen_first, has_closed_first, good_first}
use Rattle.journal_theory.proofs.Learning.{analysed_known, analysed_sound}
use Rattle.journal_theory.proofs.Covers.{justified_known, justified_sound}
use Rattle.journal_theory.proofs.Keep.{Blocked, PhaseHolds, IsSafe, valid_later, made_later, open_before, later_from, from_same, name_keeps, HeadHas, table_all}
use Rattle.alpha_outside.specs.declared.node.Node.{Node}

module _ {N A K : Type 0} (core : Rules N A K) (s : State N A K) where
  -- a new instance
  pub make_grows : (k : Made K) → Grows s (happens core s (Make k))
  make_grows k = record { names = λ x n e. e; made = λ j m e. get_left s.made (k ∷ []) j m e }

  head_known : (s' : State N A K) (k : Kind ℕ) (i : Kind A) → KindNames s'.names k i → HeadHas (Known s') k
  head_known s' (Plain x) (Plain a) h = (OfAtom a, h)
  head_known s' (Choice x) (Choice a) h = (OfAtom a, h)
  head_known s' Constraint Constraint h = tt
  head_known s' (Plain x) (Choice a) h = absurd h
  head_known s' (Plain x) Constraint h = absurd h
  head_known s' (Choice x) (Plain a) h = absurd h
  head_known s' (Choice x) Constraint h = absurd h
  head_known s' Constraint (Plain a) h = absurd h
  head_known s' Constraint (Choice a) h = absurd h

  next_body : (body : Option ℕ) → BodyIsNext s body → (b : ℕ) → body ≡ Some b → slice_get s.names b ≡ Some (BodyOf (length s.made))
  next_body None h b e = cc
  next_body (Some c) h b e = let f : c ≡ b = cc in subst (λ z. slice_get s.names z ≡ Some (BodyOf (length s.made))) f h

  make_keeps : (listed : List (List A)) (k : Made K) → Valid core s → Allowed core listed s (Make k) → Valid core (happens core s (Make k))
  make_keeps listed k v ok =
      valid_later core s s' v later v.once v.speak
      (λ m i. elim (∈-append_cases m s.made (k ∷ []) i) [
        | inl j ↦ made_later core s s' (make_grows k) (λ m j e. e) (λ ng l. ∈-append_left ng s.nogoods (nogoods_of k) l) m (v.made m j)
        | inr j ↦ (let e : m ≡ k = in_single j in subst (λ (z : Made K). GoodMade core s' z) (sym e) good_new)
      ])
      (λ ng i. elim (∈-append_cases ng s.nogoods (nogoods_of k) i) [
        | inl j ↦ inl j
        | inr j ↦ inr (
          table_all (Known s') k.inst.kind k.body k.inst (head_known s' k.inst.kind inst.kind denotes.kind)
              (λ b e. (OfBody inst, is_body b e))
              (λ x m. let r = names_in s.names k.inst.pos inst.pos denotes.pos x m in (OfAtom r.0, r.2))
              (λ x m. let r = names_in s.names k.inst.neg inst.neg denotes.neg x m in (OfAtom r.0, r.2))
              ng j,
          table_sound core s' k inst of_core denotes ok.4 is_body ng j,
        )
      ])
      (good_later core s s' later s.stack (inl (from_same core s s' refl (make_grows k) (λ ids i. i))) v.good)
    where
      s' : State N A K
      s' = happens core s (Make k)

      later : Later core s s'
      later = later_from core s s' refl (make_grows k) (λ ids i. i)

      inst : Instance A
      inst = ok.2.0

      of_core : core.instance_of s.numbers k.maker ≡ Some inst
      of_core = ok.2.1

      denotes : Denotes s.names k.inst inst
      denotes = ok.2.2

      body_node : (b : ℕ) → k.body ≡ Some b → (j : ℕ) × (slice_get s'.names b ≡ Some (BodyOf j)) × (slice_get s'.made j ≡ Some k)
      body_node b e = (length s.made, next_body k.body ok.5 b e, get_last s.made k)

      is_body : (b : ℕ) → k.body ≡ Some b → IsBody s' b inst
      is_body b e = let w = body_node b e in record { number = w.0; made = k; node = w.1; is_made = w.2; denotes = denotes }

      good_new : GoodMade core s' k
      good_new = record {
        inst = inst;
        of_core = of_core;
        denotes = denotes;
        fits = ok.4;
        body = body_node;
        stored = λ ng i. ∈-append_right ng s.nogoods (nogoods_of k) i;
      }

  -- a state with the same names, instances, nogoods and sets shown, and a stack that is good
  stack_keeps : (stack : List Entry) (closing : Bool) (phase : Phase) → Valid core s → Good core s stack → Valid core (record s { stack = stack; closing = closing; phase = phase })
  stack_keeps stack closing phase v g =
      valid_later core s s' v later v.once v.speak
      (λ k i. made_later core s s' grows (λ m j e. e) (λ ng j. j) k (v.made k i))
      (λ ng i. inl i)
      (good_later core s s' later stack (inl (from_same core s s' refl grows (λ ids i. i))) g)
    where
      s' : State N A K
      s' = record s { stack = stack; closing = closing; phase = phase }

      grows : Grows s s'
      grows = record { names = λ x n e. e; made = λ j k e. e }

      later : Later core s s'
      later = later_from core s s' refl grows (λ ids i. i)

  -- a learned nogood
  learn_keeps : (ls : List Lit) (phase : Phase) → Valid core s → AllKnown s ls → IsSound core s ls → Valid core (record s { nogoods = s.nogoods ++ record { lits = ls; head = None } ∷ []; phase = phase })
  learn_keeps ls phase v known sound =
      valid_later core s s' v later v.once v.speak
      (λ k i. made_later core s s' grows (λ m j e. e) (λ ng j. ∈-append_left ng s.nogoods (new ∷ []) j) k (v.made k i))
      (λ ng i. elim (∈-append_cases ng s.nogoods (new ∷ []) i) [
        | inl j ↦ inl j
        | inr j ↦ (let e : ng ≡ new = in_single j in inr (subst (λ (z : Nogood). AllKnown s' z.lits × IsSound core s' z.lits) (sym e) (known', sound')))
      ])
      (good_later core s s' later s.stack (inl (from_same core s s' refl grows (λ ids i. i))) v.good)
    where
      new : Nogood
      new = record { lits = ls; head = None }

      s' : State N A K
      s' = record s { nogoods = s.nogoods ++ new ∷ []; phase = phase }

      grows : Grows s s'
      grows = record { names = λ x n e. e; made = λ j k e. e }

      later : Later core s s'
      later = later_from core s s' refl grows (λ ids i. i)

      known' : AllKnown s' ls
      known' l i = known_grows s s' grows l.atom (known l i)

      sound' : IsSound core s' ls
      sound' = sound_later core s s' later ls known sound

  -- a justified nogood, which may be the reason of a closed entry
  justify_keeps : (ls : List Lit) (phase : Phase) → Valid core s → AllKnown s ls → IsSound core s ls
      → Valid core (record s { nogoods = s.nogoods ++ record { lits = ls; head = None } ∷ []; stack = explain_first ls (length s.nogoods) s.stack; phase = phase })
  justify_keeps ls phase v known sound =
      valid_later core s s' v later v.once v.speak
      (λ k i. made_later core s s' grows (λ m j e. e) (λ ng j. ∈-append_left ng s.nogoods (new ∷ []) j) k (v.made k i))
      (λ ng i. elim (∈-append_cases ng s.nogoods (new ∷ []) i) [
        | inl j ↦ inl j
        | inr j ↦ (let e : ng ≡ new = in_single j in inr (subst (λ (z : Nogood). AllKnown s' z.lits × IsSound core s' z.lits) (sym e) (known', sound')))
      ])
      (good_later core s s' later (explain_first ls (length s.nogoods) s.stack) (inl (from_same core s s' refl grows (λ ids i. i))) (good_first core s ls (length s.nogoods) s.stack v.good))
    where
      new : Nogood
      new = record { lits = ls; head = None }

      s' : State N A K
      s' = record s { nogoods = s.nogoods ++ new ∷ []; stack = explain_first ls (length s.nogoods) s.stack; phase = phase }

      grows : Grows s s'
      grows = record { names = λ x n e. e; made = λ j k e. e }

      later : Later core s s'
      later = later_from core s s' refl grows (λ ids i. i)

      known' : AllKnown s' ls
      known' l i = known_grows s s' grows l.atom (known l i)

      sound' : IsSound core s' ls
      sound' = sound_later core s s' later ls known sound

  -- a nogood that is kept
  kept_keeps : (kept : List ℕ) (phase : Phase) → Valid core s → Valid core (record s { kept = kept; phase = phase })
  kept_keeps kept phase v =
      valid_later core s s' v later v.once v.speak
      (λ k i. made_later core s s' grows (λ m j e. e) (λ ng j. j) k (v.made k i))
      (λ ng i. inl i)
      (good_later core s s' later s.stack (inl (from_same core s s' refl grows (λ ids i. i))) v.good)
    where
      s' : State N A K
      s' = record s { kept = kept; phase = phase }

      grows : Grows s s'
      grows = record { names = λ x n e. e; made = λ j k e. e }

      later : Later core s s'
      later = later_from core s s' refl grows (λ ids i. i)

  -- a set that is shown or passed
  found_keeps : (shown passed : List (List ℕ)) (phase : Phase) → ((ids : List ℕ) → WasFound s ids → (ids ∈ shown) ⊎ (ids ∈ passed))
      → Valid core s → Valid core (record s { shown = shown; passed = passed; phase = phase })
  found_keeps shown passed phase more v =
      valid_later core s s' v later v.once v.speak
      (λ k i. made_later core s s' grows (λ m j e. e) (λ ng j. j) k (v.made k i))
      (λ ng i. inl i)
      (good_later core s s' later s.stack (inl (from_same core s s' refl grows more)) v.good)
    where
      s' : State N A K
      s' = record s { shown = shown; passed = passed; phase = phase }

      grows : Grows s s'
      grows = record { names = λ x n e. e; made = λ j k e. e }

      later : Later core s s'
      later = later_from core s s' refl grows more

  -- a new term
  term_keeps : (terms : List Node) → Valid core s → Valid core (record s { terms = terms })
  term_keeps terms v =
      valid_later core s s' v later v.once v.speak
      (λ k i. made_later core s s' grows (λ m j e. e) (λ ng j. j) k (v.made k i))
      (λ ng i. inl i)
      (good_later core s s' later s.stack (inl (from_same core s s' refl grows (λ ids i. i))) v.good)
    where
      s' : State N A K
      s' = record s { terms = terms }

      grows : Grows s s'
      grows = record { names = λ x n e. e; made = λ j k e. e }

      later : Later core s s'
      later = later_from core s s' refl grows (λ ids i. i)

  -- a full state is settled but for what has no value

  -- in a full state what is known has a value
  pub named_valued : IsFull core s → (x : ℕ) → Known s x → (v : Value) × (value_of s.stack x ≡ Some v)
  named_valued full x (OfAtom a, h) = full.all_valued x (Named a) h
  named_valued full x (OfBody i, h) = full.all_valued x (BodyOf h.number) h.node

  valued_not_none : (x : ℕ) → (v : Value) × (value_of s.stack x ≡ Some v) → value_of s.stack x ≡ None → ⊥
  valued_not_none x w e = let f = w.1 in cc

  full_quiet : Valid core s → IsFull core s → NoneUnit s.stack s.nogoods
  full_quiet v full ng i a True r = elim r.not_yet [
    | inl n ↦ valued_not_none a (named_valued full a (v.known ng i (lit a false) r.among)) n
    | inr m ↦ full.none_must_be a m
  ]
  full_quiet v full ng i a MustBe r = valued_not_none a (named_valued full a (v.known ng i (lit a false) r.0.among)) r.0.unassigned
  full_quiet v full ng i a False r = valued_not_none a (named_valued full a (v.known ng i (lit a true) r.among)) r.unassigned

  full_idle : Valid core s → IsFull core s → NoneActive s
  full_idle v full k i b act = elim act.not_yet [
    | inl n ↦ (let w = (v.made k i).body b act.has_body in valued_not_none b (full.all_valued b (BodyOf w.0) w.1) n)
    | inr m ↦ full.none_must_be b m
  ]

  -- in a full state the true atoms are all that an open set can have
  pub full_complete : Valid core s → IsFull core s → Complete core s s.stack
  full_complete v full = central core s v (full_quiet v full) (full_idle v full) full.none_due full.none_waiting

  -- the set shown is the only one that agrees with what is chosen
  pub shown_only : (ids : List ℕ) → Valid core s → IsFull core s → AreTrueUserAtoms core s ids → (c : A → Bool) → IsOpen core s c → Agrees s c (chosen s.stack) → AreUserAtoms core s c ids
  shown_only ids v full are c o h = (
    λ a u t. let r = full_complete v full c o h a t in (r.0, are.all_there r.0 a r.1 u r.2, r.1),
    λ x i. let r = are.each_true x i in (r.0, r.1, sym (truth_means s c x (OfAtom r.0) r.1) ∙ agrees_all core s s.stack v.good c o h x True r.3, r.2),
  )

  -- a stuck atom leaves no open set
  pub stuck_blocks : Valid core s → (x : ℕ) → IsStuck core s x → Blocked core s
  stuck_blocks v x stuck c o h =
      let full : Complete core s s.stack = elim stuck.why [
        | inl settled ↦ central core s v settled.none_unit settled.none_active settled.none_due settled.none_waiting
        | inr since ↦ (let closed = since_closed s.stack x since in closed_complete core s s.stack v.good closed.0 closed.1 closed.2.0 closed.2.1)
      ] in
      let a : A = stuck.named.0 in
      let t : c a ≡ true = sym (truth_means s c x (OfAtom a) stuck.named.1) ∙ agrees_all core s s.stack v.good c o h x MustBe stuck.must_be in
      let r = full c o h a t in
      let e : r.0 ≡ x = v.once r.0 x a r.1 stuck.named.1 in
      let w : value_of s.stack x ≡ Some True = subst (λ z. value_of s.stack z ≡ Some True) e r.2 in
      let m = stuck.must_be in
      cc

  -- a state that differs in its phase alone
  phase_later : (phase : Phase) → (c : A → Bool) → IsOpen core (record s { phase = phase }) c → IsOpen core s c
  phase_later phase = open_before core s (record s { phase = phase }) refl (record { names = λ x n e. e; made = λ j k e. e }) (λ ids i. i)

  phase_valid : (phase : Phase) → Valid core s → Valid core (record s { phase = phase })
  phase_valid phase v = stack_keeps s.stack s.closing phase v v.good

  -- what a phase says stays where the open sets and the literals chosen do
  phase_stays : (s' : State N A K) → ((c : A → Bool) → IsOpen core s' c → IsOpen core s c) → ((c : A → Bool) → Agrees s' c (chosen s'.stack) → Agrees s c (chosen s.stack))
      → (phase : Phase) → PhaseHolds core s phase → PhaseHolds core s' phase
  phase_stays s' later back Free ok = tt
  phase_stays s' later back (MustLearn n) ok = λ c o h. ok c (later c o) (back c h)
  phase_stays s' later back MustDecide ok = λ c o h. ok c (later c o) (back c h)
  phase_stays s' later back Found ok = λ c o h. ok c (later c o) (back c h)
  phase_stays s' later back (MustStrike n) ok = tt
  phase_stays s' later back (MustJump n) ok = tt
  phase_stays s' later back Over ok = λ c o. ok c (later c o)

  free_holds : (s' : State N A K) (phase : Phase) → phase ≡ Free → PhaseHolds core s' phase
  free_holds s' phase e = subst (λ z. PhaseHolds core s' z) (sym e) tt

  push_closing : (e : Entry) → HasClosed s.stack → HasClosed (e ∷ s.stack)
  push_closing e h = (h.0, inr h.1, h.2)

  -- after a struck nogood: at level 0 no open set is left, else none that agrees with the literals chosen
  strike_holds : (v : Valid core s) (ng : Nogood) → ng ∈ s.nogoods → IsStruck s.stack ng → (n : ℕ)
      → (low : Bool) → all_at_0 s.stack ng.lits ≡ low
      → (s' : State N A K) → ((c : A → Bool) → IsOpen core s' c → IsOpen core s c)
      → ((c : A → Bool) → Agrees s' c (chosen s'.stack) → Agrees s c (chosen s.stack))
      → PhaseHolds core s' (phase_struck n low)
  strike_holds v ng i struck n true e s' later back = λ c o.
      struck_at_0_blocks core s s.stack v.good ng (v.sound ng i) (all_at_0-hold core s s.stack v.good ng.lits struck e) c (later c o)
  strike_holds v ng i struck n false e s' later back = λ c o h. struck_blocks core s s.stack v.good ng (v.sound ng i) struck c (later c o) (back c h)

  learned_holds : (s' : State N A K) (phase : Phase) (n : ℕ) → PhaseHolds core s' (phase_learned phase n)
  learned_holds s' Free n = tt
  learned_holds s' (MustLearn m) n = tt
  learned_holds s' MustDecide n = tt
  learned_holds s' Found n = tt
  learned_holds s' (MustStrike m) n = tt
  learned_holds s' (MustJump m) n = tt
  learned_holds s' Over n = tt

  -- what is wanted is so while no open set agrees with the literals chosen
  wanted_blocked : Valid core s → PhaseHolds core s s.phase → (x : ℕ) → IsWanted core s x → ¬ (value_of s.stack x ≡ None) → Blocked core s
  wanted_blocked v h x (for_stuck e stuck) some = stuck_blocks v x stuck
  wanted_blocked v h x (for_unassigned e can) some = absurd (some can.no_value)
  wanted_blocked v h x (for_closed n ng ls e at w a i) some = subst (λ z. PhaseHolds core s z) e h

  justified_holds : (s' : State N A K) → PhaseHolds core s' s.phase → (v : Option Value) (n : ℕ) → PhaseHolds core s' (phase_justified s.phase v n)
  justified_holds s' h v n = go s.phase v h
    where
      go : (phase : Phase) (v : Option Value) → PhaseHolds core s' phase → PhaseHolds core s' (phase_justified phase v n)
      go Free None k = tt
      go Free (Some v) k = tt
      go (MustLearn m) v k = k
      go MustDecide v k = k
      go Found v k = k
      go (MustStrike m) v k = k
      go (MustJump m) v k = k
      go Over v k = k

  -- a member gets its number

  names_agree : (c c1 : A → Bool) → ((a : A) → core.may_be_named s.numbers a ≡ true → c1 a ≡ c a) → Valid core s → (xs : List ℕ) (atoms : List A) → Names s.names xs atoms → (all_in c1 atoms ≡ all_in c atoms) × (none_in c1 atoms ≡ none_in c atoms)
  names_agree c c1 t v [] [] h = (refl, refl)
  names_agree c c1 t v [] (a ∷ atoms) h = absurd h
  names_agree c c1 t v (x ∷ xs) [] h = absurd h
  names_agree c c1 t v (x ∷ xs) (a ∷ atoms) h = let e = t a (v.speak x a h.0) in let r = names_agree c c1 t v xs atoms h.1 in let p = r.0 in let q = r.1 in (cc, cc)

  kind_agree : (c c1 : A → Bool) → ((a : A) → core.may_be_named s.numbers a ≡ true → c1 a ≡ c a) → Valid core s → (k : Kind ℕ) (i : Kind A) → KindNames s.names k i → head_taken c1 i ≡ head_taken c i
  kind_agree c c1 t v (Choice x) (Choice a) h = t a (v.speak x a h)
  kind_agree c c1 t v (Plain x) (Plain a) h = refl
  kind_agree c c1 t v Constraint Constraint h = refl
  kind_agree c c1 t v (Plain x) (Choice a) h = absurd h
  kind_agree c c1 t v (Plain x) Constraint h = absurd h
  kind_agree c c1 t v (Choice x) (Plain a) h = absurd h
  kind_agree c c1 t v (Choice x) Constraint h = absurd h
  kind_agree c c1 t v Constraint (Plain a) h = absurd h
  kind_agree c c1 t v Constraint (Choice a) h = absurd h

  -- sets that agree on what may be named agree on what ids mean
  pub means_agree : (c c1 : A → Bool) → ((a : A) → core.may_be_named s.numbers a ≡ true → c1 a ≡ c a) → Valid core s → (x : ℕ) (m : Meaning A) → Means s x m → meaning_true c1 m ≡ meaning_true c m
  means_agree c c1 t v x (OfAtom a) h = t a (v.speak x a h)
  means_agree c c1 t v x (OfBody i) h =
      let p = (names_agree c c1 t v h.made.inst.pos i.pos h.denotes.pos).0 in
      let n = (names_agree c c1 t v h.made.inst.neg i.neg h.denotes.neg).1 in
      let k = kind_agree c c1 t v h.made.inst.kind i.kind h.denotes.kind in
      cc

  -- giving a number leads to a later state
  pub number_later : Valid core s → (x : ℕ) (a : A) (number : ℕ) → core.is_numbered s.numbers a ≡ false → Later core s (happens core s (Number x a number))
  number_later v x a number fresh = record {
    grows = grows;
    earlier = λ c o. let r = core.without s.numbers a o.numbering c fresh o.extending o.answers in (
      r.1,
      record {
        numbering = r.0;
        extending = r.2;
        answers = r.3;
        not_found = λ ids i h. o.not_found ids i (
          (λ b u t. h.0 b u (r.4 b (core.user_named s.numbers b u) ∙ t)),
          (λ y j. let w = h.1 y j in (w.0, w.1, sym (r.4 w.0 (core.user_named s.numbers w.0 w.3)) ∙ w.2, w.3)),
        );
      },
      λ y k. truth_means s r.1 y k.0 k.1 ∙ means_agree c r.1 r.4 v y k.0 k.1 ∙ sym (truth_means s' c y k.0 (means_grows s s' grows y k.0 k.1)),
    );
  }
    where
      s' : State N A K
      s' = happens core s (Number x a number)

      grows : Grows s s'
      grows = record { names = λ x n e. e; made = λ j k e. e }

  number_keeps : (listed : List (List A)) (x : ℕ) (a : A) (number : ℕ) → IsSafe core s → Allowed core listed s (Number x a number) → IsSafe core (happens core s (Number x a number))
  number_keeps listed x a number inv ok = record {
    valid = valid_later core s s' inv.valid later inv.valid.once
        (λ y b p. core.named_given s.numbers a b ok.3 (inv.valid.speak y b p))
        (λ k i. made_later core s s' later.grows (λ m j e. core.instance_given s.numbers a m j ok.3 e) (λ ng j. j) k (inv.valid.made k i))
        (λ ng i. inl i)
        (good_later core s s' later s.stack (inr (λ e i reason w. ok.5 (e, i, (reason, w)))) inv.valid.good);
    closing = inv.closing;
    phase = free_holds s' s.phase ok.0;
  }
    where
      s' : State N A K
      s' = happens core s (Number x a number)

      later : Later core s s'
      later = number_later inv.valid x a number ok.3

  -- each event that may come keeps the invariant
  pub safe_keeps : (listed : List (List A)) (e : Event A K) → IsSafe core s → Allowed core listed s e → IsSafe core (happens core s e)
  safe_keeps listed (NameTerm node) inv ok = record {
    valid = term_keeps (s.terms ++ node ∷ []) inv.valid;
    closing = inv.closing;
    phase = phase_stays (happens core s (NameTerm node)) (open_before core s (happens core s (NameTerm node)) refl (record { names = λ x n e. e; made = λ j k e. e }) (λ ids i. i)) (λ c h. h) s.phase inv.phase;
  }
  safe_keeps listed (NameAtom a) inv ok = record {
    valid = name_keeps core s (Named a) inv.valid (λ x b e h. let f : a ≡ b = cc in ok.1 x (subst (λ z. IsName s x z) (sym f) h)) (λ b e. let f : a ≡ b = cc in subst (λ z. core.may_be_named s.numbers z ≡ true) f ok.2);
    closing = inv.closing;
    phase = free_holds (happens core s (NameAtom a)) s.phase ok.0;
  }
  safe_keeps listed NameBody inv ok = record {
    valid = name_keeps core s (BodyOf (length s.made)) inv.valid (λ x b e h. cc) (λ b e. cc);
    closing = inv.closing;
    phase = free_holds (happens core s NameBody) s.phase ok.0;
  }
  safe_keeps listed (Make k) inv ok = record {
    valid = make_keeps listed k inv.valid ok;
    closing = inv.closing;
    phase = free_holds (happens core s (Make k)) s.phase ok.0;
  }
  safe_keeps listed (Put a v n) inv ok = record {
    valid = stack_keeps (e ∷ s.stack) s.closing s.phase inv.valid (good_e, inv.valid.good);
    closing = λ w. push_closing e (inv.closing w);
    phase = free_holds (happens core s (Put a v n)) s.phase ok.0;
  }
    where
      e : Entry
      e = entry_on s.stack a v (Given n)

      ng : Nogood
      ng = ok.1.0

      ng_in : ng ∈ s.nogoods
      ng_in = get_in s.nogoods n ng ok.1.1

      free : (v : Value) → Gives s.stack ng a v → (value_of s.stack a ≡ None) ⊎ ((value_of s.stack a ≡ Some MustBe) × (v ≡ True))
      free True r = elim r.not_yet [ inl n ↦ inl n | inr m ↦ inr (m, refl) ]
      free MustBe r = inl r.0.unassigned
      free False r = inl r.unassigned

      known : (v : Value) → Gives s.stack ng a v → Known s a
      known True r = inv.valid.known ng ng_in (lit a false) r.among
      known MustBe r = inv.valid.known ng ng_in (lit a false) r.0.among
      known False r = inv.valid.known ng ng_in (lit a true) r.among

      good_e : GoodEntry core s e s.stack
      good_e = record {
        may_push = free v ok.1.2;
        known = known v ok.1.2;
        follows = put_follows core s s.stack inv.valid.good ng (inv.valid.sound ng ng_in) a v n ok.1.2;
        full = λ reason w. cc;
        decided = λ w. cc;
        closed_down = λ reason w. cc;
      }
  safe_keeps listed (Choose b up) inv ok = record {
    valid = stack_keeps (e ∷ s.stack) false s.phase inv.valid (good_e, inv.valid.good);
    closing = λ w. cc;
    phase = free_holds (happens core s (Choose b up)) s.phase ok.0;
  }
    where
      e : Entry
      e = entry_on s.stack b (decision up) Chosen

      k : Made K
      k = ok.3.0

      act : IsActive s k b
      act = ok.3.2

      decided : (u : Bool) → ¬ (decision u ≡ MustBe)
      decided true e = cc
      decided false e = cc

      free : (value_of s.stack b ≡ None) ⊎ ((value_of s.stack b ≡ Some MustBe) × (up ≡ true))
      free = elim act.not_yet [ inl n ↦ inl n | inr m ↦ elim (bool_cases up) [ inl t ↦ inr (m, t) | inr f ↦ inl (ok.4 f) ] ]

      g : GoodMade core s k
      g = inv.valid.made k ok.3.1

      node : (j : ℕ) × (slice_get s.names b ≡ Some (BodyOf j)) × (slice_get s.made j ≡ Some k)
      node = g.body b act.has_body

      good_e : GoodEntry core s e s.stack
      good_e = record {
        may_push = elim free [ inl n ↦ inl n | inr m ↦ inr (m.0, ap decision m.1) ];
        known = (OfBody g.inst, record { number = node.0; made = k; node = node.1; is_made = node.2; denotes = g.denotes });
        follows = choose_follows core s s.stack inv.valid.good b up free;
        full = λ reason w. cc;
        decided = λ w. decided up;
        closed_down = λ reason w. cc;
      }
  safe_keeps listed (Close x) inv ok = record {
    valid = stack_keeps (e ∷ s.stack) true s.phase inv.valid (good_e, inv.valid.good);
    closing = λ w. (e, inl refl, (None, refl));
    phase = free_holds (happens core s (Close x)) s.phase ok.0;
  }
    where
      e : Entry
      e = entry_on s.stack x False (Closed None)

      full : Complete core s s.stack
      full = elim (bool_cases s.closing) [
        | inl t ↦ (let h = inv.closing t in closed_complete core s s.stack inv.valid.good h.0 h.1 h.2.0 h.2.1)
        | inr f ↦ (let st = ok.6 f in central core s inv.valid st.none_unit st.none_active st.none_due st.none_waiting)
      ]

      good_e : GoodEntry core s e s.stack
      good_e = record {
        may_push = inl ok.4;
        known = (OfAtom ok.3.0, ok.3.1);
        follows = close_follows core s s.stack full inv.valid.once x ok.3.0 ok.3.1 ok.4;
        full = λ reason w. full;
        decided = λ w. cc;
        closed_down = λ reason w. refl;
      }
  safe_keeps listed (Strike n) inv ok = record {
    valid = phase_valid (phase_struck n (all_at_0 s.stack (lits_at s.nogoods n))) inv.valid;
    closing = inv.closing;
    phase = strike_holds inv.valid ok.1.0 (get_in s.nogoods n ok.1.0 ok.1.1) ok.1.2 n (all_at_0 s.stack (lits_at s.nogoods n))
        (sym (ap (λ (g : Option Nogood). all_at_0 s.stack (lits_in g)) ok.1.1))
        (happens core s (Strike n)) (phase_later (phase_struck n (all_at_0 s.stack (lits_at s.nogoods n)))) (λ c h. h);
  }
  safe_keeps listed (Keep n) inv ok = record {
    valid = kept_keeps (n ∷ s.kept) (MustJump n) inv.valid;
    closing = inv.closing;
    phase = tt;
  }
  safe_keeps listed (Learn Decisions ls) inv ok = record {
    valid = learn_keeps ls (phase_learned s.phase (length s.nogoods)) inv.valid
        (subst (λ z. AllKnown s z) (sym ok.0.0) (chosen_known core s s.stack inv.valid.good))
        (subst (λ z. IsSound core s z) (sym ok.0.0) blocked);
    closing = inv.closing;
    phase = learned_holds (happens core s (Learn Decisions ls)) s.phase (length s.nogoods);
  }
    where
      blocked : Blocked core s
      blocked = subst (λ z. PhaseHolds core s z) ok.0.1 inv.phase
  safe_keeps listed (Learn Enumerated ls) inv ok = record {
    valid = learn_keeps ls (phase_learned s.phase (length s.nogoods)) inv.valid
        (subst (λ z. AllKnown s z) (sym ok.0.0) (chosen_known core s s.stack inv.valid.good))
        (subst (λ z. IsSound core s z) (sym ok.0.0) blocked);
    closing = inv.closing;
    phase = learned_holds (happens core s (Learn Enumerated ls)) s.phase (length s.nogoods);
  }
    where
      blocked : Blocked core s
      blocked = subst (λ z. PhaseHolds core s z) ok.0.1 inv.phase
  safe_keeps listed (Learn Analysed ls) inv ok = record {
    valid = learn_keeps ls (phase_learned s.phase (length s.nogoods)) inv.valid (analysed_known core s inv.valid ls ok.0.1) (analysed_sound core s inv.valid ls ok.0.1);
    closing = inv.closing;
    phase = learned_holds (happens core s (Learn Analysed ls)) s.phase (length s.nogoods);
  }
  safe_keeps listed (Learn Justified ls) inv ok = absurd ok.0
  safe_keeps listed (Justify patterns ls) inv ok = record {
    valid = justify_keeps ls (phase_justified s.phase (first_value ls s.stack) (length s.nogoods)) inv.valid (justified_known core s inv.valid patterns ls ok.0) (justified_sound core s inv.valid patterns ls ok.0);
    closing = λ w. has_closed_first ls (length s.nogoods) s.stack (inv.closing w);
    phase = justified_holds (happens core s (Justify patterns ls))
        (phase_stays (happens core s (Justify patterns ls)) (open_before core s (happens core s (Justify patterns ls)) refl (record { names = λ x n e. e; made = λ j k e. e }) (λ ids i. i))
        (λ c h. subst (λ z. Agrees s c z) (chosen_first ls (length s.nogoods) s.stack) h) s.phase inv.phase)
        (first_value ls s.stack) (length s.nogoods);
  }
  safe_keeps listed (CallWide x) inv ok = record {
    valid = phase_valid MustDecide inv.valid;
    closing = inv.closing;
    phase = λ c o h. wanted_blocked inv.valid inv.phase x ok.0 ok.1 c (phase_later MustDecide c o) h;
  }
  safe_keeps listed (Back l) inv ok = record {
    valid = stack_keeps (back_to l s.stack) false Free inv.valid (good_back core s l s.stack inv.valid.good);
    closing = λ w. cc;
    phase = tt;
  }
  safe_keeps listed (Show ids) inv ok = record {
    valid = found_keeps (ids ∷ s.shown) s.passed Found (λ k w. elim w [ inl i ↦ inl (inr i) | inr i ↦ inr i ]) inv.valid;
    closing = inv.closing;
    phase = λ c o h. o.not_found ids (inl (inl refl)) (shown_only ids inv.valid ok.1 ok.2 c (later c o) h);
  }
    where
      later : (c : A → Bool) → IsOpen core (happens core s (Show ids)) c → IsOpen core s c
      later = open_before core s (happens core s (Show ids)) refl (record { names = λ x n e. e; made = λ j k e. e }) (λ k w. elim w [ inl i ↦ inl (inr i) | inr i ↦ inr i ])
  safe_keeps listed (Pass ids) inv ok = record {
    valid = found_keeps s.shown (ids ∷ s.passed) Found (λ k w. elim w [ inl i ↦ inl i | inr i ↦ inr (inr i) ]) inv.valid;
    closing = inv.closing;
    phase = λ c o h. o.not_found ids (inr (inl refl)) (shown_only ids inv.valid ok.1 ok.2 c (later c o) h);
  }
    where
      later : (c : A → Bool) → IsOpen core (happens core s (Pass ids)) c → IsOpen core s c
      later = open_before core s (happens core s (Pass ids)) refl (record { names = λ x n e. e; made = λ j k e. e }) (λ k w. elim w [ inl i ↦ inl i | inr i ↦ inr (inr i) ])
  safe_keeps listed (Number x a number) inv ok = number_keeps listed x a number inv ok

  -- where a search is finished, every core answer set was shown or passed
  pub finished_none : IsSafe core s → IsFinished s → (c : A → Bool) → ¬ IsOpen core s c
  finished_none inv (inl over) c o = (subst (λ z. PhaseHolds core s z) over inv.phase) c o
  finished_none inv (inr found) c o = (subst (λ z. PhaseHolds core s z) found.0 inv.phase) c o (subst (λ z. Agrees s c z) (sym found.1) (λ l i. absurd i))

-- the state before any event is safe
pub safe_start : {N A K : Type 0} (core : Rules N A K) → IsSafe core (start core)
safe_start core = record {
  valid = record {
    once = λ x y a p q. cc;
    made = λ k i. absurd i;
    known = λ ng i. absurd i;
    sound = λ ng i. absurd i;
    good = tt;
    speak = λ x a p. cc;
  };
  closing = λ e. cc;
  phase = tt;
}

-- a legal journal leads to a state in which the invariant holds
pub legal_safe : {N A K : Type 0} (core : Rules N A K) (listed : List (List A)) (events : List (Event A K)) → Legal core listed events → IsSafe core (replay core events)
legal_safe core listed [] h = safe_start core
legal_safe core listed (e ∷ earlier) h = safe_keeps core (replay core earlier) listed e (legal_safe core listed earlier h.0) h.1
