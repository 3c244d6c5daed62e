-- The proofs of the laws.
use Rattle.std.proofs.Common.{◌≡◌, ℕ, ◌+◌, ◌<◌, ◌⊎◌, Bool, true, false, cond, List, [], ◌∷◌, ◌++◌, length, refl, sym, ◌∙◌, ap, subst, inl, inr, arith}
use Rattle.std.specs.Prelude.{Option, Some, None, nat_eq, nat_le, is_none}
use Rattle.lists.specs.Lists.{◌∈◌}
use Rattle.lists.proofs.ListLemmas.{∈-append_cases}
use Rattle.search_values.specs.declared.entry.Entry.{Entry}
use Rattle.search_values.specs.Values.{True, Lit, lit, value_of, opened, level_of, back_to, first_level, explain}
use Rattle.search_values.specs.Nogoods.{Nogood}
use Rattle.search_values.specs.Instances.{Plain, Instance, Rules}
use Rattle.search_values.specs.Tables.{lits_of, set_of, each_with, table_of}
use Rattle.search_values.specs.Ids.{Named}
use Rattle.journal_theory.specs.States.{State, IsName, IsSound, AreTrueUserAtoms, IsSetOf}
use Rattle.journal_theory.specs.Events.{Analysed, Justified, Decisions, Enumerated, Event, NameTerm, NameAtom, NameBody, Number, Make, Put, Choose, Close, Strike, Keep, Learn, Justify, CallWide, Back, Show, Pass, explain_first, happens, Allowed}
use Rattle.journal_theory.specs.Journals.{replay, Legal}
use Rattle.search_values.proofs.Basics.{get_in, and_intro, nat_eq-same}
use Rattle.journal_theory.proofs.Meaning.{OfAtom, OfBody, Grows, Known, sound_later}
use Rattle.journal_theory.proofs.Stack.{agrees_all, closed_complete}
use Rattle.search_values.proofs.Tables.{set_of-lits, in_lits_of}
use Rattle.journal_theory.proofs.Central.{Valid, central}
use Rattle.journal_theory.proofs.Covers.{justified_sound, not_left_out}
use Rattle.journal_theory.proofs.Keep.{PhaseHolds}
use Rattle.journal_theory.proofs.Events.{legal_safe}
use Rattle.journal_theory.proofs.Explaining.{level_explain}
use Rattle.journal_theory.proofs.Learning.{analysed_sound}
use Rattle.journal_theory.proofs.Support.{legal_founds}
use Rattle.journal_theory.proofs.Growing.{event_later, legal_before, journal_later}
use Rattle.journal_theory.proofs.Shown.{true_set, set_true, true_in_set, true_set_answers}
use Rattle.journal_theory.specs.Laws.{LevelsAre, LevelsAreTold, ValuesFollow, SettledIsAll, ClosedIsAll, NogoodsAreSound, HasMeaning, SoundStays, LearnedIsSound, JustifiedIsSound, FactsAreNotCovered, NoRuleIsLeftOut, FullIsAnswerSet, ShownOnce, ShownIsNotListed, HeadsStayOpen, ClosedIsNoProof, MustBeIsNotShown, BackRestores, MustBeAgain}

-- law: every value follows
pub values_follow : {N A K : Type 0} → ValuesFollow N A K
values_follow core listed journal legal c o h x v e = agrees_all core (replay core journal) (State.stack (replay core journal)) (legal_safe core listed journal legal).valid.good c o h x v e

levels_pick : (b : Bool) (stack other : List Entry) → LevelsAre stack → LevelsAre other → LevelsAre (cond b stack other)
levels_pick true stack other g h = g
levels_pick false stack other g h = h

levels_back : (level : ℕ) (stack : List Entry) → LevelsAre stack → LevelsAre (back_to level stack)
levels_back level [] h = tt
levels_back level (e ∷ rest) h = levels_pick (nat_le (level_of rest + opened e.why) level) (e ∷ rest) (back_to level rest) h (levels_back level rest h.1)

levels_explain : (a n : ℕ) (stack : List Entry) → LevelsAre stack → LevelsAre (explain a n stack)
levels_explain a n [] h = tt
levels_explain a n (e ∷ rest) h = (h.0 ∙ sym (level_explain a n (e ∷ rest)), levels_explain a n rest h.1)

levels_first : (ls : List Lit) (n : ℕ) (stack : List Entry) → LevelsAre stack → LevelsAre (explain_first ls n stack)
levels_first [] n stack h = h
levels_first (l ∷ ls) n stack h = levels_explain l.atom n stack h

-- law: the levels of entries are told rightly
pub levels_are_told : {N A K : Type 0} → LevelsAreTold N A K
levels_are_told core listed [] legal = tt
levels_are_told core listed (Put a v n ∷ journal) legal = (refl, levels_are_told core listed journal legal.0)
levels_are_told core listed (Choose b up ∷ journal) legal = (refl, levels_are_told core listed journal legal.0)
levels_are_told core listed (Close x ∷ journal) legal = (refl, levels_are_told core listed journal legal.0)
levels_are_told core listed (Back l ∷ journal) legal = levels_back l (State.stack (replay core journal)) (levels_are_told core listed journal legal.0)
levels_are_told core listed (NameTerm node ∷ journal) legal = levels_are_told core listed journal legal.0
levels_are_told core listed (NameAtom a ∷ journal) legal = levels_are_told core listed journal legal.0
levels_are_told core listed (NameBody ∷ journal) legal = levels_are_told core listed journal legal.0
levels_are_told core listed (Number x a number ∷ journal) legal = levels_are_told core listed journal legal.0
levels_are_told core listed (Make k ∷ journal) legal = levels_are_told core listed journal legal.0
levels_are_told core listed (Strike n ∷ journal) legal = levels_are_told core listed journal legal.0
levels_are_told core listed (Learn how ls ∷ journal) legal = levels_are_told core listed journal legal.0
levels_are_told core listed (Justify patterns ls ∷ journal) legal = levels_first ls (length (State.nogoods (replay core journal))) (State.stack (replay core journal)) (levels_are_told core listed journal legal.0)
levels_are_told core listed (Keep n ∷ journal) legal = levels_are_told core listed journal legal.0
levels_are_told core listed (CallWide x ∷ journal) legal = levels_are_told core listed journal legal.0
levels_are_told core listed (Show ids ∷ journal) legal = levels_are_told core listed journal legal.0
levels_are_told core listed (Pass ids ∷ journal) legal = levels_are_told core listed journal legal.0

-- law: in a settled state the true atoms are all
pub settled_is_all : {N A K : Type 0} → SettledIsAll N A K
settled_is_all core listed journal legal settled =
    central core (replay core journal) (legal_safe core listed journal legal).valid settled.none_unit settled.none_active settled.none_due settled.none_waiting

-- law: above a closed entry the true atoms are all
pub closed_is_all : {N A K : Type 0} → ClosedIsAll N A K
closed_is_all core listed journal legal closed =
    closed_complete core (replay core journal) (State.stack (replay core journal)) (legal_safe core listed journal legal).valid.good closed.0 closed.1 closed.2.0 closed.2.1

-- law: each nogood is sound
pub nogoods_are_sound : {N A K : Type 0} → NogoodsAreSound N A K
nogoods_are_sound core listed journal legal ng i = (legal_safe core listed journal legal).valid.sound ng i

-- an id that has a meaning is known
meaning_known : {N A K : Type 0} (core : Rules N A K) (s : State N A K) → Valid core s → (x : ℕ) → HasMeaning s x → Known s x
meaning_known core s v x (inl named) = (OfAtom named.0, named.1)
meaning_known core s v x (inr body) =
    let g = v.made body.1 (get_in s.made body.0 body.1 body.3) in
    (OfBody g.inst, record { number = body.0; made = body.1; node = body.2; is_made = body.3; denotes = g.denotes })

-- law: what is sound stays so
pub sound_stays : {N A K : Type 0} → SoundStays N A K
sound_stays core listed journal later legal ls means sound =
    sound_later core (replay core journal) (replay core (later ++ journal)) (journal_later core listed journal later legal) ls
    (λ l i. meaning_known core (replay core journal) (legal_safe core listed journal (legal_before core listed journal later legal)).valid l.atom (means l i))
    sound

-- law: what may be learned is sound
pub learned_is_sound : {N A K : Type 0} → LearnedIsSound N A K
learned_is_sound core listed journal legal Decisions ls may =
    subst (λ z. IsSound core (replay core journal) z) (sym may.0) (subst (λ z. PhaseHolds core (replay core journal) z) may.1 (legal_safe core listed journal legal).phase)
learned_is_sound core listed journal legal Enumerated ls may =
    subst (λ z. IsSound core (replay core journal) z) (sym may.0) (subst (λ z. PhaseHolds core (replay core journal) z) may.1 (legal_safe core listed journal legal).phase)
learned_is_sound core listed journal legal Analysed ls may = analysed_sound core (replay core journal) (legal_safe core listed journal legal).valid ls may.1
learned_is_sound core listed journal legal Justified ls may = absurd may

-- law: what may be justified is sound
pub justified_is_sound : {N A K : Type 0} → JustifiedIsSound N A K
justified_is_sound core listed journal legal patterns ls may = justified_sound core (replay core journal) (legal_safe core listed journal legal).valid patterns ls may

-- law: no fact is in a cover
pub facts_are_not_covered : {N A K : Type 0} → FactsAreNotCovered N A K
facts_are_not_covered core listed journal legal m a is patterns lits cover among =
    not_left_out core (replay core journal) (legal_safe core listed journal legal).valid m a [] is patterns lits cover among (λ p i. absurd i)

-- law: no rule is left out of a cover
pub no_rule_is_left_out : {N A K : Type 0} → NoRuleIsLeftOut N A K
no_rule_is_left_out core listed journal legal m a pos is patterns lits cover among =
    not_left_out core (replay core journal) (legal_safe core listed journal legal).valid m a pos is patterns lits cover among

-- law: a full state has a core answer set
pub full_is_answer_set : {N A K : Type 0} → FullIsAnswerSet N A K
full_is_answer_set core listed journal legal ids full are =
    let s = replay core journal in
    let valid = (legal_safe core listed journal legal).valid in
    let founds = legal_founds core listed journal legal in (
      true_set core s valid founds full,
      true_set_answers core s valid founds full,
      (
        (λ a u t. let r = set_true core s valid founds full a t in (r.0, are.all_there r.0 a r.1 u r.2, r.1)),
        (λ x i. let r = are.each_true x i in (r.0, r.1, true_in_set core s valid founds full x r.0 r.1 r.3, r.2)),
      ),
    )

-- law: no set is shown twice
pub shown_once : {N A K : Type 0} → ShownOnce N A K
shown_once core listed [] legal = tt
shown_once core listed (Show ids ∷ journal) legal = (legal.1.4, shown_once core listed journal legal.0)
shown_once core listed (NameTerm node ∷ journal) legal = shown_once core listed journal legal.0
shown_once core listed (NameAtom a ∷ journal) legal = shown_once core listed journal legal.0
shown_once core listed (NameBody ∷ journal) legal = shown_once core listed journal legal.0
shown_once core listed (Number x a number ∷ journal) legal = shown_once core listed journal legal.0
shown_once core listed (Make k ∷ journal) legal = shown_once core listed journal legal.0
shown_once core listed (Put a v n ∷ journal) legal = shown_once core listed journal legal.0
shown_once core listed (Choose b up ∷ journal) legal = shown_once core listed journal legal.0
shown_once core listed (Close x ∷ journal) legal = shown_once core listed journal legal.0
shown_once core listed (Strike n ∷ journal) legal = shown_once core listed journal legal.0
shown_once core listed (Learn how ls ∷ journal) legal = shown_once core listed journal legal.0
shown_once core listed (Justify patterns ls ∷ journal) legal = shown_once core listed journal legal.0
shown_once core listed (Keep n ∷ journal) legal = shown_once core listed journal legal.0
shown_once core listed (CallWide x ∷ journal) legal = shown_once core listed journal legal.0
shown_once core listed (Back l ∷ journal) legal = shown_once core listed journal legal.0
shown_once core listed (Pass ids ∷ journal) legal = shown_once core listed journal legal.0

-- what was shown is named, and none of the sets that the file lists
abbrev IsApart : {N A K : Type 0} → State N A K → List (List A) → List ℕ → Type 0
IsApart {N} {A} s listed ids = ((x : ℕ) → x ∈ ids → (a : A) × IsName s x a) × ((atoms : List A) → atoms ∈ listed → ¬ IsSetOf s ids atoms)

apart_grows : {N A K : Type 0} (s s' : State N A K) → Grows s s' → (listed : List (List A)) (ids : List ℕ) → IsApart s listed ids → IsApart s' listed ids
apart_grows {N} {A} s s' g listed ids apart = (
  (λ x i. let r = apart.0 x i in (r.0, g.names x (Named r.0) r.1)),
  (λ atoms i same. apart.1 atoms i (
    (λ a j. let r = same.0 a j in (r.0, r.1, back r.0 r.1 a r.2)),
    (λ x j. let r = same.1 x j in (r.0, r.1, back x j r.0 r.2)),
  )),
)
  where
    back : (x : ℕ) → x ∈ ids → (a : A) → IsName s' x a → IsName s x a
    back x j a n =
        let r = apart.0 x j in
        let m : IsName s' x r.0 = g.names x (Named r.0) r.1 in
        let e : Some (Named r.0) ≡ Some (Named a) = sym m ∙ n in
        let f : r.0 ≡ a = cc in
        subst (λ z. IsName s x z) f r.1

-- a set that was shown was shown before, or just now
shown_cases : {N A K : Type 0} (core : Rules N A K) (s : State N A K) (e : Event A K) (ids : List ℕ) → ids ∈ State.shown (happens core s e) → (ids ∈ s.shown) ⊎ (e ≡ Show ids)
shown_cases core s (Show k) ids (inl e) = inr (ap (λ z. Show z) (sym e))
shown_cases core s (Show k) ids (inr i) = inl i
shown_cases core s (NameTerm node) ids i = inl i
shown_cases core s (NameAtom a) ids i = inl i
shown_cases core s NameBody ids i = inl i
shown_cases core s (Number x a number) ids i = inl i
shown_cases core s (Make k) ids i = inl i
shown_cases core s (Put a v n) ids i = inl i
shown_cases core s (Choose b up) ids i = inl i
shown_cases core s (Close x) ids i = inl i
shown_cases core s (Strike n) ids i = inl i
shown_cases core s (Learn how ls) ids i = inl i
shown_cases core s (Justify patterns ls) ids i = inl i
shown_cases core s (Keep n) ids i = inl i
shown_cases core s (CallWide x) ids i = inl i
shown_cases core s (Back l) ids i = inl i
shown_cases core s (Pass k) ids i = inl i

shown_apart : {N A K : Type 0} (core : Rules N A K) (listed : List (List A)) (journal : List (Event A K)) → Legal core listed journal
    → (ids : List ℕ) → ids ∈ State.shown (replay core journal) → IsApart (replay core journal) listed ids
shown_apart core listed [] legal ids i = absurd i
shown_apart {N} {A} {K} core listed (e ∷ journal) legal ids i =
    apart_grows (replay core journal) (replay core (e ∷ journal)) (event_later core (replay core journal) listed e (legal_safe core listed journal legal.0).valid legal.1).grows listed ids
    (elim (shown_cases core (replay core journal) e ids i) [
      | inl j ↦ shown_apart core listed journal legal.0 ids j
      | inr same ↦ just_now (replay core journal) (subst (λ z. Allowed core listed (replay core journal) z) same legal.1)
    ])
  where
    just_now : (s : State N A K) → Allowed core listed s (Show ids) → IsApart s listed ids
    just_now s ok = ((λ x j. let r = ok.2.each_true x j in (r.0, r.1)), ok.3)

-- law: no set that is shown is listed
pub shown_is_not_listed : {N A K : Type 0} → ShownIsNotListed N A K
shown_is_not_listed core listed journal legal ids i = (shown_apart core listed journal legal ids i).1

-- ---- what the definitions refuse

module _ (h : ℕ) where
  not_lits : (positive : Bool) (ids : List ℕ) → ¬ (h ∈ ids) → ¬ (lit h true ∈ lits_of positive ids)
  not_lits positive ids out i = out (in_lits_of positive ids (lit h true) i).0

  not_negative : (a : ℕ) → ¬ (lit h true ≡ lit a false)
  not_negative a e = let w : true ≡ false = ap (λ (k : Lit). k.positive) e in cc

  not_each : (b : ℕ) (positive : Bool) (ids : List ℕ) → ¬ (b ≡ h) → ¬ (h ∈ ids) → (ng : Nogood) → ng ∈ each_with b positive ids → ¬ (lit h true ∈ ng.lits)
  not_each b positive [] nb out ng i j = absurd i
  not_each b positive (x ∷ ids) nb out ng i j = elim (∈-append_cases ng (set_of None (lit b true ∷ lit x positive ∷ [])) (each_with b positive ids) i) [
    | inl m ↦ pair (set_of-lits None (lit b true ∷ lit x positive ∷ []) ng m (lit h true) j)
    | inr m ↦ not_each b positive ids nb (λ k. out (inr k)) ng m j
  ]
    where
      pair : ¬ (lit h true ∈ (lit b true ∷ lit x positive ∷ []))
      pair (inl e) = nb (sym (ap (λ (k : Lit). k.atom) e))
      pair (inr (inl e)) = out (inl (ap (λ (k : Lit). k.atom) e))
      pair (inr (inr e)) = e

  not_completed : (body : Option ℕ) (i : Instance ℕ) → ¬ (h ∈ i.pos) → ¬ (h ∈ i.neg) → ¬ (body ≡ Some h)
      → (ng : Nogood) → ng ∈ table_of (Plain h) body i → ¬ (lit h true ∈ ng.lits)
  not_completed None i np nn nb ng j m = elim (set_of-lits (Some h) (lit h false ∷ lits_of true i.pos) ng j (lit h true) m) [
    | inl e ↦ not_negative h e
    | inr k ↦ not_lits true i.pos np k
  ]
  not_completed (Some b) i np nn nb ng j m = elim (∈-append_cases ng (first ++ each_with b false i.pos ++ each_with b true i.neg) last j) [
    | inl n ↦ elim (∈-append_cases ng (first ++ each_with b false i.pos) (each_with b true i.neg) n) [
      | inl o ↦ elim (∈-append_cases ng first (each_with b false i.pos) o) [
        | inl q ↦ in_first (set_of-lits (Some b) (lit b false ∷ lits_of true i.pos ++ lits_of false i.neg) ng q (lit h true) m)
        | inr q ↦ not_each b false i.pos other np ng q m
      ]
      | inr o ↦ not_each b true i.neg other nn ng o m
    ]
    | inr n ↦ in_last (set_of-lits (Some h) (lit h false ∷ lit b true ∷ []) ng n (lit h true) m)
  ]
    where
      first : List Nogood
      first = set_of (Some b) (lit b false ∷ lits_of true i.pos ++ lits_of false i.neg)

      last : List Nogood
      last = set_of (Some h) (lit h false ∷ lit b true ∷ [])

      other : ¬ (b ≡ h)
      other e = nb (ap (λ z. Some z) e)

      in_first : ¬ (lit h true ∈ (lit b false ∷ lits_of true i.pos ++ lits_of false i.neg))
      in_first (inl e) = not_negative b e
      in_first (inr k) = elim (∈-append_cases (lit h true) (lits_of true i.pos) (lits_of false i.neg) k) [ inl p ↦ not_lits true i.pos np p | inr n ↦ not_lits false i.neg nn n ]

      in_last : ¬ (lit h true ∈ (lit h false ∷ lit b true ∷ []))
      in_last (inl e) = not_negative h e
      in_last (inr (inl e)) = other (sym (ap (λ (k : Lit). k.atom) e))
      in_last (inr (inr e)) = e

-- law: no nogood completes a head
pub heads_stay_open : {K : Type 0} → HeadsStayOpen K
heads_stay_open k h plain np nn nb ng i = not_completed h k.body k.inst np nn nb ng (subst (λ z. ng ∈ table_of z k.body k.inst) plain i)

-- law: a closed atom is not proved false
pub closed_is_no_proof : {N A K : Type 0} → ClosedIsNoProof N A K
closed_is_no_proof core listed journal x legal = (first, refl)
  where
    first : first_level (State.stack (replay core (Close x ∷ journal))) x ≡ level_of (State.stack (replay core journal)) + 1
    first = ap (λ z. cond z (level_of (State.stack (replay core journal)) + 1) (first_level (State.stack (replay core journal)) x))
        (and_intro (nat_eq x x) (is_none (value_of (State.stack (replay core journal)) x)) (nat_eq-same x) (ap is_none legal.1.4))

shows_true : {N A K : Type 0} (core : Rules N A K) (s : State N A K) (ids : List ℕ) → AreTrueUserAtoms core s ids → (x : ℕ) → x ∈ ids → value_of s.stack x ≡ Some True
shows_true core s ids are x i = (are.each_true x i).3

-- law: no must-be-true atom is shown
pub must_be_is_not_shown : {N A K : Type 0} → MustBeIsNotShown N A K
must_be_is_not_shown core listed journal ids (inl legal) = (shows_true core (replay core journal) ids legal.1.2, legal.1.1.none_must_be)
must_be_is_not_shown core listed journal ids (inr legal) = (shows_true core (replay core journal) ids legal.1.2, legal.1.1.none_must_be)

-- above an entry that opened a level, the level is higher than below it
level_above : (above : List Entry) (opener : Entry) (below : List Entry) → opened opener.why ≡ 1 → level_of below < level_of (above ++ opener ∷ below)
level_above [] opener below o = omega arith
level_above (e ∷ above) opener below o = let h = level_above above opener below o in omega arith

nat_le-not : (a b : ℕ) → b < a → nat_le a b ≡ false
nat_le-not a b h = grind arith

-- going back to the level of a stack leaves it whole
back_same : (stack : List Entry) → back_to (level_of stack) stack ≡ stack
back_same [] = refl
back_same (e ∷ rest) = ap (λ z. cond z (e ∷ rest) (back_to (level_of (e ∷ rest)) rest)) (nat_le-same (level_of rest + opened e.why))
  where
    nat_le-same : (n : ℕ) → nat_le n n ≡ true
    nat_le-same n = grind arith

-- law: going back restores the stack
pub back_restores : BackRestores
back_restores [] opener below o =
    ap (λ z. cond z (opener ∷ below) (back_to (level_of below) below)) (nat_le-not (level_of below + opened opener.why) (level_of below) (level_above [] opener below o))
    ∙ back_same below
back_restores (e ∷ above) opener below o =
    ap (λ z. cond z (e ∷ above ++ opener ∷ below) (back_to (level_of below) (above ++ opener ∷ below))) (nat_le-not (level_of (above ++ opener ∷ below) + opened e.why) (level_of below) (level_above (e ∷ above) opener below o))
    ∙ back_restores above opener below o

-- law: an atom is must-be-true again
pub must_be_again : MustBeAgain
must_be_again above opener below x o h = ap (λ stack. value_of stack x) (back_restores above opener below o) ∙ h
