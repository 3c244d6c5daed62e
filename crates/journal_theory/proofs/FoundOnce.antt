-- Where user atoms determine core answer sets, no set is found twice: a nogood that was learned after it is true of it.
use Rattle.std.proofs.Common.{◌≡◌, ℕ, ◌⊎◌, Bool, true, false, List, [], ◌∷◌, refl, sym, ◌∙◌, ap, subst, inl, inr}
use Rattle.std.specs.Prelude.{Some, None}
use Rattle.lists.specs.Lists.{◌∈◌, SameSet}
use Rattle.lists.proofs.ListLemmas.{∈-append_left, ∈-append_right}
use Rattle.search_values.specs.Values.{Lit, chosen}
use Rattle.search_values.specs.Nogoods.{Nogood}
use Rattle.search_values.specs.Instances.{Rules, IsExtension}
use Rattle.search_values.specs.Tables.{nogoods_of}
use Rattle.search_values.specs.Ids.{Named}
use Rattle.journal_theory.specs.States.{Free, Found, State, IsName, truth, Agrees, WasFound, AreUserAtoms, IsFull, AreTrueUserAtoms}
use Rattle.journal_theory.specs.Events.{Analysed, Justified, Decisions, Enumerated, Event, NameTerm, NameAtom, NameBody, Number, Make, Put, Choose, Close, Strike, Keep, Learn, Justify, CallWide, Back, Show, Pass, happens, Allowed}
use Rattle.journal_theory.specs.Covers.{IsWanted, for_stuck, for_closed, for_unassigned}
use Rattle.journal_theory.specs.Journals.{replay, Legal}
use Rattle.journal_theory.proofs.Meaning.{means_grows, truth_means, Known, truth_grows, AllKnown}
use Rattle.journal_theory.proofs.Stack.{chosen_known}
use Rattle.search_values.proofs.Tables.{nogood}
use Rattle.journal_theory.proofs.Central.{Valid}
use Rattle.journal_theory.proofs.Events.{legal_safe, means_agree, named_valued}
use Rattle.journal_theory.proofs.Support.{Founds, legal_founds}
use Rattle.journal_theory.proofs.Shown.{true_set, set_true, true_in_set, true_set_answers}
use Rattle.journal_theory.proofs.BodyNames.{BodyNames, legal_body_names}
use Rattle.journal_theory.proofs.FullValues.{full_agrees}
use Rattle.journal_theory.proofs.Fresh.{NewlyChosen, ChosenAreBodies, chosen_holds, legal_newly}
use Rattle.journal_theory.proofs.Growing.{event_later}
use Rattle.journal_theory.specs.Laws.{IsAnswerNow, IsDetermined, FoundIsNew, FoundAreAnswerSets}
use Rattle.journal_theory.proofs.Keep.{users_later}
use Rattle.journal_theory.proofs.LawProofs.{full_is_answer_set}

-- ---- core answer sets of later states are ones of earlier states

-- an event gives a member its number, or changes no number
numbers_cases : {N A K : Type 0} (core : Rules N A K) (s : State N A K) (e : Event A K) → (s.numbers ≡ State.numbers (happens core s e)) ⊎ ((x : ℕ) × (a : A) × (number : ℕ) × (e ≡ Number x a number))
numbers_cases core s (Number x a number) = inr (x, a, number, refl)
numbers_cases core s (NameTerm node) = inl refl
numbers_cases core s (NameAtom a) = inl refl
numbers_cases core s NameBody = inl refl
numbers_cases core s (Make k) = inl refl
numbers_cases core s (Put a v n) = inl refl
numbers_cases core s (Choose b up) = inl refl
numbers_cases core s (Close x) = inl refl
numbers_cases core s (Strike n) = inl refl
numbers_cases core s (Learn how ls) = inl refl
numbers_cases core s (Justify patterns ls) = inl refl
numbers_cases core s (Keep n) = inl refl
numbers_cases core s (CallWide x) = inl refl
numbers_cases core s (Back level) = inl refl
numbers_cases core s (Show ids) = inl refl
numbers_cases core s (Pass ids) = inl refl

-- a set that is a core answer set now was one before, but for atoms that couldn't be named
record WasOne {N A K : Type 0} (core : Rules N A K) (s s' : State N A K) (c : A → Bool) : Type 0 where
  before : A → Bool
  is_one : IsAnswerNow core s before
  user_same : (a : A) → core.is_user a ≡ true → before a ≡ c a
  same : (x : ℕ) → Known s x → truth s before x ≡ truth s' c x

was_one : {N A K : Type 0} (core : Rules N A K) (s : State N A K) (listed : List (List A)) (e : Event A K) → Valid core s → Allowed core listed s e
    → (c : A → Bool) → IsAnswerNow core (happens core s e) c → WasOne core s (happens core s e) c
was_one {N} {A} {K} core s listed e v ok c now = elim (numbers_cases core s e) [
  | inl same ↦ record {
    before = c;
    is_one = record { numbering = now.numbering; extending = subst (λ n. IsExtension core n now.numbering c) (sym same) now.extending; answers = now.answers };
    user_same = λ a u. refl;
    same = λ x k. sym (truth_grows s (happens core s e) (event_later core s listed e v ok).grows c x k);
  }
  | inr w ↦ numbered w.0 w.1 w.2 w.3
]
  where
    numbered : (x : ℕ) (a : A) (number : ℕ) → e ≡ Number x a number → WasOne core s (happens core s e) c
    numbered x a number same =
        let fresh : core.is_numbered s.numbers a ≡ false = (subst (λ z. Allowed core listed s z) same ok).3 in
        let n : IsAnswerNow core (happens core s (Number x a number)) c = subst (λ z. IsAnswerNow core (happens core s z) c) same now in
        let r = core.without s.numbers a n.numbering c fresh n.extending n.answers in
        subst (λ z. WasOne core s (happens core s z) c) (sym same) (record {
          before = r.1;
          is_one = record { numbering = r.0; extending = r.2; answers = r.3 };
          user_same = λ b u. r.4 b (core.user_named s.numbers b u);
          same = λ y k. truth_means s r.1 y k.0 k.1 ∙ means_agree core s c r.1 r.4 v y k.0 k.1
              ∙ sym (truth_means (happens core s (Number x a number)) c y k.0 (means_grows s (happens core s (Number x a number)) (record { names = λ x n e. e; made = λ j k e. e }) y k.0 k.1));
        })

-- ---- the sets found so far

-- each core answer set with these user atoms makes these literals true
abbrev MakesTrue : {N A K : Type 0} → Rules N A K → State N A K → List ℕ → List Lit → Type 0
MakesTrue {N} {A} core s found ls = (c : A → Bool) → IsAnswerNow core s c → AreUserAtoms core s c found → Agrees s c ls

-- a set that was found has names, and all literals of a nogood are true of it, or it was found just now
record FoundBefore {N A K : Type 0} (core : Rules N A K) (s : State N A K) (found : List ℕ) : Type 0 where
  named : (x : ℕ) → x ∈ found → (a : A) × IsName s x a
  barred : ((ng : Nogood) × (ng ∈ s.nogoods) × MakesTrue core s found ng.lits) ⊎ ((s.phase ≡ Found) × MakesTrue core s found (chosen s.stack))

module _ {N A K : Type 0} (core : Rules N A K) (s : State N A K) (valid : Valid core s) (listed : List (List A)) where
  nogoods_more : (e : Event A K) (ng : Nogood) → ng ∈ s.nogoods → ng ∈ State.nogoods (happens core s e)
  nogoods_more (Make k) ng i = ∈-append_left ng s.nogoods (nogoods_of k) i
  nogoods_more (Learn how ls) ng i = ∈-append_left ng s.nogoods (nogood None ls ∷ []) i
  nogoods_more (Justify patterns ls) ng i = ∈-append_left ng s.nogoods (nogood None ls ∷ []) i
  nogoods_more (Keep n) ng i = i
  nogoods_more (CallWide x) ng i = i
  nogoods_more (NameTerm node) ng i = i
  nogoods_more (NameAtom a) ng i = i
  nogoods_more NameBody ng i = i
  nogoods_more (Number x a number) ng i = i
  nogoods_more (Put a v n) ng i = i
  nogoods_more (Choose b up) ng i = i
  nogoods_more (Close x) ng i = i
  nogoods_more (Strike n) ng i = i
  nogoods_more (Back level) ng i = i
  nogoods_more (Show ids) ng i = i
  nogoods_more (Pass ids) ng i = i

  found_cases : (e : Event A K) (ids : List ℕ) → WasFound (happens core s e) ids → WasFound s ids ⊎ ((e ≡ Show ids) ⊎ (e ≡ Pass ids))
  found_cases (Show k) ids (inl (inl e)) = inr (inl (ap (λ z. Show z) (sym e)))
  found_cases (Show k) ids (inl (inr i)) = inl (inl i)
  found_cases (Show k) ids (inr i) = inl (inr i)
  found_cases (Pass k) ids (inl i) = inl (inl i)
  found_cases (Pass k) ids (inr (inl e)) = inr (inr (ap (λ z. Pass z) (sym e)))
  found_cases (Pass k) ids (inr (inr i)) = inl (inr i)
  found_cases (NameTerm node) ids w = inl w
  found_cases (NameAtom a) ids w = inl w
  found_cases NameBody ids w = inl w
  found_cases (Number x a number) ids w = inl w
  found_cases (Make k) ids w = inl w
  found_cases (Put a v n) ids w = inl w
  found_cases (Choose b up) ids w = inl w
  found_cases (Close x) ids w = inl w
  found_cases (Strike n) ids w = inl w
  found_cases (Learn how ls) ids w = inl w
  found_cases (Justify patterns ls) ids w = inl w
  found_cases (Keep n) ids w = inl w
  found_cases (CallWide x) ids w = inl w
  found_cases (Back level) ids w = inl w

  -- literals that a set found before makes true are true of it later
  true_later : (e : Event A K) → Allowed core listed s e → (found : List ℕ) → ((x : ℕ) → x ∈ found → (a : A) × IsName s x a) → (ls : List Lit) → AllKnown s ls
      → MakesTrue core s found ls → MakesTrue core (happens core s e) found ls
  true_later e ok found named ls known makes c now users l i =
      let w = was_one core s listed e valid ok c now in
      sym (w.same l.atom (known l i)) ∙ makes w.before w.is_one (
        (λ a u t. let r = users.0 a u (sym (w.user_same a u) ∙ t) in (r.0, r.1, back r.0 r.1 a r.2)),
        (λ x j. let r = users.1 x j in (r.0, back x j r.0 r.1, w.user_same r.0 r.3 ∙ r.2, r.3)),
      ) l i
    where
      back : (x : ℕ) → x ∈ found → (a : A) → IsName (happens core s e) x a → IsName s x a
      back x j a n =
          let r = named x j in
          let m : IsName (happens core s e) x r.0 = (event_later core s listed e valid ok).grows.names x (Named r.0) r.1 in
          let f : Some (Named r.0) ≡ Some (Named a) = sym m ∙ n in
          let g : r.0 ≡ a = cc in
          subst (λ z. IsName s x z) g r.1

  not_wanted : (x : ℕ) → s.phase ≡ Found → ¬ IsWanted core s x
  not_wanted x p (for_stuck e stuck) = cc
  not_wanted x p (for_closed n ng ls e at w a i) = cc
  not_wanted x p (for_unassigned e can) = cc

  -- what a set that was found just now becomes
  just_found : (e : Event A K) → Allowed core listed s e → s.phase ≡ Found → (found : List ℕ) → MakesTrue core s found (chosen s.stack)
      → MakesTrue core (happens core s e) found (chosen s.stack)
      → ((ng : Nogood) × (ng ∈ State.nogoods (happens core s e)) × MakesTrue core (happens core s e) found ng.lits)
      ⊎ ((State.phase (happens core s e) ≡ Found) × MakesTrue core (happens core s e) found (chosen (State.stack (happens core s e))))
  just_found (NameTerm node) ok p found makes later = inr (p, later)
  just_found (NameAtom a) ok p found makes later = absurd (not_free p ok.0)
    where
      not_free : s.phase ≡ Found → ¬ (s.phase ≡ Free)
      not_free e f = cc
  just_found NameBody ok p found makes later = (let q = ok.0 in cc)
  just_found (Number x a number) ok p found makes later = (let q = ok.0 in cc)
  just_found (Make k) ok p found makes later = (let q = ok.0 in cc)
  just_found (Put a v n) ok p found makes later = (let q = ok.0 in cc)
  just_found (Choose b up) ok p found makes later = (let q = ok.0 in cc)
  just_found (Close x) ok p found makes later = (let q = ok.0 in cc)
  just_found (Strike n) ok p found makes later = elim ok.0 [ inl q ↦ cc | inr q ↦ cc ]
  just_found (Learn Decisions ls) ok p found makes later = (let q = ok.0.1 in cc)
  just_found (Learn Enumerated ls) ok p found makes later =
      inl (nogood None ls, ∈-append_right (nogood None ls) s.nogoods (nogood None ls ∷ []) (inl refl), subst (λ z. MakesTrue core (happens core s (Learn Enumerated ls)) found z) (sym ok.0.0) later)
  just_found (Learn Analysed ls) ok p found makes later = (let q = ok.0.0.1 in cc)
  just_found (Learn Justified ls) ok p found makes later = absurd ok.0
  just_found (Justify patterns ls) ok p found makes later = absurd (not_wanted ok.0.id p ok.0.wanted)
  just_found (Keep n) ok p found makes later = (let q = ok.0 in cc)
  just_found (CallWide x) ok p found makes later = absurd (not_wanted x p ok.0)
  just_found (Back level) ok p found makes later = (let q = ok.1.1 in cc)
  just_found (Show ids) ok p found makes later = (let q = ok.0 in cc)
  just_found (Pass ids) ok p found makes later = (let q = ok.0 in cc)

  old_found : (e : Event A K) → Allowed core listed s e → (found : List ℕ) → FoundBefore core s found → FoundBefore core (happens core s e) found
  old_found e ok found h = record {
    named = λ x i. let r = h.named x i in (r.0, (event_later core s listed e valid ok).grows.names x (Named r.0) r.1);
    barred = elim h.barred [
      | inl w ↦ inl (w.0, nogoods_more e w.0 w.1, true_later e ok found h.named w.0.lits (valid.known w.0 w.1) w.2)
      | inr w ↦ just_found e ok w.0 found w.1 (true_later e ok found h.named (chosen s.stack) (chosen_known core s s.stack valid.good) w.1)
    ];
  }

  -- a set that is found is the only one with its user atoms, so the literals chosen are true of each core answer set that has them
  module _ (founds : Founds s) (bodies : BodyNames s) (chosen_bodies : ChosenAreBodies s) (newly : NewlyChosen s) (determined : IsDetermined core) where
    bool_same : (p q : Bool) → (p ≡ true → q ≡ true) → (q ≡ true → p ≡ true) → p ≡ q
    bool_same true q f g = sym (f refl)
    bool_same false true f g = g refl
    bool_same false false f g = refl

    new_true : (full : IsFull core s) (ids : List ℕ) → AreTrueUserAtoms core s ids → MakesTrue core s ids (chosen s.stack)
    new_true full ids are c now users l i =
        let h = chosen_holds core s valid chosen_bodies newly s.stack valid.good l i in
        ap (λ z. truth s z l.atom) (sym same)
        ∙ full_agrees core s valid founds bodies full l.atom (chosen_known core s s.stack valid.good l i) h.0 h.1
        ∙ h.2
      where
        set : A → Bool
        set = true_set core s valid founds full

        one_name : (x : ℕ) (a b : A) → IsName s x a → IsName s x b → a ≡ b
        one_name x a b p q = let w : Some (Named a) ≡ Some (Named b) = sym p ∙ q in cc

        users_same : (a : A) → core.is_user a ≡ true → set a ≡ c a
        users_same a u = bool_same (set a) (c a)
            (λ t. let r = set_true core s valid founds full a t in
            let w = users.1 r.0 (are.all_there r.0 a r.1 u r.2) in
            subst (λ z. c z ≡ true) (one_name r.0 w.0 a w.1 r.1) w.2)
            (λ t. let r = users.0 a u t in
            let w = are.each_true r.0 r.1 in
            true_in_set core s valid founds full r.0 a r.2 w.3)

        same : set ≡ c
        same = λ j a. determined s.numbers now.numbering set c (true_set_answers core s valid founds full) now.extending now.answers users_same a j

    shown_named : (ids : List ℕ) → AreTrueUserAtoms core s ids → (x : ℕ) → x ∈ ids → (a : A) × IsName s x a
    shown_named ids are x i = let r = are.each_true x i in (r.0, r.1)

    found_keep : (e : Event A K) → Allowed core listed s e → ((ids : List ℕ) → WasFound s ids → FoundBefore core s ids)
        → (ids : List ℕ) → WasFound (happens core s e) ids → FoundBefore core (happens core s e) ids
    found_keep e ok h ids w = elim (found_cases e ids w) [
      | inl old ↦ old_found e ok ids (h ids old)
      | inr new ↦ elim new [
        | inl q ↦ subst (λ z. FoundBefore core (happens core s z) ids) (sym q) (shown (subst (λ z. Allowed core listed s z) q ok))
        | inr q ↦ subst (λ z. FoundBefore core (happens core s z) ids) (sym q) (passed (subst (λ z. Allowed core listed s z) q ok))
      ]
    ]
      where
        shown : Allowed core listed s (Show ids) → FoundBefore core (happens core s (Show ids)) ids
        shown ok = record {
          named = shown_named ids ok.2;
          barred = inr (refl, true_later (Show ids) ok ids (shown_named ids ok.2) (chosen s.stack) (chosen_known core s s.stack valid.good) (new_true ok.1 ids ok.2));
        }

        passed : Allowed core listed s (Pass ids) → FoundBefore core (happens core s (Pass ids)) ids
        passed ok = record {
          named = shown_named ids ok.2;
          barred = inr (refl, true_later (Pass ids) ok ids (shown_named ids ok.2) (chosen s.stack) (chosen_known core s s.stack valid.good) (new_true ok.1 ids ok.2));
        }

    -- a set that may be shown or passed was not found before
    not_twice : s.phase ≡ Free → (full : IsFull core s) (ids : List ℕ) → AreTrueUserAtoms core s ids → (earlier : List ℕ) → FoundBefore core s earlier → ¬ SameSet ids earlier
    not_twice free full ids are earlier h same = elim h.barred [
      | inr w ↦ (let q = w.0 in cc)
      | inl w ↦ full.none_struck w.0 w.1 (λ l i.
          let known = valid.known w.0 w.1 l i in
          let v = named_valued core s full l.atom known in
          (v.0, v.1, sym (full_agrees core s valid founds bodies full l.atom known v.0 v.1) ∙ w.2 set now users l i))
    ]
      where
        set : A → Bool
        set = true_set core s valid founds full

        now : IsAnswerNow core s set
        now = record { numbering = s.numbers; extending = record { members = []; may = tt; is = refl }; answers = true_set_answers core s valid founds full }

        users : AreUserAtoms core s set earlier
        users = (
          (λ a u t. let r = set_true core s valid founds full a t in (r.0, same.to r.0 (are.all_there r.0 a r.1 u r.2), r.1)),
          (λ x j. let r = are.each_true x (same.back x j) in (r.0, r.1, true_in_set core s valid founds full x r.0 r.1 r.3, r.2)),
        )

legal_found : {N A K : Type 0} (core : Rules N A K) (listed : List (List A)) (journal : List (Event A K)) → Legal core listed journal → IsDetermined core
    → (ids : List ℕ) → WasFound (replay core journal) ids → FoundBefore core (replay core journal) ids
legal_found core listed [] legal determined ids w = elim w [ inl i ↦ absurd i | inr i ↦ absurd i ]
legal_found core listed (e ∷ journal) legal determined ids w =
    let newly = legal_newly core listed journal legal.0 in
    found_keep core (replay core journal) (legal_safe core listed journal legal.0).valid listed (legal_founds core listed journal legal.0) (legal_body_names core listed journal legal.0) newly.0 newly.1 determined
    e legal.1 (legal_found core listed journal legal.0 determined) ids w

-- law: a set that may be shown or passed was not found before
pub found_is_new : {N A K : Type 0} → FoundIsNew N A K
found_is_new core listed journal legal determined free ids full are earlier w =
    let newly = legal_newly core listed journal legal in
    not_twice core (replay core journal) (legal_safe core listed journal legal).valid listed (legal_founds core listed journal legal) (legal_body_names core listed journal legal) newly.0 newly.1 determined
    free full ids are earlier (legal_found core listed journal legal determined earlier w)

-- law: each set that was shown or passed is a core answer set
pub found_are_answer_sets : {N A K : Type 0} → FoundAreAnswerSets N A K
found_are_answer_sets core listed [] legal ids w = elim w [ inl i ↦ absurd i | inr i ↦ absurd i ]
found_are_answer_sets core listed (e ∷ journal) legal ids w =
    let valid = (legal_safe core listed journal legal.0).valid in
    let g = (event_later core (replay core journal) listed e valid legal.1).grows in
    elim (found_cases core (replay core journal) valid listed e ids w) [
      | inl old ↦ (let r = found_are_answer_sets core listed journal legal.0 ids old in (r.0, r.1, r.2, users_later core (replay core journal) (replay core (e ∷ journal)) g r.1 ids r.3))
      | inr new ↦ elim new [
        | inl q ↦ (let ok = subst (λ z. Allowed core listed (replay core journal) z) q legal.1 in
            let r = full_is_answer_set core listed journal legal.0 ids ok.1 ok.2 in
            (State.numbers (replay core journal), r.0, r.1, users_later core (replay core journal) (replay core (e ∷ journal)) g r.0 ids r.2))
        | inr q ↦ (let ok = subst (λ z. Allowed core listed (replay core journal) z) q legal.1 in
            let r = full_is_answer_set core listed journal legal.0 ids ok.1 ok.2 in
            (State.numbers (replay core journal), r.0, r.1, users_later core (replay core journal) (replay core (e ∷ journal)) g r.0 ids r.2))
      ]
    ]
