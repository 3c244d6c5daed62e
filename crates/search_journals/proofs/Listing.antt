-- Sets that are listed: a set is one of them exactly where its line is one of theirs, and each set that was passed is one.
use Rattle.std.proofs.Common.{◌≡◌, ◌⊎◌, ℕ, Bool, true, List, [], ◌∷◌, map, refl, sym, ◌∙◌, subst, inl, inr}
use Rattle.lists.specs.Lists.{◌∈◌, Each, SameSet}
use Rattle.lists.proofs.ListLemmas.{∈-map, ∈-map_from}
use Rattle.asp_meaning.specs.Atoms.{Atom}
use Rattle.asp_meaning.specs.Lines.{IsSetLine}
use Rattle.asp_meaning.specs.Readable.{IsReadable}
use Rattle.asp_laws.proofs.Lines.{a_set_has_one_line}
use Rattle.asp_laws.proofs.Readable.{one_line_for_the_same_set, lines_tell_their_sets}
use Rattle.core_rules.specs.declared.rules.Core.{Core}
use Rattle.core_meaning.specs.Atoms.{GroundAtom, User}
use Rattle.core_meaning.specs.AnswerSets.{HasUserAtoms}
use Rattle.search_values.specs.Ids.{Named, Names}
use Rattle.search_values.specs.Instances.{Rules}
use Rattle.journal_theory.specs.States.{State, IsName, IsFull, AreUserAtoms, AreTrueUserAtoms, IsSetOf}
use Rattle.journal_theory.specs.Events.{Event, NameTerm, NameAtom, NameBody, Number, Make, Put, Choose, Close, Strike, Keep, Learn, Justify, CallWide, Back, Show, Pass, happens, Allowed}
use Rattle.journal_theory.specs.Journals.{Legal, replay}
use Rattle.journal_theory.proofs.Central.{names_in}
use Rattle.journal_theory.proofs.Events.{legal_safe}
use Rattle.journal_theory.proofs.Growing.{event_later}
use Rattle.journal_theory.proofs.Instances.{names_back}
use Rattle.journal_theory.proofs.LawProofs.{full_is_answer_set}
use Rattle.journal_theory.proofs.Meaning.{Grows}
use Rattle.search_rules.specs.Rules.{Reached, search_rules}
use Rattle.search_journals.specs.Journals.{Step, IsLineOfIds}
use Rattle.search_journals.specs.Search.{IsAmong, core_sets}
use Rattle.search_journals.specs.Standing.{Listed}
use Rattle.search_journals.proofs.Lines.{IsSetWithLine, ids_tell, named_same, user_among}

-- ---- the sets that ids name

module _ (s : Reached) (ids : List ℕ) (set : List Atom) (names : Names s.names ids (map User set)) where
  -- ids that name a set name no other
  same_set : (J : List Atom) → IsSetOf s ids (map User J) → SameSet J set
  same_set J is = record {
    to = λ a i.
        let w = is.0 (User a) (∈-map User a J i) in
        let n = names_in s.names ids (map User set) names w.0 w.1 in
        user_among set a (subst (λ z. z ∈ map User set) (named_same n.0 (User a) (sym n.2 ∙ w.2)) n.1);
    back = λ a i.
        let n = names_back s.names ids (map User set) names (User a) (∈-map User a set i) in
        let w = is.1 n.0 n.1 in
        user_among J a (subst (λ z. z ∈ map User J) (named_same w.0 (User a) (sym w.2 ∙ n.2)) w.1);
  }

  -- and they name each list of its atoms
  set_of_same : (J : List Atom) → SameSet J set → IsSetOf s ids (map User J)
  set_of_same J same = (
    (λ a i.
        let m = ∈-map_from User a J i in
        let n = names_back s.names ids (map User set) names (User m.0) (∈-map User m.0 set (same.to m.0 m.1)) in
        (n.0, n.1, subst (λ z. IsName s n.0 z) (sym m.2) n.2)),
    (λ x i.
        let n = names_in s.names ids (map User set) names x i in
        let m = ∈-map_from User n.0 set n.1 in
        (User m.0, ∈-map User m.0 J (same.back m.0 m.1), subst (λ z. IsName s x z) m.2 n.2)),
  )

  -- a set whose line isn't among those that are listed isn't listed
  pub not_listed : (lists : Listed) (line : List ℕ) → IsSetLine set line → ¬ (line ∈ lists.book) → (atoms : List GroundAtom)
      → atoms ∈ core_sets lists.sets → ¬ IsSetOf s ids atoms
  not_listed lists line line_is out atoms i is =
      let m = ∈-map_from (map User) atoms lists.sets i in
      let w = lists.are.line_of m.0 m.1 in
      let same = same_set m.0 (subst (λ z. IsSetOf s ids z) m.2 is) in
      let one : w.0 ≡ line = a_set_has_one_line m.0 w.0 line w.3 (one_line_for_the_same_set m.0 set line same line_is) in
      out (subst (λ z. z ∈ lists.book) one w.1)

  -- and one whose line is among them is
  pub is_listed : (lists : Listed) (line : List ℕ) → IsSetLine set line → Each IsReadable set → line ∈ lists.book
      → (atoms : List GroundAtom) × (atoms ∈ core_sets lists.sets) × IsSetOf s ids atoms
  is_listed lists line line_is read among =
      let w = lists.are.set_of line among in (
        map User w.0,
        ∈-map (map User) w.0 lists.sets w.1,
        set_of_same w.0 (lines_tell_their_sets w.0 set line w.2 read w.3 line_is),
      )

  -- where the ids name no set that is listed, theirs is none of them
  pub not_among : (sets : List (List Atom)) → ((atoms : List GroundAtom) → atoms ∈ core_sets sets → ¬ IsSetOf s ids atoms)
      → (I : List Atom) → SameSet I set → ¬ IsAmong sets I
  not_among sets none I same among = none (map User among.0) (∈-map (map User) among.0 sets among.1) (set_of_same among.0 (record {
    to = λ a i. same.to a (among.2.back a i);
    back = λ a i. among.2.to a (same.back a i);
  }))

  -- and where they name one, theirs is
  pub is_among : (sets : List (List Atom)) → (atoms : List GroundAtom) × (atoms ∈ core_sets sets) × IsSetOf s ids atoms
      → (I : List Atom) → SameSet I set → IsAmong sets I
  is_among sets one I same =
      let m = ∈-map_from (map User) one.0 sets one.1 in
      let there = same_set m.0 (subst (λ z. IsSetOf s ids z) m.2 one.2) in
      (m.0, m.1, record { to = λ a i. there.back a (same.to a i); back = λ a i. same.back a (there.to a i) })

-- ---- the set of a full state

-- it is a core answer set, with the line of its ids
abbrev pub full_with_line : (core : Core) (sets : List (List GroundAtom)) (journal : List Step) → Legal (search_rules core) sets journal
    → (ids : List ℕ) → IsFull (search_rules core) (replay (search_rules core) journal)
    → AreTrueUserAtoms (search_rules core) (replay (search_rules core) journal) ids → (line : List ℕ)
    → IsLineOfIds (replay (search_rules core) journal) ids line → IsSetWithLine core (replay (search_rules core) journal) ids line
full_with_line core sets journal legal ids full are line is =
    let w = full_is_answer_set (search_rules core) sets journal legal ids full are in
    record {
      set = w.0;
      answers = w.1;
      atoms = is.0;
      names = is.1;
      users = ids_tell core (replay (search_rules core) journal) w.0 ids is.0 w.2 is.1;
      line_is = is.2;
    }

-- ---- sets that were passed

-- ids that name a set name it among more names
set_grows : {N A K : Type 0} (s s' : State N A K) → Grows s s' → (ids : List ℕ) (atoms : List A) → IsSetOf s ids atoms → IsSetOf s' ids atoms
set_grows s s' grows ids atoms is = (
  (λ a i. let w = is.0 a i in (w.0, w.1, grows.names w.0 (Named a) w.2)),
  (λ x i. let w = is.1 x i in (w.0, w.1, grows.names x (Named w.0) w.2)),
)

-- the set is one of these
abbrev pub IsOneOf : {N A K : Type 0} → State N A K → List (List A) → List ℕ → Type 0
IsOneOf {N} {A} s sets ids = (atoms : List A) × (atoms ∈ sets) × IsSetOf s ids atoms

-- a set that is passed after an event was passed before, or is listed
passed_now : {N A K : Type 0} (core : Rules N A K) (sets : List (List A)) (s : State N A K) (e : Event A K) → Allowed core sets s e
    → (ids : List ℕ) → ids ∈ State.passed (happens core s e) → (ids ∈ State.passed s) ⊎ IsOneOf s sets ids
passed_now core sets s (Pass k) ok ids (inl same) = inr (ok.3.0, ok.3.1, subst (λ z. IsSetOf s z ok.3.0) (sym same) ok.3.2)
passed_now core sets s (Pass k) ok ids (inr i) = inl i
passed_now core sets s (NameTerm node) ok ids i = inl i
passed_now core sets s (NameAtom a) ok ids i = inl i
passed_now core sets s NameBody ok ids i = inl i
passed_now core sets s (Number x a number) ok ids i = inl i
passed_now core sets s (Make k) ok ids i = inl i
passed_now core sets s (Put a v n) ok ids i = inl i
passed_now core sets s (Choose b up) ok ids i = inl i
passed_now core sets s (Close x) ok ids i = inl i
passed_now core sets s (Strike n) ok ids i = inl i
passed_now core sets s (Keep n) ok ids i = inl i
passed_now core sets s (Learn how ls) ok ids i = inl i
passed_now core sets s (Justify patterns ls) ok ids i = inl i
passed_now core sets s (CallWide x) ok ids i = inl i
passed_now core sets s (Back l) ok ids i = inl i
passed_now core sets s (Show k) ok ids i = inl i

-- a set that was passed is listed
pub passed_is_listed : {N A K : Type 0} (core : Rules N A K) (sets : List (List A)) (journal : List (Event A K)) → Legal core sets journal
    → (ids : List ℕ) → ids ∈ State.passed (replay core journal) → IsOneOf (replay core journal) sets ids
passed_is_listed core sets [] legal ids i = absurd i
passed_is_listed core sets (e ∷ journal) legal ids i =
    let before = replay core journal in
    let after = replay core (e ∷ journal) in
    let grown : Grows before after = (event_later core before sets e (legal_safe core sets journal legal.0).valid legal.1).grows in
    let w : IsOneOf before sets ids = elim (passed_now core sets before e legal.1 ids i) [
      | inl j ↦ passed_is_listed core sets journal legal.0 ids j
      | inr one ↦ one
    ] in
    (w.0, w.1, set_grows before after grown ids w.0 w.2)

-- a found set of which the ids are those of a set that was passed is listed
pub passed_among : (core : Core) (s : Reached) (sets : List (List Atom)) (c : GroundAtom → Bool) (ids : List ℕ) → AreUserAtoms (search_rules core) s c ids
    → IsOneOf s (core_sets sets) ids → (I : List Atom) → HasUserAtoms c I → IsAmong sets I
passed_among core s sets c ids users one I has =
    let m = ∈-map_from (map User) one.0 sets one.1 in
    let is : IsSetOf s ids (map User m.0) = subst (λ z. IsSetOf s ids z) m.2 one.2 in (
      m.0,
      m.1,
      record {
        to = λ a i.
            let w = users.0 (User a) refl ((has a).1 i) in
            let b = is.1 w.0 w.1 in
            user_among m.0 a (subst (λ z. z ∈ map User m.0) (named_same b.0 (User a) (sym b.2 ∙ w.2)) b.1);
        back = λ a i.
            let w = is.0 (User a) (∈-map User a m.0 i) in
            let b = users.1 w.0 w.1 in
            (has a).0 (subst (λ z. c z ≡ true) (named_same b.0 (User a) (sym b.1 ∙ w.2)) b.2);
      },
    )
