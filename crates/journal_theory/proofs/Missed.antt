-- Where a search is finished, every core answer set was shown or passed: whether a set was is decided by looking at its atoms.
use Rattle.std.proofs.Common.{◌≡◌, ℕ, Bool, true, false, not, ◌&&◌, ◌||◌, List, ◌++◌, refl, sym, ap, subst, inl, inr}
use Rattle.std.specs.Prelude.{Option, Some, None, slice_get}
use Rattle.std.specs.List.{list_any}
use Rattle.lists.specs.Lists.{◌∈◌}
use Rattle.lists.proofs.ListLemmas.{∈-append_left, ∈-append_right, ∈-append_cases}
use Rattle.search_values.specs.Instances.{all_in, Rules, IsExtension, IsAnswerUnder}
use Rattle.search_values.specs.Ids.{AtomNode, Named, BodyOf}
use Rattle.journal_theory.specs.States.{State, WasFound, AreUserAtoms, IsOpen}
use Rattle.journal_theory.specs.Journals.{replay}
use Rattle.search_values.proofs.Basics.{and_left, and_right, and_intro, all_in-at, all_in-from, or_cases, or_left, or_right, any_to, any_from}
use Rattle.journal_theory.proofs.Events.{finished_none, legal_safe}
use Rattle.journal_theory.specs.Laws.{NoneIsMissed}

-- whether what an id stands for is this atom
node_is : {A : Type 0} → (A → A → Bool) → Option (AtomNode A) → A → Bool
node_is same None a = false
node_is same (Some (Named b)) a = same a b
node_is same (Some (BodyOf k)) a = false

-- whether what an id stands for is a user atom of the set
node_good : {A : Type 0} → (A → Bool) → (A → Bool) → Option (AtomNode A) → Bool
node_good is_user c None = false
node_good is_user c (Some (Named a)) = c a && is_user a
node_good is_user c (Some (BodyOf k)) = false

module _ {N A K : Type 0} (core : Rules N A K) (s : State N A K) where
  node_is-names : (o : Option (AtomNode A)) (a : A) → node_is core.same_atom o a ≡ true → o ≡ Some (Named a)
  unfolding node_is
  node_is-names None a h = cc
  node_is-names (Some (Named b)) a h = ap (λ z. Some (Named z)) (sym (core.atoms_same a b h))
  node_is-names (Some (BodyOf k)) a h = cc

  names-node_is : (o : Option (AtomNode A)) (a : A) → o ≡ Some (Named a) → node_is core.same_atom o a ≡ true
  unfolding node_is
  names-node_is None a e = cc
  names-node_is (Some (Named b)) a e = (let f : b ≡ a = cc in subst (λ z. core.same_atom a z ≡ true) (sym f) (core.atom_itself a))
  names-node_is (Some (BodyOf k)) a e = cc

  good-names : (c : A → Bool) (o : Option (AtomNode A)) → node_good core.is_user c o ≡ true → (a : A) × (o ≡ Some (Named a)) × (c a ≡ true) × (core.is_user a ≡ true)
  unfolding node_good
  good-names c None h = cc
  good-names c (Some (Named a)) h = (a, refl, and_left (c a) (core.is_user a) h, and_right (c a) (core.is_user a) h)
  good-names c (Some (BodyOf k)) h = cc

  names-good : (c : A → Bool) (o : Option (AtomNode A)) (a : A) → o ≡ Some (Named a) → c a ≡ true → core.is_user a ≡ true → node_good core.is_user c o ≡ true
  unfolding node_good
  names-good c None a e t u = cc
  names-good c (Some (Named b)) a e t u = (let f : a ≡ b = cc in and_intro (c b) (core.is_user b) (subst (λ z. c z ≡ true) f t) (subst (λ z. core.is_user z ≡ true) f u))
  names-good c (Some (BodyOf k)) a e t u = cc

  -- whether one of the ids names the atom, where it is a user atom of the set
  atom_found : (A → Bool) → List ℕ → A → Bool
  atom_found c ids a = not (core.is_user a && c a) || list_any (λ x. node_is core.same_atom (slice_get s.names x) a) ids

  -- whether these are the ids of the user atoms of the set, whose atoms are all in the list
  users_test : (A → Bool) → List A → List ℕ → Bool
  users_test c order ids = all_in (atom_found c ids) order && all_in (λ x. node_good core.is_user c (slice_get s.names x)) ids

  not_both : (b : Bool) → b ≡ true → not b ≡ true → ⊥
  not_both b e f = (let g : not b ≡ false = ap not e in cc)

  test_users : (c : A → Bool) (order : List A) → ((a : A) → c a ≡ true → a ∈ order) → (ids : List ℕ) → users_test c order ids ≡ true → AreUserAtoms core s c ids
  unfolding users_test atom_found
  test_users c order all ids h = (
    (λ a u t. elim (or_cases (not (core.is_user a && c a)) (list_any (λ x. node_is core.same_atom (slice_get s.names x) a) ids)
        (all_in-at (λ b. not (core.is_user b && c b) || list_any (λ x. node_is core.same_atom (slice_get s.names x) b) ids) order (and_left (all_in _ order) _ h) a (all a t))) [
          | inl e ↦ absurd (not_both (core.is_user a && c a) (and_intro (core.is_user a) (c a) u t) e)
          | inr k ↦ (let r = any_to (λ x. node_is core.same_atom (slice_get s.names x) a) ids k in (r.0, r.1, node_is-names (slice_get s.names r.0) a r.2))
        ]),
    (λ x i. good-names c (slice_get s.names x) (all_in-at (λ y. node_good core.is_user c (slice_get s.names y)) ids (and_right (all_in _ order) (all_in _ ids) h) x i)),
  )

  users-test : (c : A → Bool) (order : List A) (ids : List ℕ) → AreUserAtoms core s c ids → users_test c order ids ≡ true
  unfolding users_test atom_found
  users-test c order ids h = and_intro (all_in _ order) (all_in _ ids)
      (all_in-from (λ b. not (core.is_user b && c b) || list_any (λ x. node_is core.same_atom (slice_get s.names x) b) ids) order (λ a i. by_case a (core.is_user a && c a) refl))
      (all_in-from (λ y. node_good core.is_user c (slice_get s.names y)) ids (λ x i. let r = h.1 x i in names-good c (slice_get s.names x) r.0 r.1 r.2 r.3))
    where
      by_case : (a : A) (b : Bool) → (core.is_user a && c a) ≡ b → (not (core.is_user a && c a) || list_any (λ x. node_is core.same_atom (slice_get s.names x) a) ids) ≡ true
      by_case a false e = or_left (not (core.is_user a && c a)) _ (ap not e)
      by_case a true e = or_right (not (core.is_user a && c a)) _
          (let r = h.0 a (and_left (core.is_user a) (c a) e) (and_right (core.is_user a) (c a) e) in
          any_from (λ x. node_is core.same_atom (slice_get s.names x) a) ids r.0 r.1 (names-node_is (slice_get s.names r.0) a r.2))

  -- where no set is open, each core answer set was found
  was_found : ((c : A → Bool) → ¬ IsOpen core s c) → (n : N) (c : A → Bool) → IsExtension core s.numbers n c → IsAnswerUnder core n c → (ids : List ℕ) × WasFound s ids × AreUserAtoms core s c ids
  was_found none n c ext answers = go (list_any (users_test c answers.order) (s.shown ++ s.passed)) refl
    where
      go : (b : Bool) → list_any (users_test c answers.order) (s.shown ++ s.passed) ≡ b → (ids : List ℕ) × WasFound s ids × AreUserAtoms core s c ids
      go true h =
          let r = any_to (users_test c answers.order) (s.shown ++ s.passed) h in
          (r.0, ∈-append_cases r.0 s.shown s.passed r.1, test_users c answers.order answers.all_there r.0 r.2)
      go false h = absurd (none c (record {
        numbering = n;
        extending = ext;
        answers = answers;
        not_found = λ ids w users.
            let i : ids ∈ (s.shown ++ s.passed) = elim w [ inl j ↦ ∈-append_left ids s.shown s.passed j | inr j ↦ ∈-append_right ids s.shown s.passed j ] in
            let t = any_from (users_test c answers.order) (s.shown ++ s.passed) ids i (users-test c answers.order ids users) in
            cc;
      }))

-- law: a finished search missed no set
pub none_is_missed : {N A K : Type 0} → NoneIsMissed N A K
none_is_missed core listed journal legal finished = was_found core (replay core journal) (finished_none core (replay core journal) (legal_safe core listed journal legal) finished)
