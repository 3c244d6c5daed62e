-- The lines of sets of ids: which sets they are, that no two are equal, and how they turn from the newest first to the oldest first.
use Rattle.std.proofs.Common.{◌≡◌, ℕ, suc, List, [], ◌∷◌, ◌++◌, map, length, reverse, refl, sym, ◌∙◌, ap, subst, Bool, true, inl, inr}
use Rattle.std.specs.Prelude.{Some}
use Rattle.std.proofs.lemmas.List.{reverse-append, reverse-reverse}
use Rattle.lists.specs.Lists.{◌∈◌, ◌⊆◌, HasNoRepeats, Each, SameSet}
use Rattle.lists.proofs.ListLemmas.{Each-at, Each-from, ∈-append_left, ∈-append_right, ∈-append_cases, ∈-map, ∈-map_from}
use Rattle.asp_meaning.specs.Atoms.{Atom}
use Rattle.asp_meaning.specs.Lines.{IsSetLine}
use Rattle.asp_meaning.specs.Output.{IsBraceLine}
use Rattle.asp_meaning.specs.Readable.{IsReadable}
use Rattle.asp_laws.proofs.Readable.{one_line_for_the_same_set, lines_tell_their_sets}
use Rattle.asp_laws.proofs.WholeLines.{lines_of_readable_atoms_are_whole}
use Rattle.core_rules.specs.declared.rules.Core.{Core}
use Rattle.core_meaning.specs.Atoms.{GroundAtom, User}
use Rattle.core_meaning.specs.AnswerSets.{HasUserAtoms}
use Rattle.search_values.specs.Instances.{IsAnswerUnder}
use Rattle.search_values.specs.Ids.{AtomNode, Named, Names}
use Rattle.journal_theory.specs.States.{IsName, AreUserAtoms}
use Rattle.journal_theory.specs.Laws.{NoneTwice}
use Rattle.search_values.proofs.Basics.{in_single}
use Rattle.journal_theory.proofs.Central.{names_in}
use Rattle.journal_theory.proofs.Instances.{names_back}
use Rattle.search_rules.specs.Rules.{Reached, search_rules}
use Rattle.search_rules.specs.Stage.{IsSearchable}
use Rattle.search_rules.proofs.CoreSets.{found_are_core_sets}
use Rattle.search_rules.proofs.Readable.{found_atoms_are_readable}
use Rattle.search_rules.proofs.UserAtoms.{found_are_listed, user_same}
use Rattle.search_journals.specs.Journals.{IsLineOfIds, AreLinesOf}
use Rattle.search_journals.specs.Search.{IsCoreSetLine, IsAmong}

-- ---- lists turned

-- the first stands last in the list turned
pub turned : {X : Type 0} (x : X) (xs : List X) → reverse (x ∷ xs) ≡ reverse xs ++ x ∷ []
turned x xs = reverse-append (x ∷ []) xs

-- a member is one of the list turned
pub ∈-turned : {X : Type 0} (x : X) (xs : List X) → x ∈ xs → x ∈ reverse xs
∈-turned x [] i = i
∈-turned x (y ∷ xs) (inl e) = subst (λ ys. x ∈ ys) (sym (turned y xs)) (∈-append_right x (reverse xs) (y ∷ []) (inl e))
∈-turned x (y ∷ xs) (inr i) = subst (λ ys. x ∈ ys) (sym (turned y xs)) (∈-append_left x (reverse xs) (y ∷ []) (∈-turned x xs i))

-- and back
pub ∈-turned_back : {X : Type 0} (x : X) (xs : List X) → x ∈ reverse xs → x ∈ xs
∈-turned_back x xs i = subst (λ ys. x ∈ ys) (reverse-reverse xs) (∈-turned x (reverse xs) i)

-- what holds of each member holds of each of the list turned
pub Each-turned : {X : Type 0} (Q : X → Type 0) (xs : List X) → Each Q xs → Each Q (reverse xs)
Each-turned Q xs each = Each-from Q (reverse xs) (λ x i. Each-at Q xs x each (∈-turned_back x xs i))

-- a new member at the end repeats none
pub no_repeats-last : {X : Type 0} (xs : List X) (y : X) → HasNoRepeats xs → ¬ (y ∈ xs) → HasNoRepeats (xs ++ y ∷ [])
no_repeats-last [] y once new = ((λ i. i), tt)
no_repeats-last (x ∷ xs) y once new = (
  (λ i. elim (∈-append_cases x xs (y ∷ []) i) [ inl j ↦ once.0 j | inr j ↦ new (inl (sym (in_single j))) ]),
  no_repeats-last xs y once.1 (λ i. new (inr i)),
)

-- a list without repeats has none when it is turned
pub no_repeats-turned : {X : Type 0} (xs : List X) → HasNoRepeats xs → HasNoRepeats (reverse xs)
no_repeats-turned [] once = tt
no_repeats-turned (x ∷ xs) once = subst HasNoRepeats (sym (turned x xs))
    (no_repeats-last (reverse xs) x (no_repeats-turned xs once.1) (λ i. once.0 (∈-turned_back x xs i)))

-- ---- lines one by one

-- the lines are as many as the sets
pub lines_length : (r : Reached) (sets lines : List (List ℕ)) → AreLinesOf r sets lines → length lines ≡ length sets
lines_length r [] [] are = refl
lines_length r [] (line ∷ lines) are = absurd are
lines_length r (ids ∷ sets) [] are = absurd are
lines_length r (ids ∷ sets) (line ∷ lines) are = ap suc (lines_length r sets lines are.1)

-- each line is that of a set
pub set_with_line : (r : Reached) (sets lines : List (List ℕ)) → AreLinesOf r sets lines → (line : List ℕ) → line ∈ lines
    → (ids : List ℕ) × (ids ∈ sets) × IsLineOfIds r ids line
set_with_line r [] [] are line i = absurd i
set_with_line r [] (l ∷ lines) are line i = absurd are
set_with_line r (ids ∷ sets) [] are line i = absurd i
set_with_line r (ids ∷ sets) (l ∷ lines) are line (inl e) = (ids, inl refl, subst (λ z. IsLineOfIds r ids z) (sym e) are.0)
set_with_line r (ids ∷ sets) (l ∷ lines) are line (inr i) = let w = set_with_line r sets lines are.1 line i in (w.0, inr w.1, w.2)

-- and each set has its line
pub line_with_set : (r : Reached) (sets lines : List (List ℕ)) → AreLinesOf r sets lines → (ids : List ℕ) → ids ∈ sets
    → (line : List ℕ) × (line ∈ lines) × IsLineOfIds r ids line
line_with_set r [] lines are ids i = absurd i
line_with_set r (k ∷ sets) [] are ids i = absurd are
line_with_set r (k ∷ sets) (line ∷ lines) are ids (inl e) = (line, inl refl, subst (λ z. IsLineOfIds r z line) (sym e) are.0)
line_with_set r (k ∷ sets) (line ∷ lines) are ids (inr i) = let w = line_with_set r sets lines are.1 ids i in (w.0, inr w.1, w.2)

-- one set and its line more at the end
lines_last : (r : Reached) (sets lines : List (List ℕ)) (ids line : List ℕ) → AreLinesOf r sets lines → IsLineOfIds r ids line
    → AreLinesOf r (sets ++ ids ∷ []) (lines ++ line ∷ [])
lines_last r [] [] ids line are is = (is, tt)
lines_last r [] (l ∷ lines) ids line are is = absurd are
lines_last r (k ∷ sets) [] ids line are is = absurd are
lines_last r (k ∷ sets) (l ∷ lines) ids line are is = (are.0, lines_last r sets lines ids line are.1 is)

-- the lines from the oldest to the newest are those of the sets so
pub lines_turned : (r : Reached) (sets lines : List (List ℕ)) → AreLinesOf r sets lines → AreLinesOf r (reverse sets) (reverse lines)
lines_turned r [] [] are = tt
lines_turned r [] (line ∷ lines) are = absurd are
lines_turned r (ids ∷ sets) [] are = absurd are
lines_turned r (ids ∷ sets) (line ∷ lines) are =
    subst (λ zs. AreLinesOf r zs (reverse (line ∷ lines))) (sym (turned ids sets))
    (subst (λ zs. AreLinesOf r (reverse sets ++ ids ∷ []) zs) (sym (turned line lines))
    (lines_last r (reverse sets) (reverse lines) ids line (lines_turned r sets lines are.1) are.0))

-- ---- the sets that lines are of

-- a set that is found, whose atoms of the program are those of the ids, which have this line
pub record IsSetWithLine (core : Core) (r : Reached) (ids line : List ℕ) : Type 0 where
  pub set : GroundAtom → Bool
  pub answers : IsAnswerUnder (search_rules core) tt set
  pub atoms : List Atom
  pub names : Names r.names ids (map User atoms)
  pub users : HasUserAtoms set atoms
  pub line_is : IsSetLine atoms line

-- a named atom is no other
pub named_same : (a b : GroundAtom) → (let m : AtomNode GroundAtom = Named a in let n : AtomNode GroundAtom = Named b in Some m ≡ Some n)
    → a ≡ b
named_same a b e = cc

-- an atom of the program among such atoms
pub user_among : (atoms : List Atom) (a : Atom) → User a ∈ map User atoms → a ∈ atoms
user_among atoms a i = let w = ∈-map_from User (User a) atoms i in subst (λ z. z ∈ atoms) (sym (user_same a w.0 w.2)) w.1

-- the atoms that the ids of a set name are its atoms of the program
pub ids_tell : (core : Core) (r : Reached) (c : GroundAtom → Bool) (ids : List ℕ) (atoms : List Atom)
    → AreUserAtoms (search_rules core) r c ids → Names r.names ids (map User atoms) → HasUserAtoms c atoms
ids_tell core r c ids atoms users names a = (
  (λ t.
      let w = users.0 (User a) refl t in
      let n = names_in r.names ids (map User atoms) names w.0 w.1 in
      user_among atoms a (subst (λ z. z ∈ map User atoms) (named_same n.0 (User a) (sym n.2 ∙ w.2)) n.1)),
  (λ i.
      let n = names_back r.names ids (map User atoms) names (User a) (∈-map User a atoms i) in
      let w = users.1 n.0 n.1 in
      subst (λ z. c z ≡ true) (named_same w.0 (User a) (sym w.1 ∙ n.2)) w.2),
)

module _ (core : Core) (searchable : IsSearchable core) (r : Reached) where
  -- the atoms of the set can be read back
  pub readable : (ids line : List ℕ) → (h : IsSetWithLine core r ids line) → Each IsReadable h.atoms
  readable ids line h = Each-from IsReadable h.atoms (λ a i. found_atoms_are_readable core h.set (searchable) h.answers a ((h.users a).1 i))

  -- the line is that of a core answer set, which isn't listed where its atoms aren't those of a set that is
  pub core_line : (A : List (List Atom)) (ids line : List ℕ) (h : IsSetWithLine core r ids line)
      → ((I : List Atom) → SameSet I h.atoms → ¬ IsAmong A I) → IsCoreSetLine core A line
  core_line A ids line h none =
      let found = found_are_listed core h.set (searchable.form, searchable.no_aggregates) h.answers in
      let same : SameSet found.0 h.atoms = record {
        to = λ a i. (h.users a).0 ((found.2 a).1 i);
        back = λ a i. (found.2 a).0 ((h.users a).1 i);
      } in
      record {
        set = found.0;
        once = found.1;
        has_core_sets = found_are_core_sets core found.0 h.set (searchable.form, searchable.no_aggregates) h.answers found.2;
        unlisted = none found.0 same;
        is = one_line_for_the_same_set found.0 h.atoms line same h.line_is;
      }

  -- it is one whole line
  pub whole_line : (ids line : List ℕ) → IsSetWithLine core r ids line → IsBraceLine line
  whole_line ids line h = lines_of_readable_atoms_are_whole h.atoms line (readable ids line h) h.line_is

  module _ (once : (x y : ℕ) (a : GroundAtom) → IsName r x a → IsName r y a → x ≡ y) where
    -- ids are determined by their atoms
    ids_among : (ids ids' : List ℕ) (atoms atoms' : List Atom) → Names r.names ids (map User atoms) → Names r.names ids' (map User atoms')
        → atoms ⊆ atoms' → ids ⊆ ids'
    ids_among ids ids' atoms atoms' names names' sub x i =
        let n = names_in r.names ids (map User atoms) names x i in
        let a = ∈-map_from User n.0 atoms n.1 in
        let m = names_back r.names ids' (map User atoms') names' (User a.0) (∈-map User a.0 atoms' (sub a.0 a.1)) in
        subst (λ z. z ∈ ids') (sym (once x m.0 n.0 n.2 (subst (λ z. IsName r m.0 z) (sym a.2) m.2))) m.1

    -- sets with one line have the same ids
    pub same_ids : (ids ids' line : List ℕ) → IsSetWithLine core r ids line → IsSetWithLine core r ids' line → SameSet ids ids'
    same_ids ids ids' line h h' =
        let same = lines_tell_their_sets h.atoms h'.atoms line (readable ids line h) (readable ids' line h') h.line_is h'.line_is in
        record {
          to = ids_among ids ids' h.atoms h'.atoms h.names h'.names same.to;
          back = ids_among ids' ids h'.atoms h.atoms h'.names h.names same.back;
        }

    -- lines of sets of which no two are the same have no repeats
    pub lines_once : (sets lines : List (List ℕ)) → AreLinesOf r sets lines → NoneTwice sets
        → ((ids line : List ℕ) → ids ∈ sets → IsLineOfIds r ids line → IsSetWithLine core r ids line)
        → HasNoRepeats lines
    lines_once sets [] are twice all = tt
    lines_once [] (line ∷ lines) are twice all = absurd are
    lines_once (ids ∷ sets) (line ∷ lines) are twice all = (
      (λ i.
          let w = set_with_line r sets lines are.1 line i in
          twice.0 w.0 w.1 (same_ids ids w.0 line (all ids line (inl refl) are.0) (all w.0 line (inr w.1) w.2))),
      lines_once sets lines are.1 twice.1 (λ k l i is. all k l (inr i) is),
    )
