-- Each event that may come keeps what is known of the state.
use Rattle.std.proofs.Common.{◌≡◌, ℕ, ◌⊎◌, Bool, true, false, List, [], ◌∷◌, ◌++◌, refl, sym, ◌∙◌, subst, inl, inr}
use Rattle.std.specs.Prelude.{Option, Some, None}
use Rattle.lists.specs.Lists.{◌∈◌}
use Rattle.lists.proofs.ListLemmas.{∈-append_cases}
use Rattle.search_values.specs.Values.{Lit, lit, chosen, HasClosed}
use Rattle.search_values.specs.Nogoods.{Nogood}
use Rattle.search_values.specs.Instances.{Kind, Plain, Choice, Constraint, Instance, Rules, IsExtension}
use Rattle.search_values.specs.Tables.{Made, lits_of, once, set_of, each_with, with_body, table_of}
use Rattle.search_values.specs.Ids.{AtomNode, Named, BodyOf}
use Rattle.journal_theory.specs.States.{Phase, Free, MustLearn, MustDecide, Found, MustStrike, MustJump, Over, State, IsName, WasFound, AreUserAtoms, IsOpen, IsSound}
use Rattle.search_values.proofs.Basics.{get_left, get_snoc}
use Rattle.journal_theory.proofs.Meaning.{Grows, denotes_grows, known_grows, truth_grows, Later, SameSets, AllKnown, sound_later}
use Rattle.journal_theory.proofs.Stack.{Good, good_later}
use Rattle.search_values.proofs.Tables.{set_of-lits, in_lits_of}
use Rattle.journal_theory.proofs.Central.{GoodMade, Valid}

-- no open set agrees with what is chosen
abbrev pub Blocked : {N A K : Type 0} → Rules N A K → State N A K → Type 0
Blocked core s = IsSound core s (chosen s.stack)

-- no set is open
abbrev pub NoneOpen : {N A K : Type 0} → Rules N A K → State N A K → Type 0
NoneOpen {A} core s = (c : A → Bool) → IsOpen core s c → ⊥

-- what a phase says of the open sets
abbrev pub PhaseHolds : {N A K : Type 0} → Rules N A K → State N A K → Phase → Type 0
PhaseHolds core s Free = Unit {0}
PhaseHolds core s (MustLearn n) = Blocked core s
PhaseHolds core s MustDecide = Blocked core s
PhaseHolds core s Found = Blocked core s
PhaseHolds core s (MustStrike n) = Unit {0}
PhaseHolds core s (MustJump n) = Unit {0}
PhaseHolds core s Over = NoneOpen core s

-- the invariant of a legal journal: the state is valid, closing is told rightly, and the phase says what holds
pub record IsSafe {N A K : Type 0} (core : Rules N A K) (s : State N A K) : Type 0 where
  pub valid : Valid core s
  pub closing : s.closing ≡ true → HasClosed s.stack
  pub phase : PhaseHolds core s s.phase

-- a state that has grown stays valid, where its new instances, nogoods and entries are
pub valid_later : {N A K : Type 0} (core : Rules N A K) (s s' : State N A K) → Valid core s → Later core s s'
    → ((x y : ℕ) (a : A) → IsName s' x a → IsName s' y a → x ≡ y)
    → ((x : ℕ) (a : A) → IsName s' x a → core.may_be_named s'.numbers a ≡ true)
    → ((k : Made K) → k ∈ s'.made → GoodMade core s' k)
    → ((ng : Nogood) → ng ∈ s'.nogoods → (ng ∈ s.nogoods) ⊎ (AllKnown s' ng.lits × IsSound core s' ng.lits))
    → Good core s' s'.stack
    → Valid core s'
valid_later core s s' v later once speak made ngs good = record {
  once = once;
  made = made;
  known = λ ng i. elim (ngs ng i) [ inl j ↦ (λ l m. known_grows s s' later.grows l.atom (v.known ng j l m)) | inr k ↦ k.0 ];
  sound = λ ng i. elim (ngs ng i) [ inl j ↦ sound_later core s s' later ng.lits (v.known ng j) (v.sound ng j) | inr k ↦ k.1 ];
  good = good;
  speak = speak;
}

-- an instance stays good as names and instances are added
pub made_later : {N A K : Type 0} (core : Rules N A K) (s s' : State N A K) → Grows s s'
    → ((m : K) (i : Instance A) → core.instance_of s.numbers m ≡ Some i → core.instance_of s'.numbers m ≡ Some i)
    → ((ng : Nogood) → ng ∈ s.nogoods → ng ∈ s'.nogoods) → (k : Made K) → GoodMade core s k → GoodMade core s' k
made_later core s s' g nums more k m = record {
  inst = m.inst;
  of_core = nums k.maker m.inst m.of_core;
  denotes = denotes_grows s s' g k.inst m.inst m.denotes;
  fits = m.fits;
  body = λ b e. let w = m.body b e in (w.0, g.names b (BodyOf w.0) w.1, g.made w.0 k w.2);
  stored = λ ng i. more ng (m.stored ng i);
}

-- the ids of a set's user atoms stay so
pub users_later : {N A K : Type 0} (core : Rules N A K) (s s' : State N A K) → Grows s s' → (c : A → Bool) (ids : List ℕ) → AreUserAtoms core s c ids → AreUserAtoms core s' c ids
users_later core s s' g c ids h = (
  λ a u t. let r = h.0 a u t in (r.0, r.1, g.names r.0 (Named a) r.2),
  λ x i. let r = h.1 x i in (r.0, g.names x (Named r.0) r.1, r.2, r.3),
)

-- with the same numbers, the sets that are open were open
pub open_before : {N A K : Type 0} (core : Rules N A K) (s s' : State N A K) → s.numbers ≡ s'.numbers → Grows s s' → ((ids : List ℕ) → WasFound s ids → WasFound s' ids) → (c : A → Bool) → IsOpen core s' c → IsOpen core s c
open_before core s s' same g more c o = record {
  numbering = o.numbering;
  extending = subst (λ n. IsExtension core n o.numbering c) (sym same) o.extending;
  answers = o.answers;
  not_found = λ ids i h. o.not_found ids (more ids i) (users_later core s s' g c ids h);
}

unfoldable pub later_from : {N A K : Type 0} (core : Rules N A K) (s s' : State N A K) → s.numbers ≡ s'.numbers → Grows s s' → ((ids : List ℕ) → WasFound s ids → WasFound s' ids) → Later core s s'
later_from core s s' same g more = record {
  grows = g;
  earlier = λ c o. (c, open_before core s s' same g more c o, λ x k. sym (truth_grows s s' g c x k));
}

-- the open sets are the same ones
pub from_same : {N A K : Type 0} (core : Rules N A K) (s s' : State N A K) (same : s.numbers ≡ s'.numbers) (g : Grows s s') (more : (ids : List ℕ) → WasFound s ids → WasFound s' ids) → SameSets core s s' (later_from core s s' same g more)
unfolding later_from
from_same core s s' same g more c o a t = t

-- names

-- a state grows by a name
pub name_grows : {N A K : Type 0} (s : State N A K) (n : AtomNode A) → Grows s (record s { names = s.names ++ n ∷ [] })
name_grows s n = record { names = λ x k e. get_left s.names (n ∷ []) x k e; made = λ j k e. e }

-- a new name keeps a state valid
pub name_keeps : {N A K : Type 0} (core : Rules N A K) (s : State N A K) (n : AtomNode A) → Valid core s
    → ((x : ℕ) (a : A) → n ≡ Named a → IsName s x a → ⊥)
    → ((a : A) → n ≡ Named a → core.may_be_named s.numbers a ≡ true)
    → Valid core (record s { names = s.names ++ n ∷ [] })
name_keeps {N} {A} core s n v fresh speak =
    valid_later core s (record s { names = s.names ++ n ∷ [] }) v later
    (λ x y a p q. elim (get_snoc s.names n x (Named a) p) [
      | inl i ↦ elim (get_snoc s.names n y (Named a) q) [ inl j ↦ v.once x y a i j | inr j ↦ absurd (fresh x a (sym j.1) i) ]
      | inr i ↦ elim (get_snoc s.names n y (Named a) q) [ inl j ↦ absurd (fresh y a (sym i.1) j) | inr j ↦ (i.0 ∙ sym j.0) ]
    ])
    (λ x a p. elim (get_snoc s.names n x (Named a) p) [ inl i ↦ v.speak x a i | inr i ↦ speak a (sym i.1) ])
    (λ k i. made_later core s (record s { names = s.names ++ n ∷ [] }) (name_grows s n) (λ m j e. e) (λ ng j. j) k (v.made k i))
    (λ ng i. inl i)
    (good_later core s (record s { names = s.names ++ n ∷ [] }) later s.stack (inl (from_same core s (record s { names = s.names ++ n ∷ [] }) refl (name_grows s n) (λ ids i. i))) v.good)
  where
    later : Later core s (record s { names = s.names ++ n ∷ [] })
    later = later_from core s (record s { names = s.names ++ n ∷ [] }) refl (name_grows s n) (λ ids i. i)

-- instances

-- what holds of each id of the instance holds of each atom in its nogoods
module _ (P : ℕ → Type 0) where
  lits_all : (up : Bool) (ids : List ℕ) → ((x : ℕ) → x ∈ ids → P x) → (l : Lit) → l ∈ lits_of up ids → P l.atom
  lits_all up ids h l i = h l.atom (in_lits_of up ids l i).0

  set_all : (head : Option ℕ) (ls : List Lit) → ((l : Lit) → l ∈ ls → P l.atom) → (ng : Nogood) → ng ∈ set_of head ls → (l : Lit) → l ∈ ng.lits → P l.atom
  set_all head ls h ng i l j = h l (set_of-lits head ls ng i l j)

  pair_all : (a b : ℕ) (u v : Bool) → P a → P b → (l : Lit) → l ∈ (lit a u ∷ lit b v ∷ []) → P l.atom
  pair_all a b u v p q l (inl e) = subst (λ (z : Lit). P z.atom) (sym e) p
  pair_all a b u v p q l (inr (inl e)) = subst (λ (z : Lit). P z.atom) (sym e) q
  pair_all a b u v p q l (inr (inr e)) = absurd e

  each_all : (b : ℕ) (up : Bool) (ids : List ℕ) → P b → ((x : ℕ) → x ∈ ids → P x) → (ng : Nogood) → ng ∈ each_with b up ids → (l : Lit) → l ∈ ng.lits → P l.atom
  each_all b up [] p h ng i l j = absurd i
  each_all b up (x ∷ ids) p h ng i l j = elim (∈-append_cases ng (set_of None (lit b true ∷ lit x up ∷ [])) (each_with b up ids) i) [
    | inl m ↦ set_all None (lit b true ∷ lit x up ∷ []) (pair_all b x true up p (h x (inl refl))) ng m l j
    | inr m ↦ each_all b up ids p (λ y n. h y (inr n)) ng m l j
  ]

  body_all : (b : ℕ) (head : List Lit) (i : Instance ℕ) (h : ℕ) → P b → ((l : Lit) → l ∈ head → P l.atom) → P h → ((x : ℕ) → x ∈ i.pos → P x) → ((x : ℕ) → x ∈ i.neg → P x)
      → (ng : Nogood) → ng ∈ with_body b head i h → (l : Lit) → l ∈ ng.lits → P l.atom
  body_all b head i h pb ph p pos neg ng j l m =
      elim (∈-append_cases ng (first ++ each_with b false i.pos ++ each_with b true i.neg) (set_of (Some h) (lit h false ∷ lit b true ∷ [])) j) [
        | inl n ↦ elim (∈-append_cases ng (first ++ each_with b false i.pos) (each_with b true i.neg) n) [
          | inl o ↦ elim (∈-append_cases ng first (each_with b false i.pos) o) [
            | inl q ↦ set_all (Some b) (lit b false ∷ head ++ lits_of true i.pos ++ lits_of false i.neg) in_first ng q l m
            | inr q ↦ each_all b false i.pos pb pos ng q l m
          ]
          | inr o ↦ each_all b true i.neg pb neg ng o l m
        ]
        | inr n ↦ set_all (Some h) (lit h false ∷ lit b true ∷ []) (pair_all h b false true p pb) ng n l m
      ]
    where
      first : List Nogood
      first = set_of (Some b) (lit b false ∷ head ++ lits_of true i.pos ++ lits_of false i.neg)

      in_first : (l : Lit) → l ∈ (lit b false ∷ head ++ lits_of true i.pos ++ lits_of false i.neg) → P l.atom
      in_first l (inl e) = subst (λ (z : Lit). P z.atom) (sym e) pb
      in_first l (inr r) = elim (∈-append_cases l (head ++ lits_of true i.pos) (lits_of false i.neg) r) [
        | inl u ↦ elim (∈-append_cases l head (lits_of true i.pos) u) [ inl w ↦ ph l w | inr w ↦ lits_all true i.pos pos l w ]
        | inr u ↦ lits_all false i.neg neg l u
      ]

  -- it holds of the head
  abbrev pub HeadHas : Kind ℕ → Type 0
  HeadHas (Plain h) = P h
  HeadHas (Choice h) = P h
  HeadHas Constraint = Unit {0}

  -- what holds of each id of the instance holds of each atom in its nogoods
  pub table_all : (kind : Kind ℕ) (body : Option ℕ) (i : Instance ℕ) → HeadHas kind → ((b : ℕ) → body ≡ Some b → P b) → ((x : ℕ) → x ∈ i.pos → P x) → ((x : ℕ) → x ∈ i.neg → P x)
      → (ng : Nogood) → ng ∈ table_of kind body i → (l : Lit) → l ∈ ng.lits → P l.atom
  table_all (Plain h) None i p pb pos neg ng j l m = set_all (Some h) (lit h false ∷ lits_of true i.pos) (λ k n. elim n [ inl e ↦ subst (λ (z : Lit). P z.atom) (sym e) p | inr r ↦ lits_all true i.pos pos k r ]) ng j l m
  table_all (Plain h) (Some b) i p pb pos neg ng j l m = body_all b [] i h (pb b refl) (λ k n. absurd n) p pos neg ng j l m
  table_all (Choice h) None i p pb pos neg ng j l m = absurd j
  table_all (Choice h) (Some b) i p pb pos neg ng j l m = body_all b (lit h true ∷ []) i h (pb b refl) (λ k n. elim n [ inl e ↦ subst (λ (z : Lit). P z.atom) (sym e) p | inr r ↦ absurd r ]) p pos neg ng j l m
  table_all Constraint body i p pb pos neg ng j l m = set_all None (lits_of true i.pos ++ lits_of false i.neg) (λ k n. elim (∈-append_cases k (lits_of true i.pos) (lits_of false i.neg) n) [
    | inl r ↦ lits_all true i.pos pos k r
    | inr r ↦ lits_all false i.neg neg k r
  ]) ng j l m
