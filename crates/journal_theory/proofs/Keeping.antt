-- Nogoods of literals chosen alone can be kept, and none is kept twice where each Back goes as far as it can.
use Rattle.std.proofs.Common.{◌≡◌, ℕ, ◌+◌, ◌≤◌, ◌<◌, ◌⊎◌, Bool, true, false, ◌&&◌, cond, List, [], ◌∷◌, ◌++◌, length, refl, sym, ◌∙◌, ap, subst, inl, inr, arith}
use Rattle.std.specs.Prelude.{Option, Some, None, slice_get, nat_eq, nat_le, is_none}
use Rattle.lists.specs.Lists.{◌∈◌, ◌⊆◌}
use Rattle.search_values.specs.declared.entry.Why.{Why}
use Rattle.search_values.specs.declared.entry.Why.TheVariants.{Given, Chosen, Closed}
use Rattle.search_values.specs.declared.entry.Entry.{Entry}
use Rattle.search_values.specs.Values.{Value, Lit, is_up, lit, value_of, Holds, opened, level_of, back_to, first_level, chosen_with, chosen, is_closed, explain}
use Rattle.search_values.specs.Nogoods.{Nogood, IsLeft, NoneUnit}
use Rattle.search_values.specs.Instances.{Rules}
use Rattle.search_values.specs.Tables.{nogoods_of}
use Rattle.journal_theory.specs.Resolution.{IsOneHighest}
use Rattle.journal_theory.specs.States.{State, Phase, Free, MustLearn, MustDecide, Found, MustStrike, MustJump}
use Rattle.journal_theory.specs.Covers.{IsWanted, for_stuck, for_closed, for_unassigned}
use Rattle.journal_theory.specs.Events.{Event, NameTerm, NameAtom, NameBody, Number, Make, Put, Choose, Close, Strike, Keep, Learn, Justify, CallWide, Back, Show, Pass, How, Analysed, Justified, Decisions, Enumerated, MayStrike, explain_first, happens, Allowed}
use Rattle.journal_theory.specs.Journals.{replay, Legal}
use Rattle.journal_theory.specs.Laws.{ChosenHaveOneHighest, IsFar, EachBackIsFar, KeptIsNew}
use Rattle.search_values.proofs.Basics.{get_in, get_left, nat_eq-same, nat_eq-true}
use Rattle.search_values.proofs.Tables.{nogood}
use Rattle.journal_theory.proofs.Learning.{lit_same}
use Rattle.journal_theory.proofs.Stack.{Good, level_back}
use Rattle.journal_theory.proofs.Central.{Valid}
use Rattle.journal_theory.proofs.Explaining.{opened_explained, value_explain}
use Rattle.journal_theory.proofs.Reasons.{left_same}
use Rattle.journal_theory.proofs.Events.{legal_safe}
use Rattle.journal_theory.proofs.Fresh.{NewlyChosen, ChosenAreBodies, chosen_holds, chosen_alone, legal_newly}
use Rattle.search_values.proofs.Levels.{back_above, back_here}
use Rattle.journal_theory.proofs.Highest.{first_low, left_unit, highest_left}

-- ---- literals chosen alone

is_among : (k : Lit) (ls : List Lit) → (k ∈ ls) ⊎ ((l : Lit) → l ∈ ls → ¬ (l ≡ k))
is_among k [] = inr (λ l i e. i)
is_among k (m ∷ ls) = elim (lit_same m k) [
  | inl e ↦ inl (inl (sym e))
  | inr d ↦ elim (is_among k ls) [
    | inl i ↦ inl (inr i)
    | inr none ↦ inr (λ l i. elim i [ inl e ↦ (λ q. d (sym e ∙ q)) | inr j ↦ none l j ])
  ]
]

first_pick : (b : Bool) (m n : ℕ) → b ≡ false → cond b m n ≡ n
first_pick true m n e = cc
first_pick false m n e = refl

first_new : (b : Bool) (m n : ℕ) → b ≡ true → cond b m n ≡ m
first_new true m n e = refl
first_new false m n e = cc

and_false : (a b : Bool) → b ≡ false → (a && b) ≡ false
and_false true b h = h
and_false false b h = refl

and_true : (a b : Bool) → a ≡ true → b ≡ true → (a && b) ≡ true
and_true true b e h = h
and_true false b e h = cc

-- an atom with a value keeps the level of its first value
pub first_stays : (e : Entry) (rest : List Entry) (a : ℕ) (v : Value) → value_of rest a ≡ Some v → first_level (e ∷ rest) a ≡ first_level rest a
first_stays e rest a v h = first_pick (nat_eq e.atom a && is_none (value_of rest a)) (level_of rest + opened e.why) (first_level rest a) (and_false (nat_eq e.atom a) (is_none (value_of rest a)) (ap is_none h))

-- an atom that had none stands at the present level
pub first_here : (e : Entry) (rest : List Entry) → value_of rest e.atom ≡ None → first_level (e ∷ rest) e.atom ≡ level_of rest + opened e.why
first_here e rest h = first_new (nat_eq e.atom e.atom && is_none (value_of rest e.atom)) (level_of rest + opened e.why) (first_level rest e.atom) (and_true (nat_eq e.atom e.atom) (is_none (value_of rest e.atom)) (nat_eq-same e.atom) (ap is_none h))

module _ {N A K : Type 0} (core : Rules N A K) (s : State N A K) (valid : Valid core s) (bodies : ChosenAreBodies s) (newly : NewlyChosen s) where
  lifted : (e : Entry) (rest : List Entry) (ls : List Lit) → ((l : Lit) → l ∈ ls → Holds rest l) → IsOneHighest rest ls → IsOneHighest (e ∷ rest) ls
  lifted e rest ls holds h =
      let stays : (l : Lit) → l ∈ ls → first_level (e ∷ rest) l.atom ≡ first_level rest l.atom = (λ l i. let v = holds l i in first_stays e rest l.atom v.0 v.1) in
      record {
        left = h.left;
        among = h.among;
        above = subst (λ z. 0 < z) (sym (stays h.left h.among)) h.above;
        others = λ l i. elim (h.others l i) [
          | inl q ↦ inl q
          | inr low ↦ inr (subst (λ z. z < first_level (e ∷ rest) h.left.atom) (sym (stays l i)) (subst (λ z. first_level rest l.atom < z) (sym (stays h.left h.among)) low))
        ];
      }

  newest : (e : Entry) (rest : List Entry) → Good core s rest → opened e.why ≡ 1 → value_of rest e.atom ≡ None → (ls : List Lit) → lit e.atom (is_up e.value) ∈ ls
      → ((l : Lit) → l ∈ ls → (l ≡ lit e.atom (is_up e.value)) ⊎ (l ∈ chosen rest)) → IsOneHighest (e ∷ rest) ls
  newest e rest g one free ls among sub = record {
    left = lit e.atom (is_up e.value);
    among = among;
    above = subst (λ z. 0 < z) (sym here) (positive (level_of rest) (opened e.why) one);
    others = λ l i. elim (sub l i) [
      | inl q ↦ inl q
      | inr j ↦ inr (
          let v = chosen_holds core s valid bodies newly rest g l j in
          subst (λ z. z < first_level (e ∷ rest) e.atom) (sym (first_stays e rest l.atom v.0 v.1))
          (subst (λ z. first_level rest l.atom < z) (sym here) (lower (first_level rest l.atom) (level_of rest) (opened e.why) (first_low rest l.atom) one)))
    ];
  }
    where
      here : first_level (e ∷ rest) e.atom ≡ level_of rest + opened e.why
      here = first_here e rest free

      positive : (m o : ℕ) → o ≡ 1 → 0 < m + o
      positive m o h = omega (h, arith)

      lower : (f m o : ℕ) → f ≤ m → o ≡ 1 → f < m + o
      lower f m o h k = omega (h, k, arith)

  one_highest : (stack : List Entry) → Good core s stack → (ls : List Lit) → ls ⊆ chosen stack → ¬ (ls ≡ []) → IsOneHighest stack ls
  one_highest [] g [] sub some = absurd (some refl)
  one_highest [] g (l ∷ ls) sub some = absurd (sub l (inl refl))
  one_highest (e ∷ rest) g ls sub some = go (λ below. lifted e rest ls (λ l i. chosen_holds core s valid bodies newly rest g.1 l (below l i)) (one_highest rest g.1 ls below some))
      e.why refl (value_of rest e.atom) refl sub
    where
      k : Lit
      k = lit e.atom (is_up e.value)

      go : (ls ⊆ chosen rest → IsOneHighest (e ∷ rest) ls) → (w : Why) → e.why ≡ w → (v : Option Value) → value_of rest e.atom ≡ v
          → ls ⊆ chosen_with w v (lit e.atom (is_up e.value)) (chosen rest) → IsOneHighest (e ∷ rest) ls
      go older (Given n) q v f below = older below
      go older Chosen q (Some v) f below = older below
      go older Chosen q None f below = elim (is_among (lit e.atom (is_up e.value)) ls) [
        | inl among ↦ newest e rest g.1 (ap opened q) f ls among (λ l i. below l i)
        | inr none ↦ older (λ l i. elim (below l i) [ inl same ↦ absurd (none l i same) | inr j ↦ j ])
      ]
      go older (Closed reason) q v f below = older below

-- law: literals chosen have just one at their highest level, and none is closed
pub chosen_have_one_highest : {N A K : Type 0} → ChosenHaveOneHighest N A K
chosen_have_one_highest core listed journal legal ls sub some =
    let s = replay core journal in
    let valid = (legal_safe core listed journal legal).valid in
    let r = legal_newly core listed journal legal in (
      one_highest core s valid r.0 r.1 s.stack valid.good ls sub some,
      (λ l i closed.
          let alone = chosen_alone core s valid r.0 r.1 s.stack valid.good l (sub l i) in
          let why = alone.0 closed.0 closed.1 closed.2 in
          let bad : false ≡ true = sym (ap is_closed why) ∙ closed.3 in cc),
    )

-- ---- kept nogoods

-- where a level was opened, no literal was left of the nogood
abbrev pub IsApart : Nogood → List Entry → Type 0
IsApart ng [] = Unit {0}
IsApart ng (e ∷ rest) = (opened e.why ≡ 1 → (left : Lit) → ¬ IsLeft rest ng left) × IsApart ng rest

apart_pick : (ng : Nogood) (b : Bool) (stack other : List Entry) → IsApart ng stack → IsApart ng other → IsApart ng (cond b stack other)
apart_pick ng true stack other g h = g
apart_pick ng false stack other g h = h

apart_back : (ng : Nogood) (l : ℕ) (stack : List Entry) → IsApart ng stack → IsApart ng (back_to l stack)
apart_back ng l [] h = tt
apart_back ng l (e ∷ rest) h = apart_pick ng (nat_le (level_of rest + opened e.why) l) (e ∷ rest) (back_to l rest) h (apart_back ng l rest h.1)

apart_explain : (ng : Nogood) (a n : ℕ) (stack : List Entry) → IsApart ng stack → IsApart ng (explain a n stack)
apart_explain ng a n [] h = tt
apart_explain ng a n (e ∷ rest) h = (
  (λ one left l. h.0 (sym (opened_explained a n e) ∙ one) left (left_same (explain a n rest) rest (λ x. sym (value_explain a n rest x)) ng left l)),
  apart_explain ng a n rest h.1,
)

apart_first : (ng : Nogood) (ls : List Lit) (n : ℕ) (stack : List Entry) → IsApart ng stack → IsApart ng (explain_first ls n stack)
apart_first ng [] n stack h = h
apart_first ng (l ∷ ls) n stack h = apart_explain ng l.atom n stack h

back_keep : (l : ℕ) (e : Entry) (rest : List Entry) → nat_le (level_of rest + opened e.why) l ≡ true → back_to l (e ∷ rest) ≡ e ∷ rest
back_keep l e rest h = ap (λ b. cond b (e ∷ rest) (back_to l rest)) h

nat_le-from : (a b : ℕ) → a ≤ b → nat_le a b ≡ true
nat_le-from a b h = grind arith

nat_le-to : (a b : ℕ) → nat_le a b ≡ true → a ≤ b
nat_le-to a b h = grind arith

nat_le-not : (a b : ℕ) → nat_le a b ≡ false → b < a
nat_le-not a b h = grind arith

-- nothing is taken away above what is open
back_all : (l : ℕ) (stack : List Entry) → level_of stack ≤ l → back_to l stack ≡ stack
back_all l [] h = refl
back_all l (e ∷ rest) h = back_keep l e rest (nat_le-from (level_of rest + opened e.why) l h)

below_more : (l m o : ℕ) → l < m → l < m + o
below_more l m o h = omega (h, arith)

is_one : (m l o : ℕ) → m ≤ l → l < m + o → o ≤ 1 → o ≡ 1
is_one m l o h k u = omega (h, k, u, arith)

opened_low : (w : Why) → opened w ≤ 1
opened_low (Given n) = omega arith
opened_low Chosen = omega arith
opened_low (Closed reason) = omega arith

-- so none is left of it where levels are taken away
apart_at : (ng : Nogood) (l : ℕ) (stack : List Entry) → l < level_of stack → IsApart ng stack → (left : Lit) → ¬ IsLeft (back_to l stack) ng left
apart_at ng l [] low h left is = none l low
  where
    none : (l : ℕ) → l < 0 → ⊥
    none l k = omega (k, arith)
apart_at ng l (e ∷ rest) low h left is = go (nat_le (level_of rest) l) refl (λ k. apart_at ng l rest k h.1 left) (subst (λ z. IsLeft z ng left) (back_above l e rest low) is)
  where
    go : (b : Bool) → nat_le (level_of rest) l ≡ b → (l < level_of rest → ¬ IsLeft (back_to l rest) ng left) → IsLeft (back_to l rest) ng left → ⊥
    go true q below i = h.0 (is_one (level_of rest) l (opened e.why) (nat_le-to (level_of rest) l q) low (opened_low e.why)) left (subst (λ z. IsLeft z ng left) (back_all l rest (nat_le-to (level_of rest) l q)) i)
    go false q below i = below (nat_le-not (level_of rest) l q) i

-- where none is left of it at any lower level, it is apart
apart_from : (ng : Nogood) (stack : List Entry) → ((l : ℕ) → l < level_of stack → (left : Lit) → ¬ IsLeft (back_to l stack) ng left) → IsApart ng stack
apart_from ng [] h = tt
apart_from ng (e ∷ rest) h = (
  (λ one left is. let low = next (level_of rest) (opened e.why) one in
      h (level_of rest) low left (subst (λ z. IsLeft z ng left) (sym (back_above (level_of rest) e rest low ∙ back_here rest)) is)),
  apart_from ng rest (λ l low left is. let more = below_more l (level_of rest) (opened e.why) low in h l more left (subst (λ z. IsLeft z ng left) (sym (back_above l e rest more)) is)),
)
  where
    next : (m o : ℕ) → o ≡ 1 → m < m + o
    next m o h = omega (h, arith)

-- taking levels away twice
back_back : (l m : ℕ) (stack : List Entry) → l < m → back_to l (back_to m stack) ≡ back_to l stack
back_back l m [] h = refl
back_back l m (e ∷ rest) h = go (nat_le (level_of rest + opened e.why) m) refl (back_back l m rest h)
  where
    above : (k : ℕ) → m < k → l < k
    above k q = omega (h, q, arith)

    go : (b : Bool) → nat_le (level_of rest + opened e.why) m ≡ b → back_to l (back_to m rest) ≡ back_to l rest → back_to l (cond b (e ∷ rest) (back_to m rest)) ≡ back_to l (e ∷ rest)
    go true q r = refl
    go false q r = r ∙ sym (back_above l e rest (above (level_of rest + opened e.why) (nat_le-not (level_of rest + opened e.why) m q)))

-- each nogood that was kept is apart, but for one at which levels are to be taken away
abbrev pub KeptApart : {N A K : Type 0} → State N A K → Type 0
KeptApart s = (n : ℕ) → n ∈ s.kept → (ng : Nogood) → slice_get s.nogoods n ≡ Some ng → ¬ (s.phase ≡ MustJump n) → IsApart ng s.stack

-- and is stored
abbrev pub KeptStored : {N A K : Type 0} → State N A K → Type 0
KeptStored s = (n : ℕ) → n ∈ s.kept → (ng : Nogood) × (slice_get s.nogoods n ≡ Some ng)

module _ {N A K : Type 0} (core : Rules N A K) (s : State N A K) (h : KeptApart s) (stored : KeptStored s) where
  -- what each event keeps
  abbrev Keeps : Event A K → Type 0
  Keeps e = KeptApart (happens core s e) × KeptStored (happens core s e)

  -- a phase that is this one isn't another
  not_jump : (phase other : Phase) → phase ≡ other → (n : ℕ) → ¬ (other ≡ MustJump n) → ¬ (phase ≡ MustJump n)
  not_jump phase other e n differs q = differs (sym e ∙ q)

  wanted_not_jump : (x n : ℕ) → IsWanted core s x → ¬ (s.phase ≡ MustJump n)
  wanted_not_jump x n (for_stuck e stuck) = not_jump s.phase Free e n (λ q. cc)
  wanted_not_jump x n (for_unassigned e can) = not_jump s.phase Free e n (λ q. cc)
  wanted_not_jump x n (for_closed m ng ls e at w a i) = not_jump s.phase (MustLearn m) e n (λ q. cc)

  learned_not_jump : (listed : List (List A)) (how : How) (ls : List Lit) (n : ℕ) → Allowed core listed s (Learn how ls) → ¬ (s.phase ≡ MustJump n)
  learned_not_jump listed Analysed ls n ok = not_jump s.phase (MustLearn ok.0.0.0) ok.0.0.1 n (λ q. cc)
  learned_not_jump listed Justified ls n ok = absurd ok.0
  learned_not_jump listed Decisions ls n ok = not_jump s.phase MustDecide ok.0.1 n (λ q. cc)
  learned_not_jump listed Enumerated ls n ok = not_jump s.phase Found ok.0.1 n (λ q. cc)

  strike_not_jump : (m n : ℕ) → MayStrike s.phase m → ¬ (s.phase ≡ MustJump n)
  strike_not_jump m n (inl e) = not_jump s.phase Free e n (λ q. cc)
  strike_not_jump m n (inr e) = not_jump s.phase (MustStrike m) e n (λ q. cc)

  -- a stored nogood stays where it is
  same_there : (more : List Nogood) (n : ℕ) → n ∈ s.kept → (ng : Nogood) → slice_get (s.nogoods ++ more) n ≡ Some ng → slice_get s.nogoods n ≡ Some ng
  same_there more n i ng e =
      let r = stored n i in
      let q : Some r.0 ≡ Some ng = sym (get_left s.nogoods more n r.0 r.1) ∙ e in
      r.1 ∙ q

  stored_more : (more : List Nogood) → (n : ℕ) → n ∈ s.kept → (ng : Nogood) × (slice_get (s.nogoods ++ more) n ≡ Some ng)
  stored_more more n i = let r = stored n i in (r.0, get_left s.nogoods more n r.0 r.1)

  -- where nothing is unit, none is left of a nogood
  none_left : NoneUnit s.stack s.nogoods → (n : ℕ) (ng : Nogood) → slice_get s.nogoods n ≡ Some ng → (left : Lit) → ¬ IsLeft s.stack ng left
  none_left quiet n ng at left is = let r = left_unit s.stack ng left is in quiet ng (get_in s.nogoods n ng at) r.0 r.1 r.2

  -- where levels are taken away as far as the nogood stays unit, it is apart
  far_apart : (level n : ℕ) → s.phase ≡ MustJump n → IsFar s level → (ng : Nogood) → slice_get s.nogoods n ≡ Some ng → IsApart ng (back_to level s.stack)
  far_apart level n e far ng at = apart_from ng (back_to level s.stack) (λ l low left is.
      let less = under l (level_of (back_to level s.stack)) level low (level_back level s.stack) in
      let here : IsLeft (back_to l s.stack) ng left = subst (λ z. IsLeft z ng left) (back_back l level s.stack less) is in
      far n e l less (ng, at, left_unit (back_to l s.stack) ng left here))
    where
      under : (l m k : ℕ) → l < m → m ≤ k → l < k
      under l m k p q = omega (p, q, arith)

  kept_keep : (listed : List (List A)) (e : Event A K) → Allowed core listed s e → ((level : ℕ) → e ≡ Back level → IsFar s level) → Keeps e
  kept_keep listed (NameTerm node) ok far = (h, stored)
  kept_keep listed (NameAtom a) ok far = (h, stored)
  kept_keep listed NameBody ok far = (h, stored)
  kept_keep listed (Number x a number) ok far = (h, stored)
  kept_keep listed (Make k) ok far = ((λ n i ng at other. h n i ng (same_there (nogoods_of k) n i ng at) other), stored_more (nogoods_of k))
  kept_keep listed (Put a v n) ok far = ((λ m i ng at other. ((λ one left is. cc), h m i ng at other)), stored)
  kept_keep listed (Choose b up) ok far = ((λ n i ng at other. ((λ one left is. none_left ok.2 n ng at left is), h n i ng at other)), stored)
  kept_keep listed (Close x) ok far = ((λ n i ng at other. ((λ one left is. none_left ok.2 n ng at left is), h n i ng at other)), stored)
  kept_keep listed (Strike m) ok far = ((λ n i ng at other. h n i ng at (strike_not_jump m n ok.0)), stored)
  kept_keep listed (Keep m) ok far = (
    (λ n i ng at other. elim i [
      | inl e ↦ absurd (other (ap (λ z. MustJump z) (sym e)))
      | inr j ↦ h n j ng at (not_jump s.phase (MustLearn m) ok.0 n (λ q. cc))
    ]),
    (λ n i. elim i [ inl e ↦ (ok.2.2.0, subst (λ z. slice_get s.nogoods z ≡ Some ok.2.2.0) (sym e) ok.2.2.1) | inr j ↦ stored n j ]),
  )
  kept_keep listed (Learn how ls) ok far = ((λ n i ng at other. h n i ng (same_there (nogood None ls ∷ []) n i ng at) (learned_not_jump listed how ls n ok)), stored_more (nogood None ls ∷ []))
  kept_keep listed (Justify patterns ls) ok far = (
    (λ n i ng at other. apart_first ng ls (length s.nogoods) s.stack (h n i ng (same_there (nogood None ls ∷ []) n i ng at) (wanted_not_jump ok.0.id n ok.0.wanted))),
    stored_more (nogood None ls ∷ []),
  )
  kept_keep listed (CallWide x) ok far = ((λ n i ng at other. h n i ng at (wanted_not_jump x n ok.0)), stored)
  kept_keep listed (Back level) ok far = ((λ n i ng at other. by_id n i ng at (nat_eq n ok.1.0) refl), stored)
    where
      by_id : (n : ℕ) → n ∈ s.kept → (ng : Nogood) → slice_get s.nogoods n ≡ Some ng → (b : Bool) → nat_eq n ok.1.0 ≡ b → IsApart ng (back_to level s.stack)
      by_id n i ng at true q = (let same = nat_eq-true n ok.1.0 q in far_apart level n (ok.1.1 ∙ ap (λ z. MustJump z) (sym same)) (far level refl) ng at)
      by_id n i ng at false q = apart_back ng level s.stack (h n i ng at (λ e. let w : MustJump ok.1.0 ≡ MustJump n = sym ok.1.1 ∙ e in let f : ok.1.0 ≡ n = cc in
          let t : nat_eq n n ≡ false = subst (λ z. nat_eq n z ≡ false) f q in let u = nat_eq-same n in cc))
  kept_keep listed (Show ids) ok far = ((λ n i ng at other. h n i ng at (not_jump s.phase Free ok.0 n (λ q. cc))), stored)
  kept_keep listed (Pass ids) ok far = ((λ n i ng at other. h n i ng at (not_jump s.phase Free ok.0 n (λ q. cc))), stored)

far_before : {N A K : Type 0} (core : Rules N A K) (e : Event A K) (journal : List (Event A K)) → EachBackIsFar core (e ∷ journal) → EachBackIsFar core journal
far_before core (NameTerm node) journal h = h
far_before core (NameAtom a) journal h = h
far_before core NameBody journal h = h
far_before core (Number x a number) journal h = h
far_before core (Make k) journal h = h
far_before core (Put a v n) journal h = h
far_before core (Choose b up) journal h = h
far_before core (Close x) journal h = h
far_before core (Strike n) journal h = h
far_before core (Keep n) journal h = h
far_before core (Learn how ls) journal h = h
far_before core (Justify patterns ls) journal h = h
far_before core (CallWide x) journal h = h
far_before core (Show ids) journal h = h
far_before core (Pass ids) journal h = h
far_before core (Back level) journal h = h.1

legal_kept : {N A K : Type 0} (core : Rules N A K) (listed : List (List A)) (journal : List (Event A K)) → Legal core listed journal → EachBackIsFar core journal
    → KeptApart (replay core journal) × KeptStored (replay core journal)
legal_kept core listed [] legal far = ((λ n i. absurd i), (λ n i. absurd i))
legal_kept core listed (e ∷ journal) legal far =
    let r = legal_kept core listed journal legal.0 (far_before core e journal far) in
    kept_keep core (replay core journal) r.0 r.1 listed e legal.1 (λ level same. let f = subst (λ z. EachBackIsFar core (z ∷ journal)) same far in f.0)

-- law: what can be kept wasn't kept before, where each Back goes as far as it can
pub kept_is_new : {N A K : Type 0} → KeptIsNew N A K
kept_is_new core listed journal legal far n ng phase at struck high i =
    let s = replay core journal in
    let r = legal_kept core listed journal legal far in
    let left = highest_left core s s.stack (legal_safe core listed journal legal).valid.good ng struck high in
    apart_at ng left.0 s.stack left.1 (r.0 n i ng at (λ q. let w = sym phase ∙ q in cc)) high.left left.2
