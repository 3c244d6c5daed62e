-- A closed entry that gets its reason keeps all else: values, levels, the literals chosen, and what is known of the stack.
use Rattle.std.proofs.Common.{◌≡◌, ℕ, ◌+◌, Bool, true, false, cond, List, [], ◌∷◌, refl, sym, ◌∙◌, ap, subst, inl, inr, length}
use Rattle.std.specs.Prelude.{Option, Some, None, nat_eq}
use Rattle.lists.specs.Lists.{◌∈◌}
use Rattle.search_values.specs.declared.entry.Why.{Why}
use Rattle.search_values.specs.declared.entry.Why.TheVariants.{Given, Chosen, Closed}
use Rattle.search_values.specs.declared.entry.Entry.{Entry}
use Rattle.search_values.specs.Values.{Value, True, MustBe, Lit, is_up, lit, value_of, Holds, opened, level_of, chosen_with, chosen, HasClosed, is_closed, any_closed, before_closed, with_reason, explained, explain}
use Rattle.search_values.specs.Instances.{Rules}
use Rattle.journal_theory.specs.States.{State, Agrees}
use Rattle.journal_theory.specs.Events.{explain_first}
use Rattle.journal_theory.specs.Laws.{JustifiedIsReason}
use Rattle.search_values.proofs.Basics.{nat_eq-same, value_cases}
use Rattle.journal_theory.proofs.Stack.{Complete, GoodEntry, Good}

module _ (a n : ℕ) where
  opened_with : (w : Why) → opened (with_reason w n) ≡ opened w
  opened_with (Given m) = refl
  opened_with Chosen = refl
  opened_with (Closed None) = refl
  opened_with (Closed (Some m)) = refl

  opened_cond : (b : Bool) (w : Why) → opened (cond b (with_reason w n) w) ≡ opened w
  opened_cond true w = opened_with w
  opened_cond false w = refl

  -- an entry opens as many levels
  pub opened_explained : (e : Entry) → opened (Entry.why (explained a n e)) ≡ opened e.why
  opened_explained e = opened_cond (nat_eq e.atom a) e.why

  -- values stay
  pub value_explain : (stack : List Entry) (x : ℕ) → value_of (explain a n stack) x ≡ value_of stack x
  value_explain [] x = refl
  value_explain (e ∷ rest) x = ap (λ v. cond (nat_eq e.atom x) (Some e.value) v) (value_explain rest x)

  -- levels stay
  pub level_explain : (stack : List Entry) → level_of (explain a n stack) ≡ level_of stack
  level_explain [] = refl
  level_explain (e ∷ rest) = λ i. level_explain rest i + opened_explained e i

  chosen_with-same : (w : Why) (v : Option Value) (k : Lit) (ls : List Lit) → chosen_with (with_reason w n) v k ls ≡ chosen_with w v k ls
  chosen_with-same (Given m) v k ls = refl
  chosen_with-same Chosen v k ls = refl
  chosen_with-same (Closed None) v k ls = refl
  chosen_with-same (Closed (Some m)) v k ls = refl

  chosen_cond : (b : Bool) (w : Why) (v : Option Value) (k : Lit) (ls : List Lit) → chosen_with (cond b (with_reason w n) w) v k ls ≡ chosen_with w v k ls
  chosen_cond true w v k ls = chosen_with-same w v k ls
  chosen_cond false w v k ls = refl

  -- the literals chosen stay
  pub chosen_explain : (stack : List Entry) → chosen (explain a n stack) ≡ chosen stack
  chosen_explain [] = refl
  chosen_explain (e ∷ rest) =
      (λ i. chosen_with (Entry.why (explained a n e)) (value_explain rest e.atom i) (lit e.atom (is_up e.value)) (chosen_explain rest i))
      ∙ chosen_cond (nat_eq e.atom a) e.why (value_of rest e.atom) (lit e.atom (is_up e.value)) (chosen rest)

  was_closed : (b : Bool) (w : Why) (reason : Option ℕ) → cond b (with_reason w n) w ≡ Closed reason → (r : Option ℕ) × (w ≡ Closed r)
  was_closed b (Closed r) reason h = (r, refl)
  was_closed true (Given m) reason h = cc
  was_closed false (Given m) reason h = cc
  was_closed true Chosen reason h = cc
  was_closed false Chosen reason h = cc

  -- an entry that is closed was so
  pub closed_before : (e : Entry) (reason : Option ℕ) → Entry.why (explained a n e) ≡ Closed reason → (r : Option ℕ) × (e.why ≡ Closed r)
  closed_before e reason h = was_closed (nat_eq e.atom a) e.why reason h

  was_chosen : (b : Bool) (w : Why) → cond b (with_reason w n) w ≡ Chosen → w ≡ Chosen
  was_chosen b Chosen h = refl
  was_chosen true (Given m) h = cc
  was_chosen false (Given m) h = cc
  was_chosen true (Closed None) h = cc
  was_chosen false (Closed None) h = cc
  was_chosen true (Closed (Some m)) h = cc
  was_chosen false (Closed (Some m)) h = cc

  stays_closed : (b : Bool) (w : Why) (reason : Option ℕ) → w ≡ Closed reason → (r : Option ℕ) × (cond b (with_reason w n) w ≡ Closed r)
  stays_closed true (Closed None) reason h = (Some n, refl)
  stays_closed true (Closed (Some m)) reason h = (Some m, refl)
  stays_closed false (Closed r) reason h = (r, refl)
  stays_closed b (Given m) reason h = cc
  stays_closed b Chosen reason h = cc

  -- a closed entry is on the stack as before
  pub has_closed_explain : (stack : List Entry) → HasClosed stack → HasClosed (explain a n stack)
  has_closed_explain [] h = absurd h.1
  has_closed_explain (e ∷ rest) (d, inl same, (reason, w)) =
      let r = stays_closed (nat_eq e.atom a) e.why reason (ap (λ (z : Entry). z.why) (sym same) ∙ w) in (explained a n e, inl refl, (r.0, r.1))
  has_closed_explain (e ∷ rest) (d, inr i, w) = let r = has_closed_explain rest (d, i, w) in (r.0, inr r.1, r.2)

  module _ {N A K : Type 0} (core : Rules N A K) (s : State N A K) where
    complete_explain : (stack : List Entry) → Complete core s stack → Complete core s (explain a n stack)
    complete_explain stack full c o h x t =
        let r = full c o (subst (λ z. Agrees s c z) (chosen_explain stack) h) x t in
        (r.0, r.1, value_explain stack r.0 ∙ r.2)

    -- the stack stays good
    pub good_explain : (stack : List Entry) → Good core s stack → Good core s (explain a n stack)
    good_explain [] g = tt
    good_explain (e ∷ rest) g = (
      record {
        may_push = elim g.0.may_push [ inl m ↦ inl (value_explain rest e.atom ∙ m) | inr m ↦ inr (value_explain rest e.atom ∙ m.0, m.1) ];
        known = g.0.known;
        follows = λ c o h. g.0.follows c o (subst (λ z. Agrees s c z) (chosen_explain (e ∷ rest)) h);
        full = λ reason w. let r = closed_before e reason w in complete_explain rest (g.0.full r.0 r.1);
        decided = λ w. g.0.decided (was_chosen (nat_eq e.atom a) e.why w);
        closed_down = λ reason w. let r = closed_before e reason w in g.0.closed_down r.0 r.1;
      },
      good_explain rest g.1,
    )

-- ---- the stack after a nogood was justified

-- values stay
pub value_first : (ls : List Lit) (n : ℕ) (stack : List Entry) (x : ℕ) → value_of (explain_first ls n stack) x ≡ value_of stack x
value_first [] n stack x = refl
value_first (l ∷ ls) n stack x = value_explain l.atom n stack x

-- levels stay
pub level_first : (ls : List Lit) (n : ℕ) (stack : List Entry) → level_of (explain_first ls n stack) ≡ level_of stack
level_first [] n stack = refl
level_first (l ∷ ls) n stack = level_explain l.atom n stack

-- the literals chosen stay
pub chosen_first : (ls : List Lit) (n : ℕ) (stack : List Entry) → chosen (explain_first ls n stack) ≡ chosen stack
chosen_first [] n stack = refl
chosen_first (l ∷ ls) n stack = chosen_explain l.atom n stack

-- a closed entry is on the stack as before
pub has_closed_first : (ls : List Lit) (n : ℕ) (stack : List Entry) → HasClosed stack → HasClosed (explain_first ls n stack)
has_closed_first [] n stack h = h
has_closed_first (l ∷ ls) n stack h = has_closed_explain l.atom n stack h

-- the stack stays good
pub good_first : {N A K : Type 0} (core : Rules N A K) (s : State N A K) (ls : List Lit) (n : ℕ) (stack : List Entry) → Good core s stack → Good core s (explain_first ls n stack)
good_first core s [] n stack g = g
good_first core s (l ∷ ls) n stack g = good_explain l.atom n core s stack g

-- ---- what held before the first closed entry

-- what holds goes on to hold as the stack grows
pub holds_more : {N A K : Type 0} (core : Rules N A K) (s : State N A K) (e : Entry) (rest : List Entry) → GoodEntry core s e rest → (l : Lit) → Holds rest l → Holds (e ∷ rest) l
holds_more core s e rest g l h = elim (value_cases e rest l.atom) [
  | inl c ↦ elim g.may_push [
    | inl n ↦ (let w : value_of rest l.atom ≡ None = subst (λ z. value_of rest z ≡ None) c.0 n in let k = h.1 in cc)
    | inr m ↦ (let w : value_of rest l.atom ≡ Some MustBe = subst (λ z. value_of rest z ≡ Some MustBe) c.0 m.0 in
        let k : Some h.0 ≡ Some MustBe = sym h.1 ∙ w in let v : h.0 ≡ MustBe = cc in
        let u : true ≡ l.positive = sym (ap is_up v) ∙ h.2 in
        (True, c.1 ∙ ap (λ z. Some z) m.1, u))
  ]
  | inr c ↦ (h.0, c.1 ∙ h.1, h.2)
]

-- what held before the first closed entry holds
pub holds_before : {N A K : Type 0} (core : Rules N A K) (s : State N A K) (stack : List Entry) → Good core s stack → (l : Lit) → Holds (before_closed stack) l → Holds stack l
holds_before core s [] g l h = h
holds_before core s (e ∷ rest) g l h = go (holds_before core s rest g.1 l) (any_closed rest) (is_closed e.why) h
  where
    go : (Holds (before_closed rest) l → Holds rest l) → (b d : Bool) → Holds (cond b (before_closed rest) (cond d rest (e ∷ rest))) l → Holds (e ∷ rest) l
    go below true d k = holds_more core s e rest g.0 l (below k)
    go below false true k = holds_more core s e rest g.0 l k
    go below false false k = k

-- ---- the reason

with_reason_at : (a n : ℕ) (stack : List Entry) (e : Entry) → e ∈ stack → e.atom ≡ a → e.why ≡ Closed None → (d : Entry) × (d ∈ explain a n stack) × (d.atom ≡ a) × (d.why ≡ Closed (Some n))
with_reason_at a n [] e i same w = absurd i
with_reason_at a n (t ∷ rest) e (inl q) same w =
    let at : t.atom ≡ a = ap (λ (z : Entry). z.atom) (sym q) ∙ same in
    let why : t.why ≡ Closed None = ap (λ (z : Entry). z.why) (sym q) ∙ w in
    let is : nat_eq t.atom a ≡ true = subst (λ z. nat_eq t.atom z ≡ true) at (nat_eq-same t.atom) in
    (explained a n t, inl refl, at, ap (λ b. cond b (with_reason t.why n) t.why) is ∙ ap (λ z. with_reason z n) why)
with_reason_at a n (t ∷ rest) e (inr i) same w = let r = with_reason_at a n rest e i same w in (r.0, inr r.1, r.2, r.3)

-- law: what is justified for a closed atom is its reason
pub justified_is_reason : {N A K : Type 0} → JustifiedIsReason N A K
justified_is_reason core s patterns x reasons without = with_reason_at x (length s.nogoods) s.stack without.0 without.1 without.2 without.3
