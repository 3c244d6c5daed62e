-- What the loop over a nogood's literals has seen.
use Rattle.std.proofs.Common.{◌≡◌, ℕ, ◌+◌, ◌<◌, ◌≤◌, ◌⊎◌, Bool, true, false, not, ◌&&◌, cond, List, [], ◌∷◌, ◌++◌, length, take, get_or, refl, sym, ◌∙◌, ap, subst, inl, inr, arith}
use Rattle.std.specs.Prelude.{Option, Some, None, nat_eq, slice_get}
use Rattle.std.specs.Option.{option_map, option_and_then}
use Rattle.std.proofs.lemmas.List.{take_more}
use Rattle.std.proofs.Math.Seq.{take-length}
use Rattle.lists.specs.Lists.{◌∈◌}
use Rattle.lists.proofs.ListLemmas.{∈-append_left, ∈-append_right, ∈-append_cases}
use Rattle.search_values.specs.declared.entry.Entry.{Entry}
use Rattle.search_values.specs.Values.{Value, True, MustBe, False, Lit, lit, is_up, full_value, value_of, Holds, HoldsFully}
use Rattle.search_values.specs.Nogoods.{IsStruck, IsLeft, Rises, Gives}
use Rattle.search_values.proofs.Basics.{in_single, nat_eq-true, nat_eq-same, get_in}
use Rattle.nogood_store.specs.Stored.{IsHeadOf, atom_of, head_atom}
use Rattle.nogood_store.specs.Visits.{SaysIs, value_holds, is_must_be_value, is_head_atom, answer_unassigned, answer_of}
use Rattle.nogood_store.specs.declared.looking.Says.TheVariants.{Nothing, Follows}
use Rattle.nogood_store.proofs.Going.{here-in, ∈-take}

-- none of these literals fails, or one does
pub record SoFar (stack : List Entry) (seen : List Lit) (missing : Bool) (left : Lit) (fully : Bool) : Type 0 where
  pub count : ((missing ≡ false) × ((l : Lit) → l ∈ seen → Holds stack l))
      ⊎ ((missing ≡ true) × (left ∈ seen) × (Holds stack left → ⊥) × ((l : Lit) → l ∈ seen → (l ≡ left) ⊎ Holds stack l))
  pub full : fully ≡ true → (l : Lit) → l ∈ seen → Holds stack l → HoldsFully stack l
  pub not_full : fully ≡ false → (l : Lit) × (l ∈ seen) × Holds stack l × (HoldsFully stack l → ⊥)

module _ (stack : List Entry) (seen : List Lit) (l : Lit) where
  -- one more literal that holds fully
  pub more_holds : (missing : Bool) (left : Lit) (fully : Bool) → SoFar stack seen missing left fully → Holds stack l → HoldsFully stack l → SoFar stack (seen ++ l ∷ []) missing left fully
  more_holds missing left fully s h f = record {
    count = elim s.count [
      | inl z ↦ inl (z.0, (λ k i. elim (∈-append_cases k seen (l ∷ []) i) [ inl j ↦ z.1 k j | inr j ↦ subst (λ (x : Lit). Holds stack x) (sym (in_single j)) h ]))
      | inr o ↦ inr (o.0, ∈-append_left left seen (l ∷ []) o.1, o.2, (λ k i. elim (∈-append_cases k seen (l ∷ []) i) [ inl j ↦ o.3 k j | inr j ↦ inr (subst (λ (x : Lit). Holds stack x) (sym (in_single j)) h) ]))
    ];
    full = λ e k i g. elim (∈-append_cases k seen (l ∷ []) i) [ inl j ↦ s.full e k j g | inr j ↦ subst (λ (x : Lit). HoldsFully stack x) (sym (in_single j)) f ];
    not_full = λ e. let w = s.not_full e in (w.0, ∈-append_left w.0 seen (l ∷ []) w.1, w.2, w.3);
  }

  -- one more literal that holds by a must-be-true
  pub more_must_be : (missing : Bool) (left : Lit) (fully : Bool) → SoFar stack seen missing left fully → Holds stack l → (HoldsFully stack l → ⊥) → SoFar stack (seen ++ l ∷ []) missing left false
  more_must_be missing left fully s h f = record {
    count = elim s.count [
      | inl z ↦ inl (z.0, (λ k i. elim (∈-append_cases k seen (l ∷ []) i) [ inl j ↦ z.1 k j | inr j ↦ subst (λ (x : Lit). Holds stack x) (sym (in_single j)) h ]))
      | inr o ↦ inr (o.0, ∈-append_left left seen (l ∷ []) o.1, o.2, (λ k i. elim (∈-append_cases k seen (l ∷ []) i) [ inl j ↦ o.3 k j | inr j ↦ inr (subst (λ (x : Lit). Holds stack x) (sym (in_single j)) h) ]))
    ];
    full = λ e. cc;
    not_full = λ e. (l, ∈-append_right l seen (l ∷ []) (inl refl), h, f);
  }

  -- one more literal that fails, where each that failed before is the same one
  pub more_missing : (missing : Bool) (left : Lit) (fully : Bool) → SoFar stack seen missing left fully → (Holds stack l → ⊥) → (missing ≡ true → left ≡ l) → SoFar stack (seen ++ l ∷ []) true l fully
  more_missing missing left fully s h n = record {
    count = elim s.count [
      | inl z ↦ inr (refl, ∈-append_right l seen (l ∷ []) (inl refl), h, (λ k i. elim (∈-append_cases k seen (l ∷ []) i) [ inl j ↦ inr (z.1 k j) | inr j ↦ inl (in_single j) ]))
      | inr o ↦ inr (refl, ∈-append_right l seen (l ∷ []) (inl refl), h, (λ k i. elim (∈-append_cases k seen (l ∷ []) i) [ inl j ↦ elim (o.3 k j) [ inl e ↦ inl (e ∙ n o.0) | inr w ↦ inr w ] | inr j ↦ inl (in_single j) ]))
    ];
    full = λ e k i g. elim (∈-append_cases k seen (l ∷ []) i) [ inl j ↦ s.full e k j g | inr j ↦ absurd (h (subst (λ (x : Lit). Holds stack x) (in_single j) g)) ];
    not_full = λ e. let w = s.not_full e in (w.0, ∈-append_left w.0 seen (l ∷ []) w.1, w.2, w.3);
  }

-- two different literals that fail: the nogood says nothing
pub two_missing : (stack : List Entry) (ls : List Lit) (head : Option ℕ) (a b : Lit) → a ∈ ls → b ∈ ls → (a ≡ b → ⊥) → (Holds stack a → ⊥) → (Holds stack b → ⊥)
    → SaysIs stack (record { lits = ls; head = head }) Nothing
two_missing stack ls head a b i j differ ha hb = (
  (λ s. ha (s a i)),
  (λ c v g. gives c v g),
)
  where
    left : (x : Lit) → ((l : Lit) → l ∈ ls → (l ≡ x) ⊎ Holds stack l) → ⊥
    left x others = elim (others a i) [
      | inl e ↦ elim (others b j) [ inl f ↦ differ (e ∙ sym f) | inr h ↦ hb h ]
      | inr h ↦ ha h
    ]

    up_full : (b : Bool) → is_up (full_value b) ≡ b
    up_full true = refl
    up_full false = refl

    gives : (c : ℕ) (v : Value) → Gives stack (record { lits = ls; head = head }) c v → ⊥
    gives c True r = left (lit c false) (λ l m. elim (r.others l m) [ inl e ↦ inl e | inr h ↦ inr (full_value l.positive, h, up_full l.positive) ])
    gives c MustBe r = left (lit c false) r.0.others
    gives c False r = left (lit c true) r.others

-- ---- a literal by the value of its atom

-- a literal that holds by the test holds
pub holds_true : (stack : List Entry) (l : Lit) (v : Option Value) → value_of stack l.atom ≡ v → value_holds v l.positive ≡ true → Holds stack l
holds_true stack l None e h = cc
holds_true stack l (Some True) e h = (True, e, sym h)
holds_true stack l (Some MustBe) e h = (MustBe, e, sym h)
holds_true stack l (Some False) e h = (False, e, go l.positive h)
  where
    go : (b : Bool) → not b ≡ true → false ≡ b
    go true k = k
    go false k = refl

-- a literal that fails by the test fails
pub holds_false : (stack : List Entry) (l : Lit) (v : Option Value) → value_of stack l.atom ≡ v → value_holds v l.positive ≡ false → Holds stack l → ⊥
holds_false stack l v e h k = go k.0 (sym e ∙ k.1) k.2
  where
    go : (w : Value) → v ≡ Some w → is_up w ≡ l.positive → ⊥
    go True q u = let z : value_holds (Some True) l.positive ≡ false = subst (λ y. value_holds y l.positive ≡ false) q h in cc
    go MustBe q u = let z : value_holds (Some MustBe) l.positive ≡ false = subst (λ y. value_holds y l.positive ≡ false) q h in cc
    go False q u = let z : value_holds (Some False) l.positive ≡ false = subst (λ y. value_holds y l.positive ≡ false) q h in let t : not false ≡ false = ap not u ∙ z in cc

-- a literal that holds with a value other than must-be-true holds fully
pub holds_fully : (stack : List Entry) (l : Lit) (v : Option Value) → value_of stack l.atom ≡ v → value_holds v l.positive ≡ true → is_must_be_value v ≡ false → HoldsFully stack l
holds_fully stack l None e h m = cc
holds_fully stack l (Some True) e h m = e ∙ ap (λ (b : Bool). Some (full_value b)) (sym h)
holds_fully stack l (Some MustBe) e h m = cc
holds_fully stack l (Some False) e h m = go l.positive h
  where
    go : (b : Bool) → not b ≡ true → value_of stack l.atom ≡ Some (full_value b)
    go true k = cc
    go false k = e

-- a literal whose atom is must-be-true doesn't hold fully
pub holds_must_be : (stack : List Entry) (l : Lit) (v : Option Value) → value_of stack l.atom ≡ v → is_must_be_value v ≡ true → HoldsFully stack l → ⊥
holds_must_be stack l None e m f = cc
holds_must_be stack l (Some True) e m f = cc
holds_must_be stack l (Some MustBe) e m f = go l.positive f
  where
    go : (b : Bool) → value_of stack l.atom ≡ Some (full_value b) → ⊥
    go true k = cc
    go false k = cc
holds_must_be stack l (Some False) e m f = cc

-- ---- what the end of the loop says

-- a literal that holds fully holds
fully_holds : (stack : List Entry) (l : Lit) → HoldsFully stack l → Holds stack l
fully_holds stack l h = (full_value l.positive, h, go l.positive)
  where
    go : (b : Bool) → is_up (full_value b) ≡ b
    go true = refl
    go false = refl

-- a literal is made of its atom and its sign
lit_of : (l : Lit) (b : Bool) → l.positive ≡ b → l ≡ lit l.atom b
lit_of l b e = λ i. record { atom = l.atom; positive = e i }

module _ (stack : List Entry) (ls : List Lit) (head : Option ℕ) (heads : (a : ℕ) → head ≡ Some a → lit a false ∈ ls) (left : Lit) (among : left ∈ ls) (fails : Holds stack left → ⊥)
    (others : (l : Lit) → l ∈ ls → (l ≡ left) ⊎ Holds stack l) (fully : Bool)
    (full : fully ≡ true → (l : Lit) → l ∈ ls → Holds stack l → HoldsFully stack l)
    (not_full : fully ≡ false → (l : Lit) × (l ∈ ls) × Holds stack l × (HoldsFully stack l → ⊥)) where
  -- only the literal that fails can be the one that is left
  only : (x : Lit) → ((l : Lit) → l ∈ ls → (l ≡ x) ⊎ Holds stack l) → left ≡ x
  only x h = elim (h left among) [ inl e ↦ e | inr k ↦ absurd (fails k) ]

  -- a head that rises is that literal, and the others hold fully
  rises_at : (c : ℕ) → Rises stack (record { lits = ls; head = head }) c → (left ≡ lit c false) × (fully ≡ true) × (head ≡ Some c)
  rises_at c r = (only (lit c false) (λ l i. elim (r.others l i) [ inl e ↦ inl e | inr h ↦ inr (fully_holds stack l h) ]), go fully refl, r.heads)
    where
      go : (b : Bool) → fully ≡ b → b ≡ true
      go true e = refl
      go false e = let w = not_full e in elim (r.others w.0 w.1) [
        | inl q ↦ (let f = only (lit c false) (λ l i. elim (r.others l i) [ inl e2 ↦ inl e2 | inr h ↦ inr (fully_holds stack l h) ]) in absurd (fails (subst (λ (z : Lit). Holds stack z) (q ∙ sym f) w.2)))
        | inr h ↦ absurd (w.3 h)
      ]

  -- the nogood says nothing where the literal's atom has a value and no head rises
  idle_if : (value_of stack left.atom ≡ None → ⊥) → ((c : ℕ) → Rises stack (record { lits = ls; head = head }) c → ⊥) → SaysIs stack (record { lits = ls; head = head }) Nothing
  idle_if valued none = ((λ s. fails (s left among)), gives)
    where
      free : (x : Lit) → IsLeft stack (record { lits = ls; head = head }) x → ⊥
      free x r = valued (subst (λ (z : Lit). value_of stack z.atom ≡ None) (sym (only x r.others)) r.unassigned)

      gives : (a : ℕ) (v : Value) → Gives stack (record { lits = ls; head = head }) a v → ⊥
      gives a True r = none a r
      gives a MustBe r = free (lit a false) r.0
      gives a False r = free (lit a true) r

  -- the literal that fails is the head and rises
  rise : head ≡ Some left.atom → fully ≡ true → left.positive ≡ false → ((value_of stack left.atom ≡ None) ⊎ (value_of stack left.atom ≡ Some MustBe)) → Rises stack (record { lits = ls; head = head }) left.atom
  rise h f u n = record {
    heads = h;
    among = heads left.atom h;
    not_yet = n;
    others = λ l i. elim (others l i) [ inl e ↦ inl (e ∙ lit_of left false u) | inr k ↦ inr (full f l i k) ];
  }

  -- the literal that fails is the one that is left
  left_is : (b : Bool) → left.positive ≡ b → value_of stack left.atom ≡ None → IsLeft stack (record { lits = ls; head = head }) (lit left.atom b)
  left_is b u n = record {
    among = subst (λ (z : Lit). z ∈ ls) (lit_of left b u) among;
    unassigned = n;
    others = λ l i. elim (others l i) [ inl e ↦ inl (e ∙ lit_of left b u) | inr k ↦ inr k ];
  }

  -- the literal fails, so at must-be-true it is negative
  must_be_down : value_of stack left.atom ≡ Some MustBe → (b : Bool) → left.positive ≡ b → b ≡ false
  must_be_down e true u = absurd (fails (MustBe, e, sym u))
  must_be_down e false u = refl

  -- no head rises where the literal isn't the head, or the others don't hold fully
  not_rising : (same : Bool) → (same ≡ true → head ≡ Some left.atom) → (same ≡ false → head ≡ Some left.atom → ⊥) → (f : Bool) → fully ≡ f → (same ≡ true → f ≡ true → ⊥) → (c : ℕ)
      → Rises stack (record { lits = ls; head = head }) c → ⊥
  not_rising true holds fails_not f e n c r = let w = rises_at c r in n refl (sym e ∙ w.1)
  not_rising false holds fails_not f e n c r = let w = rises_at c r in let a : left.atom ≡ c = ap (λ (z : Lit). z.atom) w.0 in fails_not refl (w.2 ∙ ap (λ z. Some z) (sym a))

  -- the answer is what the nogood says
  pub answer_is : (v : Option Value) → value_of stack left.atom ≡ v → (same : Bool) → (same ≡ true → head ≡ Some left.atom) → (same ≡ false → head ≡ Some left.atom → ⊥)
      → SaysIs stack (record { lits = ls; head = head }) (answer_of left v fully same)
  answer_is None e same is is_not = by_sign left.positive refl fully refl same is is_not
    where
      by_sign : (b : Bool) → left.positive ≡ b → (f : Bool) → fully ≡ f → (same : Bool) → (same ≡ true → head ≡ Some left.atom) → (same ≡ false → head ≡ Some left.atom → ⊥)
          → SaysIs stack (record { lits = ls; head = head }) (answer_unassigned left.atom b (f && same))
      by_sign true u f g same is is_not = left_is true u e
      by_sign false u true g true is is_not = rise (is refl) g u (inl e)
      by_sign false u true g false is is_not = (left_is false u e, not_rising false is is_not true g (λ a b. cc) left.atom)
      by_sign false u false g same is is_not = (left_is false u e, not_rising same is is_not false g (λ a b. cc) left.atom)
  answer_is (Some MustBe) e same is is_not = by_full fully refl same is is_not
    where
      by_full : (f : Bool) → fully ≡ f → (same : Bool) → (same ≡ true → head ≡ Some left.atom) → (same ≡ false → head ≡ Some left.atom → ⊥)
          → SaysIs stack (record { lits = ls; head = head }) (cond (f && same) (Follows left.atom True) Nothing)
      by_full true g true is is_not = rise (is refl) g (must_be_down e left.positive refl) (inr e)
      by_full true g false is is_not = idle_if (λ n. cc) (not_rising false is is_not true g (λ a b. cc))
      by_full false g same is is_not = idle_if (λ n. cc) (not_rising same is is_not false g (λ a b. cc))
  answer_is (Some True) e same is is_not = idle_if (λ n. cc) (λ c r. let w = rises_at c r in settled c w.0 r.not_yet)
    where
      settled : (c : ℕ) → left ≡ lit c false → (value_of stack c ≡ None) ⊎ (value_of stack c ≡ Some MustBe) → ⊥
      settled c q n = let a : value_of stack c ≡ Some True = subst (λ (z : Lit). value_of stack z.atom ≡ Some True) q e in elim n [ inl k ↦ cc | inr k ↦ cc ]
  answer_is (Some False) e same is is_not = idle_if (λ n. cc) (λ c r. let w = rises_at c r in settled c w.0 r.not_yet)
    where
      settled : (c : ℕ) → left ≡ lit c false → (value_of stack c ≡ None) ⊎ (value_of stack c ≡ Some MustBe) → ⊥
      settled c q n = let a : value_of stack c ≡ Some False = subst (λ (z : Lit). value_of stack z.atom ≡ Some False) q e in elim n [ inl k ↦ cc | inr k ↦ cc ]

-- ---- steps of the loop

-- before the first literal
pub SoFar-start : (stack : List Entry) (left : Lit) → SoFar stack [] false left true
SoFar-start stack left = record { count = inl (refl, (λ l i. absurd i)); full = λ e l i. absurd i; not_full = λ e. cc }

-- the head is this atom where the test says so
pub is_head_atom-true : (head : Option ℕ) (a : ℕ) → is_head_atom head a ≡ true → head ≡ Some a
is_head_atom-true None a e = cc
is_head_atom-true (Some h) a e = ap (λ z. Some z) (nat_eq-true h a e)

-- and else it isn't
pub is_head_atom-false : (head : Option ℕ) (a : ℕ) → is_head_atom head a ≡ false → head ≡ Some a → ⊥
is_head_atom-false None a e f = cc
is_head_atom-false (Some h) a e f = let g : h ≡ a = cc in let t : nat_eq h a ≡ true = subst (λ z. nat_eq h z ≡ true) g (nat_eq-same h) in cc

-- the negative literal of the head is among the literals
pub head_among : (ls : List Lit) (head : Option ℕ) → IsHeadOf ls head → (a : ℕ) → option_map atom_of (option_and_then (slice_get ls) head) ≡ Some a → lit a false ∈ ls
head_among ls None is a e = cc
head_among ls (Some place) is a e =
    let r : option_map atom_of (Some (lit is.0 false)) ≡ Some a = subst (λ o. option_map atom_of o ≡ Some a) is.1 e in
    let same : is.0 ≡ a = cc in
    subst (λ z. lit z false ∈ ls) same (get_in ls place (lit is.0 false) is.1)

-- at the end of the loop
module _ (stack : List Entry) (ls : List Lit) (head : Option ℕ) (heads : IsHeadOf ls head)
    (missing : Bool) (left : Lit) (fully : Bool) (i : ℕ) (so_far : SoFar stack (take i ls) missing left fully) (i_low : i ≤ length ls) (i_high : length ls ≤ i) where
  -- all were seen
  whole : take i ls ≡ ls
  whole = let e : i ≡ length ls = omega arith in subst (λ n. take n ls ≡ ls) (sym e) (take-length ls)

  -- so what was seen is said of all
  all : SoFar stack ls missing left fully
  all = subst (λ xs. SoFar stack xs missing left fully) whole so_far

  -- none failed
  pub end_struck : missing ≡ false → IsStruck stack (record { lits = ls; head = head_atom ls head })
  end_struck z = elim all.count [ inl w ↦ w.1 | inr w ↦ absurd (let k = w.0 in cc) ]

  -- the one that failed is among the literals
  pub end_left : missing ≡ true → left ∈ ls
  end_left n = elim all.count [ inl w ↦ absurd (let k = w.0 in cc) | inr w ↦ w.1 ]

  -- the answer is what the nogood says
  pub end_answer : missing ≡ true → (v : Option Value) → v ≡ value_of stack left.atom
      → SaysIs stack (record { lits = ls; head = head_atom ls head }) (answer_of left v fully (is_head_atom (option_map atom_of (option_and_then (slice_get ls) head)) left.atom))
  end_answer n v value = elim all.count [
    | inl w ↦ absurd (let k = w.0 in cc)
    | inr w ↦ answer_is stack ls (option_map atom_of (option_and_then (slice_get ls) head)) (head_among ls head heads) left w.1 w.2 w.3 fully all.full all.not_full v (sym value)
        (is_head_atom (option_map atom_of (option_and_then (slice_get ls) head)) left.atom) (is_head_atom-true _ left.atom) (is_head_atom-false _ left.atom)
  ]

-- in the loop
module _ (stack : List Entry) (ls : List Lit) (missing : Bool) (left : Lit) (fully : Bool) (i : ℕ) (so_far : SoFar stack (take i ls) missing left fully) (i_in : i < length ls) (l : Lit)
    (here : l ≡ get_or ls i l) (v : Option Value) (value : v ≡ value_of stack l.atom) where
  -- the literal that is looked at is one of them
  pub step_in : l ∈ ls
  step_in = here-in ls i l i_in here

  -- what is said with one more is said of the longer front
  next : (m : Bool) (k : Lit) (f : Bool) → SoFar stack (take i ls ++ l ∷ []) m k f → SoFar stack (take (i + 1) ls) m k f
  next m k f = subst (λ xs. SoFar stack xs m k f) (sym (take_more ls i l i_in ∙ ap (λ (z : Lit). take i ls ++ z ∷ []) (sym here)))

  -- the literal holds fully
  pub step_holds : value_holds v l.positive ≡ true → is_must_be_value v ≡ false → SoFar stack (take (i + 1) ls) missing left fully
  step_holds h m = next missing left fully (more_holds stack (take i ls) l missing left fully so_far (holds_true stack l v (sym value) h) (holds_fully stack l v (sym value) h m))

  -- the literal holds by a must-be-true
  pub step_must_be : value_holds v l.positive ≡ true → is_must_be_value v ≡ true → SoFar stack (take (i + 1) ls) missing left false
  step_must_be h m = next missing left false (more_must_be stack (take i ls) l missing left fully so_far (holds_true stack l v (sym value) h) (holds_must_be stack l v (sym value) m))

  -- the literal fails, and no other did
  pub step_missing : value_holds v l.positive ≡ false → (missing ≡ true → left ≡ l) → SoFar stack (take (i + 1) ls) true l fully
  step_missing h n = next true l fully (more_missing stack (take i ls) l missing left fully so_far (holds_false stack l v (sym value) h) n)

  -- the literal fails, and another did
  pub step_idle : (head : Option ℕ) → (left ≡ l → ⊥) → value_holds v l.positive ≡ false → missing ≡ true → SaysIs stack (record { lits = ls; head = head_atom ls head }) Nothing
  step_idle head differ h one = elim so_far.count [
    | inl w ↦ absurd (let k = w.0 in cc)
    | inr w ↦ two_missing stack ls _ left l (∈-take i ls left w.1) step_in differ w.2 (holds_false stack l v (sym value) h)
  ]
