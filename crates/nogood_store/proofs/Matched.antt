-- What keeps a store and a trail matched.
use Rattle.std.proofs.Common.{◌≡◌, ℕ, suc, zero, ◌+◌, ◌<◌, ◌≤◌, min, ◌⊎◌, Bool, true, false, ◌||◌, cond, List, [], ◌∷◌, ◌++◌, length, take, refl, sym, ◌∙◌, ap, subst, inl, inr, arith}
use Rattle.std.specs.Prelude.{Option, Some, None, nat_eq, nat_le, nat_lt, slice_get, slice_index}
use Rattle.search_values.specs.declared.entry.Why.{Why}
use Rattle.search_values.specs.declared.entry.Why.TheVariants.{Given, Chosen, Closed}
use Rattle.search_values.specs.declared.entry.Entry.{Entry}
use Rattle.search_values.specs.Values.{Value, Lit, lit, is_up, full_value, value_of, Holds, HoldsFully, opened, level_of, entry_on, back_to}
use Rattle.search_values.proofs.Basics.{get_snoc, value_cases}
use Rattle.trail.specs.Assigning.{Trailed, visits_with, taken_to}
use Rattle.nogood_store.specs.declared.watching.Watches.{Watches}
use Rattle.nogood_store.specs.Stored.{Stored}
use Rattle.nogood_store.specs.Watched.{is_at, is_watched}
use Rattle.nogood_store.specs.Matching.{taken_up, Suffices, OtherFails, HeadIsTrue, HeadMustBe, TwoAreMissing, Matches}
use Rattle.nogood_store.specs.Laws.{SameButReason, Here, Deeper, NewMatch, GivenKeeps, OpenedKeeps, JumpedKeeps, ExplainedKeeps, AddedKeeps, ReservedKeeps, ForgottenKeeps, MarkedMatch, IsMet}
use Rattle.nogood_store.proofs.Suffice.{suffices_on, says_nothing, holds_or_not, full_or_not}
use Rattle.nogood_store.proofs.Weighing.{is_at-same}

nat_lt-yes : (a b : ℕ) → a < b → nat_lt a b ≡ true
nat_lt-yes a b h = grind arith

nat_lt-no : (a b : ℕ) → b ≤ a → nat_lt a b ≡ false
nat_lt-no a b h = grind arith

nat_lt-true : (a b : ℕ) → nat_lt a b ≡ true → a < b
nat_lt-true a b h = grind arith

nat_le-yes : (a b : ℕ) → a ≤ b → nat_le a b ≡ true
nat_le-yes a b h = grind arith

nat_le-no : (a b : ℕ) → b < a → nat_le a b ≡ false
nat_le-no a b h = grind arith

min_right : (a b : ℕ) → b ≤ a → min a b ≡ b
min_right a b h = grind arith

min_low : (a b n : ℕ) → n < min a b → n < b
min_low a b n h = grind arith

below_or_not : (a b : ℕ) → (a < b) ⊎ (b ≤ a)
below_or_not a b = grind arith

-- ---- what was taken up

-- all was
pub taken_all : (kept : ℕ) (stack : List Entry) → length stack ≤ kept → taken_up kept stack ≡ stack
taken_all kept [] h = refl
taken_all kept (e ∷ rest) h = ap (λ b. cond b (e ∷ rest) (taken_up kept rest)) (nat_lt-yes (length rest) kept (omega (arith, h)))

-- not the newest
pub taken_below : (kept : ℕ) (e : Entry) (rest : List Entry) → kept ≤ length rest → taken_up kept (e ∷ rest) ≡ taken_up kept rest
taken_below kept e rest h = ap (λ b. cond b (e ∷ rest) (taken_up kept rest)) (nat_lt-no (length rest) kept h)

-- ---- levels

opened_le : (why : Why) → opened why ≤ 1
opened_le (Given n) = omega arith
opened_le Chosen = omega arith
opened_le (Closed reason) = omega arith

back_over : (k : ℕ) (e : Entry) (rest : List Entry) → k < level_of rest + opened e.why → back_to k (e ∷ rest) ≡ back_to k rest
back_over k e rest h = ap (λ b. cond b (e ∷ rest) (back_to k rest)) (nat_le-no (level_of rest + opened e.why) k h)

back_at : (k : ℕ) (e : Entry) (rest : List Entry) → level_of rest + opened e.why ≤ k → back_to k (e ∷ rest) ≡ e ∷ rest
back_at k e rest h = ap (λ b. cond b (e ∷ rest) (back_to k rest)) (nat_le-yes (level_of rest + opened e.why) k h)

pub back_all : (k : ℕ) (stack : List Entry) → level_of stack ≤ k → back_to k stack ≡ stack
back_all k [] h = refl
back_all k (e ∷ rest) h = back_at k e rest h

-- going back to a level leaves that level
back_level : (k : ℕ) (stack : List Entry) → k ≤ level_of stack → level_of (back_to k stack) ≡ k
back_level k [] h = omega (arith, h)
back_level k (e ∷ rest) h = elim (below_or_not k (level_of rest + opened e.why)) [
  | inl above ↦ (ap level_of (back_over k e rest above) ∙ back_level k rest (let o = opened_le e.why in omega (arith, above, o)))
  | inr here ↦ (ap level_of (back_at k e rest here) ∙ omega (arith, h, here))
]

back_back : (k level : ℕ) (stack : List Entry) → k ≤ level → back_to k (back_to level stack) ≡ back_to k stack
back_back k level [] h = refl
back_back k level (e ∷ rest) h = elim (below_or_not level (level_of rest + opened e.why)) [
  | inl above ↦ (ap (back_to k) (back_over level e rest above) ∙ back_back k level rest h ∙ sym (back_over k e rest (omega (arith, above, h))))
  | inr here ↦ ap (back_to k) (back_at level e rest here)
]

-- ---- lists of visits

index_left : (xs : List ℕ) (y n : ℕ) → n < length xs → slice_index (xs ++ y ∷ []) n ≡ slice_index xs n
index_left [] y n h = absurd (omega arith)
index_left (x ∷ xs) y zero h = refl
index_left (x ∷ xs) y (suc n) h = index_left xs y n (omega arith)

index_last : (xs : List ℕ) (y n : ℕ) → n ≡ length xs → slice_index (xs ++ y ∷ []) n ≡ y
index_last xs y n e = subst (λ k. slice_index (xs ++ y ∷ []) k ≡ y) (sym e) (go xs)
  where
    go : (xs : List ℕ) → slice_index (xs ++ y ∷ []) (length xs) ≡ y
    go [] = refl
    go (x ∷ xs) = go xs

index_take : (xs : List ℕ) (level n : ℕ) → n < level → slice_index (take level xs) n ≡ slice_index xs n
index_take xs zero n h = absurd (omega arith)
index_take [] (suc level) n h = refl
index_take (x ∷ xs) (suc level) zero h = refl
index_take (x ∷ xs) (suc level) (suc n) h = index_take xs level n (omega arith)

length_push : (xs : List ℕ) (y : ℕ) → length (xs ++ y ∷ []) ≡ length xs + 1
length_push [] y = refl
length_push (x ∷ xs) y = omega (arith, length_push xs y)

length_front : (xs : List ℕ) (level : ℕ) → level ≤ length xs → length (take level xs) ≡ level
length_front xs zero h = refl
length_front [] (suc level) h = absurd (omega arith)
length_front (x ∷ xs) (suc level) h = ap suc (length_front xs level (omega arith))

-- ---- the laws

pub new_match : NewMatch
new_match = record {
  visited_within = omega arith;
  visits_within = λ k h. absurd (omega (arith, h));
  levels_are = refl;
  lower_taken = λ k h. absurd (omega (arith, h));
  now = λ n s h e. absurd (omega (arith, h));
  below = λ k n s h l e. absurd (omega (arith, h));
}

pub given_keeps : GivenKeeps
given_keeps store t m within a v by may = record {
  visited_within = m.visited_within;
  visits_within = λ k h. m.visits_within k (omega (arith, h));
  levels_are = let l = m.levels_are in omega (arith, l);
  lower_taken = λ k h. let o = m.lower_taken k (omega (arith, h)) in let b = ap length (back_over k e t.stack h) in omega (arith, o, b);
  now = λ n s h g. subst (λ (x : List Entry). Suffices x (e ∷ t.stack) s) (sym (taken_below t.kept e t.stack within)) (suffices_on (taken_up t.kept t.stack) t.stack e s may (m.now n s h g));
  below = λ k n s h l g. subst (λ (x : List Entry). Suffices x x s) (sym (back_over k e t.stack h)) (m.below k n s (omega (arith, h)) l g);
}
  where
    e : Entry
    e = entry_on t.stack a v (Given by)

opened_visits : (why : Why) (n : ℕ) (ns : List ℕ) → opened why ≡ 1 → visits_with why n ns ≡ ns ++ n ∷ []
opened_visits (Given by) n ns e = absurd (omega (arith, e))
opened_visits Chosen n ns e = refl
opened_visits (Closed reason) n ns e = refl

pub opened_keeps : OpenedKeeps
opened_keeps store t m marked a v why opens may = record {
  visited_within = m.visited_within;
  visits_within = λ k h. elim (below_or_not k (level_of t.stack)) [
    | inl low ↦ (let i = index_low k low in let o = m.visits_within k low in omega (arith, i, o))
    | inr high ↦ (let i = index_top k (omega (arith, h, high, opens)) in let o = m.visited_within in omega (arith, i, o))
  ];
  levels_are = let l = m.levels_are in let p = length_push t.visits t.visited in let q = ap length visits in omega (arith, l, p, q, opens);
  lower_taken = λ k h. elim (below_or_not k (level_of t.stack)) [
    | inl low ↦ (let o = m.lower_taken k low in let b = ap length (back_over k e t.stack h) in omega (arith, o, b))
    | inr high ↦ (let b = ap length (back_over k e t.stack h ∙ back_all k t.stack high) in omega (arith, b, marked))
  ];
  now = λ n s h g. subst (λ (x : List Entry). Suffices x (e ∷ t.stack) s) (sym (taken_below t.kept e t.stack (omega (arith, marked)))) (suffices_on (taken_up t.kept t.stack) t.stack e s may (m.now n s h g));
  below = λ k n s h l g. elim (below_or_not k (level_of t.stack)) [
    | inl low ↦ subst (λ (x : List Entry). Suffices x x s) (sym (back_over k e t.stack h)) (m.below k n s low (let i = index_low k low in omega (arith, l, i)) g)
    | inr high ↦ subst (λ (x : List Entry). Suffices x x s) (sym (back_over k e t.stack h ∙ back_all k t.stack high))
        (subst (λ (x : List Entry). Suffices x t.stack s) (taken_all t.kept t.stack (omega (arith, marked))) (m.now n s (let i = index_top k (omega (arith, h, high, opens)) in omega (arith, l, i)) g))
  ];
}
  where
    e : Entry
    e = entry_on t.stack a v why

    visits : visits_with why t.visited t.visits ≡ t.visits ++ t.visited ∷ []
    visits = opened_visits why t.visited t.visits opens

    index_low : (k : ℕ) → k < level_of t.stack → slice_index (visits_with why t.visited t.visits) k ≡ slice_index t.visits k
    index_low k low = ap (λ (ns : List ℕ). slice_index ns k) visits ∙ index_left t.visits t.visited k (let l = m.levels_are in omega (arith, low, l))

    index_top : (k : ℕ) → k ≡ level_of t.stack → slice_index (visits_with why t.visited t.visits) k ≡ t.visited
    index_top k at = ap (λ (ns : List ℕ). slice_index ns k) visits ∙ index_last t.visits t.visited k (let l = m.levels_are in omega (arith, at, l))

taken_match : (store : List Stored) (t : Trailed) → Matches store t → (level : ℕ) → level < level_of t.stack → Matches store (taken_to t level)
taken_match store t m level low = record {
  visited_within = let v = m.visited_within in min_within t.visited (slice_index t.visits level) (length store) v;
  visits_within = λ k h. let i = index_take t.visits level k (omega (arith, h, at)) in let o = m.visits_within k (omega (arith, h, at, low)) in omega (arith, i, o);
  levels_are = let l = m.levels_are in length_front t.visits level (omega (arith, l, low)) ∙ sym at;
  lower_taken = λ k h. let o = m.lower_taken level low in let q = min_right t.kept (length (back_to level t.stack)) o in let b = shorter k (back_to level t.stack) in omega (arith, q, b);
  now = λ n s h g. subst (λ (x : List Entry). Suffices x (back_to level t.stack) s)
      (sym (taken_all (min t.kept (length (back_to level t.stack))) (back_to level t.stack) (let q = min_right t.kept (length (back_to level t.stack)) (m.lower_taken level low) in omega (arith, q))))
      (m.below level n s low (min_low t.visited (slice_index t.visits level) n h) g);
  below = λ k n s h l g. subst (λ (x : List Entry). Suffices x x s) (sym (back_back k level t.stack (omega (arith, h, at))))
      (m.below k n s (omega (arith, h, at, low)) (let i = index_take t.visits level k (omega (arith, h, at)) in omega (arith, l, i)) g);
}
  where
    at : level_of (back_to level t.stack) ≡ level
    at = back_level level t.stack (omega (arith, low))

    min_within : (a b c : ℕ) → a ≤ c → min a b ≤ c
    min_within a b c h = grind arith

    shorter : (k : ℕ) (stack : List Entry) → length (back_to k stack) ≤ length stack
    shorter k [] = omega arith
    shorter k (e ∷ rest) = elim (below_or_not k (level_of rest + opened e.why)) [
      | inl above ↦ (let b = ap length (back_over k e rest above) in let r = shorter k rest in omega (arith, b, r))
      | inr here ↦ (let b = ap length (back_at k e rest here) in omega (arith, b))
    ]

pub jumped_keeps : JumpedKeeps
jumped_keeps store t m within level = go (nat_lt level (level_of t.stack)) refl
  where
    go : (b : Bool) → nat_lt level (level_of t.stack) ≡ b → Matches store (cond b (taken_to t level) t)
    go true e = taken_match store t m level (nat_lt-true level (level_of t.stack) e)
    go false e = m

pub added_keeps : AddedKeeps
added_keeps store t s m = record {
  visited_within = let v = m.visited_within in let p = longer store in omega (arith, v, p);
  visits_within = λ k h. let v = m.visits_within k h in let p = longer store in omega (arith, v, p);
  levels_are = m.levels_are;
  lower_taken = m.lower_taken;
  now = λ n x h g. m.now n x h (older n x g (let v = m.visited_within in omega (arith, h, v)));
  below = λ k n x h l g. m.below k n x h l (older n x g (let v = m.visits_within k h in omega (arith, l, v)));
}
  where
    longer : (xs : List Stored) → length (xs ++ s ∷ []) ≡ length xs + 1
    longer [] = refl
    longer (x ∷ xs) = omega (arith, longer xs)

    older : (n : ℕ) (x : Stored) → slice_get (store ++ s ∷ []) n ≡ Some x → n < length store → slice_get store n ≡ Some x
    older n x g low = elim (get_snoc store s n x g) [ inl k ↦ k | inr k ↦ absurd (let e = k.0 in omega (arith, e, low)) ]

pub there_below : {X : Type 0} (xs : List X) (n : ℕ) (x : X) → slice_get xs n ≡ Some x → n < length xs
there_below [] n x e = cc
there_below (y ∷ ys) zero x e = omega arith
there_below (y ∷ ys) (suc n) x e = omega (arith, there_below ys n x e)

pub reserved_keeps : ReservedKeeps
reserved_keeps store t m atoms = record {
  visited_within = m.visited_within;
  visits_within = m.visits_within;
  levels_are = m.levels_are;
  lower_taken = m.lower_taken;
  now = m.now;
  below = m.below;
}

-- going back leaves no more entries
shorter : (k : ℕ) (stack : List Entry) → length (back_to k stack) ≤ length stack
shorter k [] = omega arith
shorter k (e ∷ rest) = elim (below_or_not k (level_of rest + opened e.why)) [
  | inl above ↦ (let b = ap length (back_over k e rest above) in let r = shorter k rest in omega (arith, b, r))
  | inr here ↦ (let b = ap length (back_at k e rest here) in omega (arith, b))
]

pub forgotten_keeps : ForgottenKeeps
forgotten_keeps store t m = record {
  visited_within = omega arith;
  visits_within = m.visits_within;
  levels_are = m.levels_are;
  lower_taken = λ k h. shorter k t.stack;
  now = λ n s h g. absurd (omega (arith, h));
  below = m.below;
}

pub marked_match : MarkedMatch
marked_match store t m all = record {
  visited_within = omega arith;
  visits_within = m.visits_within;
  levels_are = m.levels_are;
  lower_taken = λ k h. shorter k t.stack;
  now = λ n s h g. subst (λ (x : List Entry). Suffices x t.stack s) (sym (taken_all (length t.stack) t.stack (omega arith))) (all n s g);
  below = m.below;
}

-- ---- another reason of a closed entry

alike_holds : (old new : List Entry) → ((a : ℕ) → value_of old a ≡ value_of new a) → (l : Lit) → Holds new l → Holds old l
alike_holds old new v l h = (h.0, v l.atom ∙ h.1, h.2)

suffices_alike : (taken taken' stack stack' : List Entry) (s : Stored) → ((a : ℕ) → value_of taken a ≡ value_of taken' a) → ((a : ℕ) → value_of stack a ≡ value_of stack' a)
    → Suffices taken stack s → Suffices taken' stack' s
suffices_alike taken taken' stack stack' s v w (OtherFails l i n f) = OtherFails l i n (f.0, sym (w l.atom) ∙ f.1, f.2)
suffices_alike taken taken' stack stack' s v w (HeadIsTrue a h i x) = HeadIsTrue a h i (sym (w a) ∙ x)
suffices_alike taken taken' stack stack' s v w (HeadMustBe a l h i x t j n d) = HeadMustBe a l h i (sym (w a) ∙ x) t j n (λ f. d (v l.atom ∙ f))
suffices_alike taken taken' stack stack' s v w (TwoAreMissing l k f g i j n p q) = TwoAreMissing l k f g i j n (λ h. p (alike_holds taken taken' v l h)) (λ h. q (alike_holds taken taken' v k h))

same_value : (old new : List Entry) → SameButReason old new → (a : ℕ) → value_of old a ≡ value_of new a
same_value _ _ (Here e f rest r o p q at is level) a =
    ap (λ n. cond (nat_eq n a) (Some e.value) (value_of rest a)) (sym at) ∙ ap (λ (x : Value). cond (nat_eq f.atom a) (Some x) (value_of rest a)) (sym is)
same_value _ _ (Deeper e old new same) a = ap (λ (o : Option Value). cond (nat_eq e.atom a) (Some e.value) o) (same_value old new same a)

same_level : (old new : List Entry) → SameButReason old new → level_of old ≡ level_of new
same_level _ _ (Here e f rest r o p q at is level) = ap (λ (w : Why). level_of rest + opened w) p ∙ sym (ap (λ (w : Why). level_of rest + opened w) q)
same_level _ _ (Deeper e old new same) = ap (λ n. n + opened e.why) (same_level old new same)

same_length : (old new : List Entry) → SameButReason old new → length old ≡ length new
same_length _ _ (Here e f rest r o p q at is level) = refl
same_length _ _ (Deeper e old new same) = ap suc (same_length old new same)

-- parts of both that begin at one place
data Parts (old new : List Entry) : Type 0 where
  Equal : old ≡ new → Parts old new
  Alike : SameButReason old new → Parts old new

parts_value : (old new : List Entry) → Parts old new → (a : ℕ) → value_of old a ≡ value_of new a
parts_value old new (Equal e) a = ap (λ (s : List Entry). value_of s a) e
parts_value old new (Alike h) a = same_value old new h a

parts_length : (old new : List Entry) → Parts old new → length old ≡ length new
parts_length old new (Equal e) = ap length e
parts_length old new (Alike h) = same_length old new h

parts_pick : (b : Bool) (x y x' y' : List Entry) → Parts x y → Parts x' y' → Parts (cond b x x') (cond b y y')
parts_pick true x y x' y' p q = p
parts_pick false x y x' y' p q = q

parts_back : (k : ℕ) (old new : List Entry) → SameButReason old new → Parts (back_to k old) (back_to k new)
parts_back k _ _ (Here e f rest r o p q at is level) =
    let same : level_of rest + opened f.why ≡ level_of rest + opened e.why = ap (λ (w : Why). level_of rest + opened w) q ∙ sym (ap (λ (w : Why). level_of rest + opened w) p) in
    subst (λ n. Parts (back_to k (e ∷ rest)) (cond (nat_le n k) (f ∷ rest) (back_to k rest))) (sym same)
    (parts_pick (nat_le (level_of rest + opened e.why) k) (e ∷ rest) (f ∷ rest) (back_to k rest) (back_to k rest) (Alike (Here e f rest r o p q at is level)) (Equal refl))
parts_back k _ _ (Deeper e old new same) =
    subst (λ n. Parts (back_to k (e ∷ old)) (cond (nat_le (n + opened e.why) k) (e ∷ new) (back_to k new))) (same_level old new same)
    (parts_pick (nat_le (level_of old + opened e.why) k) (e ∷ old) (e ∷ new) (back_to k old) (back_to k new) (Alike (Deeper e old new same)) (parts_back k old new same))

parts_taken : (kept : ℕ) (old new : List Entry) → SameButReason old new → Parts (taken_up kept old) (taken_up kept new)
parts_taken kept _ _ (Here e f rest r o p q at is level) =
    parts_pick (nat_lt (length rest) kept) (e ∷ rest) (f ∷ rest) (taken_up kept rest) (taken_up kept rest) (Alike (Here e f rest r o p q at is level)) (Equal refl)
parts_taken kept _ _ (Deeper e old new same) =
    subst (λ n. Parts (taken_up kept (e ∷ old)) (cond (nat_lt n kept) (e ∷ new) (taken_up kept new))) (same_length old new same)
    (parts_pick (nat_lt (length old) kept) (e ∷ old) (e ∷ new) (taken_up kept old) (taken_up kept new) (Alike (Deeper e old new same)) (parts_taken kept old new same))

pub explained_keeps : ExplainedKeeps
explained_keeps store t stack m same = record {
  visited_within = m.visited_within;
  visits_within = λ k h. m.visits_within k (omega (arith, h, level));
  levels_are = m.levels_are ∙ level;
  lower_taken = λ k h. let o = m.lower_taken k (omega (arith, h, level)) in let p = parts_length (back_to k t.stack) (back_to k stack) (parts_back k t.stack stack same) in omega (arith, o, p);
  now = λ n s h g. suffices_alike (taken_up t.kept t.stack) (taken_up t.kept stack) t.stack stack s (parts_value _ _ (parts_taken t.kept t.stack stack same)) (same_value t.stack stack same) (m.now n s h g);
  below = λ k n s h l g. suffices_alike (back_to k t.stack) (back_to k stack) (back_to k t.stack) (back_to k stack) s
      (parts_value _ _ (parts_back k t.stack stack same)) (parts_value _ _ (parts_back k t.stack stack same)) (m.below k n s (omega (arith, h, level)) l g);
}
  where
    level : level_of t.stack ≡ level_of stack
    level = same_level t.stack stack same

-- ---- what is met

-- what is true of the atom's value on the stack and not on what was taken up is so by an entry that isn't
abbrev Fresh : ℕ → List Entry → Lit → Type 0
Fresh kept stack l = (above rest : List Entry) × (e : Entry) × (stack ≡ above ++ e ∷ rest) × (kept ≤ length rest) × (l ≡ lit e.atom (is_up e.value))

alike : {l : Lit} {a : ℕ} {b : Bool} → a ≡ l.atom → b ≡ l.positive → l ≡ lit a b
alike p q = let s = sym p in let t = sym q in λ i. record { atom = s i; positive = t i }

newly : (P : Option Value → Type 0) (l : Lit) → ((v : Value) → P (Some v) → is_up v ≡ l.positive) → (P None → ⊥) → (kept : ℕ) (stack : List Entry) → P (value_of stack l.atom)
    → (P (value_of (taken_up kept stack) l.atom) → ⊥) → Fresh kept stack l
newly P l up none kept [] p n = absurd (none p)
newly P l up none kept (e ∷ rest) p n = elim (below_or_not (length rest) kept) [
  | inl low ↦ absurd (n (subst (λ (s : List Entry). P (value_of s l.atom)) (sym (taken_all kept (e ∷ rest) (omega (arith, low)))) p))
  | inr high ↦ elim (value_cases e rest l.atom) [
    | inl k ↦ (let u = up e.value (subst P k.1 p) in ([], rest, e, refl, high, alike k.0 u))
    | inr k ↦ (let w = newly P l up none kept rest (subst P k.1 p) (λ q. n (subst (λ (s : List Entry). P (value_of s l.atom)) (sym (taken_below kept e rest high)) q)) in
        (e ∷ w.0, w.1, w.2, ap (λ (s : List Entry). e ∷ s) w.3, w.4, w.5))
  ]
]

watched_first : (w : Watches) (l : Lit) → w.first ≡ Some l → is_watched w l ≡ true
watched_first w l e = ap (λ (o : Option Lit). (is_at o l || is_at w.second l) || is_at w.third l) e ∙ ap (λ b. (b || is_at w.second l) || is_at w.third l) (is_at-same l)

or_true : (b : Bool) → (b || true) ≡ true
or_true true = refl
or_true false = refl

watched_second : (w : Watches) (l : Lit) → w.second ≡ Some l → is_watched w l ≡ true
watched_second w l e = ap (λ (o : Option Lit). (is_at w.first l || is_at o l) || is_at w.third l) e ∙ ap (λ b. (is_at w.first l || b) || is_at w.third l) (is_at-same l)
    ∙ ap (λ b. b || is_at w.third l) (or_true (is_at w.first l))

watched_third : (w : Watches) (l : Lit) → w.third ≡ Some l → is_watched w l ≡ true
watched_third w l e = ap (λ (o : Option Lit). (is_at w.first l || is_at w.second l) || is_at o l) e ∙ ap (λ b. (is_at w.first l || is_at w.second l) || b) (is_at-same l) ∙ or_true (is_at w.first l || is_at w.second l)

pub is_met : IsMet
is_met store t m lawful n s low at says = go (m.now n s low at)
  where
    refuse : Suffices t.stack t.stack s → ⊥
    refuse k = let none = says_nothing t.stack s k in elim says [ inl h ↦ none.0 h | inr g ↦ none.1 g.0 g.1 g.2 ]

    full_up : (l : Lit) (v : Value) → Some v ≡ Some (full_value l.positive) → is_up v ≡ l.positive
    full_up l v e = let same : v ≡ full_value l.positive = cc in ap is_up same ∙ up l.positive
      where
        up : (b : Bool) → is_up (full_value b) ≡ b
        up true = refl
        up false = refl

    by_full : (l : Lit) → (HoldsFully (taken_up t.kept t.stack) l → ⊥) → HoldsFully t.stack l → Fresh t.kept t.stack l
    by_full l d f = newly (λ o. o ≡ Some (full_value l.positive)) l (full_up l) (λ e. cc) t.kept t.stack f d

    by_held : (l : Lit) → (Holds (taken_up t.kept t.stack) l → ⊥) → Holds t.stack l → Fresh t.kept t.stack l
    by_held l d h = newly (λ o. (v : Value) × (o ≡ Some v) × (is_up v ≡ l.positive)) l (λ v x. let e = x.1 in let same : v ≡ x.0 = cc in ap is_up same ∙ x.2) (λ x. let e = x.1 in cc) t.kept t.stack h d

    met : (l : Lit) → is_watched s.watches l ≡ true → Fresh t.kept t.stack l
        → (above rest : List Entry) × (e : Entry) × (t.stack ≡ above ++ e ∷ rest) × (t.kept ≤ length rest) × (is_watched s.watches (lit e.atom (is_up e.value)) ≡ true)
    met l w f = (f.0, f.1, f.2, f.3, f.4, subst (λ (z : Lit). is_watched s.watches z ≡ true) f.5 w)

    go : Suffices (taken_up t.kept t.stack) t.stack s
        → (above rest : List Entry) × (e : Entry) × (t.stack ≡ above ++ e ∷ rest) × (t.kept ≤ length rest) × (is_watched s.watches (lit e.atom (is_up e.value)) ≡ true)
    go (OtherFails l i k f) = absurd (refuse (OtherFails l i k f))
    go (HeadIsTrue a h i v) = absurd (refuse (HeadIsTrue a h i v))
    go (HeadMustBe a l h i v w j k d) = elim (full_or_not t.stack l) [
      | inl f ↦ met l (watched_third s.watches l w) (by_full l d f)
      | inr x ↦ absurd (refuse (HeadMustBe a l h i v w j k x))
    ]
    go (TwoAreMissing l k f g i j x p q) = elim (holds_or_not t.stack l) [
      | inl h ↦ met l (watched_first s.watches l f) (by_held l p h)
      | inr y ↦ elim (holds_or_not t.stack k) [
        | inl h ↦ met k (watched_second s.watches k g) (by_held k q h)
        | inr z ↦ absurd (refuse (TwoAreMissing l k f g i j x y z))
      ]
    ]
