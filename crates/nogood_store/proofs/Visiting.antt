-- The store after a visit.
use Rattle.std.proofs.Common.{◌≡◌, ℕ, suc, zero, ◌+◌, ◌<◌, ◌≤◌, ◌⊎◌, Bool, true, false, cond, List, [], ◌∷◌, length, get_or, set, refl, sym, ◌∙◌, ap, subst, inl, inr, arith, length-set}
use Rattle.std.specs.Prelude.{Option, Some, slice_get}
use Rattle.std.proofs.lemmas.Option.{slice_get_read}
use Rattle.alpha_outside.specs.declared.literal.Lit.{Lit}
use Rattle.search_values.specs.declared.entry.Entry.{Entry}
use Rattle.search_values.specs.Values.{Holds, HoldsFully, back_to}
use Rattle.trail.specs.Assigning.{Trailed, IsStackOf}
use Rattle.nogood_store.specs.declared.watching.Watches.{Watches}
use Rattle.nogood_store.specs.declared.looking.Visit.{Visit}
use Rattle.nogood_store.specs.declared.looking.Visit.TheVariants.{Idle, Unit as Forces, Struck}
use Rattle.nogood_store.specs.Stored.{Stored, HasNoAtomTwice, IsHeadOf, head_atom}
use Rattle.nogood_store.specs.Visits.{VisitIs}
use Rattle.nogood_store.specs.Watched.{IsMissing, AreMoved, is_watched, row_of, weigh, weight, AreListed}
use Rattle.nogood_store.specs.Matching.{taken_up, Suffices, OtherFails, HeadIsTrue, HeadMustBe, TwoAreMissing, Matches, Visited}
use Rattle.nogood_store.proofs.Suffice.{holds_on, full_on, suffices_after}
use Rattle.nogood_store.proofs.Storing.{weight_set, weight_one}
use Rattle.nogood_store.proofs.Weighing.{same_or_not}

get_set_same : {X : Type 0} (xs : List X) (i : ℕ) (y : X) → i < length xs → slice_get (set xs i y) i ≡ Some y
get_set_same [] i y h = absurd (omega arith)
get_set_same (x ∷ xs) zero y h = refl
get_set_same (x ∷ xs) (suc i) y h = get_set_same xs i y (omega arith)

get_set_other : {X : Type 0} (xs : List X) (i j : ℕ) (y : X) → (i ≡ j → ⊥) → slice_get (set xs i y) j ≡ slice_get xs j
get_set_other [] i j y h = refl
get_set_other (x ∷ xs) zero zero y h = absurd (h refl)
get_set_other (x ∷ xs) zero (suc j) y h = refl
get_set_other (x ∷ xs) (suc i) zero y h = refl
get_set_other (x ∷ xs) (suc i) (suc j) y h = get_set_other xs i j y (λ e. h (ap suc e))

-- ---- parts of a lawful stack

-- the first part is a lower part of the second: what holds there holds here
pub record IsLower (part stack : List Entry) : Type 0 where
  pub holds : (l : Lit) → Holds part l → Holds stack l
  pub full : (l : Lit) → HoldsFully part l → HoldsFully stack l

lower_itself : (stack : List Entry) → IsLower stack stack
lower_itself stack = record { holds = λ l h. h; full = λ l h. h }

lower_more : (atoms : ℕ) (part : List Entry) (e : Entry) (rest : List Entry) → IsStackOf atoms (e ∷ rest) → IsLower part rest → IsLower part (e ∷ rest)
lower_more atoms part e rest lawful k = record { holds = λ l h. holds_on e rest lawful.0.may l (k.holds l h); full = λ l h. full_on e rest lawful.0.may l (k.full l h) }

lower_pick : (b : Bool) (x y stack : List Entry) → IsLower x stack → IsLower y stack → IsLower (cond b x y) stack
lower_pick true x y stack p q = p
lower_pick false x y stack p q = q

pub lower_taken : (atoms kept : ℕ) (stack : List Entry) → IsStackOf atoms stack → IsLower (taken_up kept stack) stack
lower_taken atoms kept [] lawful = lower_itself []
lower_taken atoms kept (e ∷ rest) lawful = lower_pick _ (e ∷ rest) (taken_up kept rest) (e ∷ rest) (lower_itself (e ∷ rest)) (lower_more atoms (taken_up kept rest) e rest lawful (lower_taken atoms kept rest lawful.1))

pub lower_back : (atoms k : ℕ) (stack : List Entry) → IsStackOf atoms stack → IsLower (back_to k stack) stack
lower_back atoms k [] lawful = lower_itself []
lower_back atoms k (e ∷ rest) lawful = lower_pick _ (e ∷ rest) (back_to k rest) (e ∷ rest) (lower_itself (e ∷ rest)) (lower_more atoms (back_to k rest) e rest lawful (lower_back atoms k rest lawful.1))

-- ---- what a visit keeps

-- watches that suffice on a lower part do so after they were moved
pub moved_suffices : (stack taken here : List Entry) (lits : List Lit) (head : Option ℕ) (w w' : Watches) → IsLower taken stack → AreMoved stack lits (head_atom lits head) w w'
    → Suffices taken here (record { lits = lits; head = head; watches = w }) → Suffices taken here (record { lits = lits; head = head; watches = w' })
moved_suffices stack taken here lits head w w' low m (OtherFails l i n f) = OtherFails l i n f
moved_suffices stack taken here lits head w w' low m (HeadIsTrue a h i v) = HeadIsTrue a h i v
moved_suffices stack taken here lits head w w' low m (HeadMustBe a l h i v t j n d) = elim m.third [
  | inl e ↦ HeadMustBe a l h i v (e ∙ t) j n d
  | inr x ↦ HeadMustBe a x.0 h i v x.1 (m.are_watches.third_in x.0 x.1) (λ e. m.are_watches.third_beside x.0 x.1 (h ∙ ap (λ z. Some z) (sym e))) (λ f. x.2 (low.full x.0 f))
]
moved_suffices stack taken here lits head w w' low m (TwoAreMissing l k f g i j n p q) =
    let first = missing w.first w'.first m.first (l, f, p) in
    let second = missing w.second w'.second m.second (k, g, q) in
    TwoAreMissing first.0 second.0 first.1 second.1 (m.are_watches.first_in first.0 first.1) (m.are_watches.second_in second.0 second.1)
    (λ e. m.are_watches.differ first.0 first.1 (second.1 ∙ ap (λ (z : Lit). Some z) (sym e))) first.2 second.2
  where
    missing : (old new : Option Lit) → (new ≡ old) ⊎ IsMissing stack new → IsMissing taken old → IsMissing taken new
    missing old new (inl e) x = (x.0, e ∙ x.1, x.2)
    missing old new (inr y) x = (y.0, y.1, (λ h. y.2 (low.holds y.0 h)))

-- the nogood with these watches
abbrev pub with_watches : Stored → Watches → Stored
with_watches s w = record { lits = s.lits; head = s.head; watches = w }

module _ (store : List Stored) (t : Trailed) (lawful : IsStackOf t.atoms t.stack) (n : ℕ) (before : Stored) (was : slice_get store n ≡ Some before) (low : n < length store) (w' : Watches)
    (m : AreMoved t.stack before.lits (head_atom before.lits before.head) before.watches w') where
  -- what suffices goes on to suffice
  still : (taken here : List Entry) → IsLower taken t.stack → (k : ℕ) (s : Stored) → slice_get (set store n (with_watches before w')) k ≡ Some s → ((x : Stored) → slice_get store k ≡ Some x → Suffices taken here x) → Suffices taken here s
  still taken here lower k s at old = elim (same_or_not n k) [
    | inl e ↦ (let a : Some (with_watches before w') ≡ Some s = sym (get_set_same store n (with_watches before w') low) ∙ subst (λ i. slice_get (set store n (with_watches before w')) i ≡ Some s) (sym e) at in
        let same : (with_watches before w') ≡ s = cc in
        subst (λ (x : Stored). Suffices taken here x) same (moved_suffices t.stack taken here before.lits before.head before.watches w' lower m (old before (subst (λ i. slice_get store i ≡ Some before) e was))))
    | inr d ↦ old s (sym (get_set_other store n k (with_watches before w') d) ∙ at)
  ]

  pub visit_keeps : Matches store t → Matches (set store n (with_watches before w')) t
  visit_keeps match = record {
    visited_within = let v = match.visited_within in omega (arith, v, length-set store n (with_watches before w'));
    visits_within = λ k h. let v = match.visits_within k h in omega (arith, v, length-set store n (with_watches before w'));
    levels_are = match.levels_are;
    lower_taken = match.lower_taken;
    now = λ k s h at. still (taken_up t.kept t.stack) t.stack (lower_taken t.atoms t.kept t.stack lawful) k s at (λ x e. match.now k x h e);
    below = λ j k s h l at. still (back_to j t.stack) (back_to j t.stack) (lower_back t.atoms j t.stack lawful) k s at (λ x e. match.below j k x h l e);
  }

-- ---- what the code did

module _ (now items : List Stored) (place id : ℕ) (view : items ≡ now) (is : place ≡ id) (low : id < length now) (x : Stored) (read_x : x ≡ get_or items place x) where
  -- the nogood that was read
  pub read_at : slice_get now id ≡ Some x
  read_at = subst (λ (xs : List Stored). slice_get xs id ≡ Some x) view
      (subst (λ i. slice_get items i ≡ Some x) is (slice_get_read items (length items) place x refl (let v = ap length view in omega (arith, low, v, is)) read_x))

  -- what it weighs is in its lists
  pub read_listed : (lists : List (List ℕ)) → AreListed lists items → (from : Watches) → from ≡ x.watches → (f : ℕ → ℕ) (l : Lit) → cond (is_watched from l) (f id) 0 ≤ weigh f (row_of lists l)
  read_listed lists listed from e f l =
      let a = weight_one f 0 now id x l read_at in
      let b = listed f l in let v = ap (λ (xs : List Stored). weight f 0 xs l) view in
      let z : 0 + id ≡ id = omega arith in let q = ap (λ k. cond (is_watched x.watches l) (f k) 0) z in
      let r = ap (λ (w : Watches). cond (is_watched w l) (f id) 0) e in
      omega (arith, a, b, v, q, r)

  module _ (y after : Stored) (read_y : y ≡ get_or items place y) (to : Watches) (watch : after ≡ record { lits = y.lits; head = y.head; watches = to }) where
    same : y ≡ x
    same =
        let there : place < length items = let v = ap length view in omega (arith, low, v, is) in
        let a : Some x ≡ Some y = sym (slice_get_read items (length items) place x refl there read_x) ∙ slice_get_read items (length items) place y refl there read_y in
        cc

    pub after_is : after ≡ record { lits = x.lits; head = x.head; watches = to }
    after_is = watch ∙ ap (λ (z : Stored). let s : Stored = record { lits = z.lits; head = z.head; watches = to } in s) same

    pub set_is : set items place after ≡ set now id (record { lits = x.lits; head = x.head; watches = to })
    set_is = ap (λ (xs : List Stored). set xs place after) view ∙ ap (λ i. set now i after) is ∙ ap (λ (z : Stored). set now id z) after_is

    pub set_listed : (lists lists' : List (List ℕ)) (from : Watches) → AreListed lists items → from ≡ x.watches
        → ((f : ℕ → ℕ) (l : Lit) → weigh f (row_of lists' l) + cond (is_watched from l) (f id) 0 ≡ weigh f (row_of lists l) + cond (is_watched to l) (f id) 0) → AreListed lists' (set items place after)
    set_listed lists lists' from listed e changed f l =
        let a = changed f l in let b = listed f l in
        let c = weight_set f 0 now id x (record { lits = x.lits; head = x.head; watches = to }) l read_at in
        let v = ap (λ (xs : List Stored). weight f 0 xs l) view in
        let s = ap (λ (xs : List Stored). weight f 0 xs l) set_is in
        let z : 0 + id ≡ id = omega arith in
        let q = ap (λ k. cond (is_watched x.watches l) (f k) 0) z in
        let p = ap (λ k. cond (is_watched to l) (f k) 0) z in
        let r = ap (λ (w : Watches). cond (is_watched w l) (f id) 0) e in
        omega (arith, a, b, c, v, s, q, p, r)

    pub set_matches : (t : Trailed) → IsStackOf t.atoms t.stack → AreMoved t.stack x.lits (head_atom x.lits x.head) x.watches to → Matches now t → Matches (set items place after) t
    set_matches t lawful m match = subst (λ (xs : List Stored). Matches xs t) (sym set_is) (visit_keeps now t lawful id x read_at low to m match)

    pub set_visited : (stack : List Entry) → HasNoAtomTwice x.lits → IsHeadOf x.lits x.head → AreMoved stack x.lits (head_atom x.lits x.head) x.watches to → (answer : Visit) → VisitIs stack x answer
        → Visited stack now (set items place after) id answer
    set_visited stack once negative m answer exact = record {
      before = x;
      after = record { lits = x.lits; head = x.head; watches = to };
      was = read_at;
      becomes = set_is;
      same_lits = refl;
      same_head = refl;
      moved = m;
      exact = still_exact answer exact;
      suffices = suffices_after stack (record { lits = x.lits; head = x.head; watches = to }) once negative x.watches m answer (still_exact answer exact);
    }
      where
        still_exact : (answer : Visit) → VisitIs stack x answer → VisitIs stack (record { lits = x.lits; head = x.head; watches = to }) answer
        still_exact Idle e = e
        still_exact (Forces p v) e = e
        still_exact Struck e = e
