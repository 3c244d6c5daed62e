-- The literals of a nogood are marked one by one.
use Rattle.std.proofs.Common.{◌≡◌, ℕ, ◌+◌, ◌<◌, ◌≤◌, ◌⊎◌, Bool, true, false, cond, List, [], ◌∷◌, ◌++◌, length, length-set, reverse, take, drop, set, get_or, refl, sym, ◌∙◌, ap, subst, inl, inr, arith}
use Rattle.std.specs.Prelude.{Some, slice_get}
use Rattle.std.proofs.lemmas.List.{set-get_or, get_or-set_same, get_or-set_other, take-append-drop, reverse-append, reverse-reverse, length-reverse}
use Rattle.std.proofs.lemmas.Option.{get_or_from_slice_get}
use Rattle.lists.proofs.ListLemmas.{∈-append_left, ∈-append_right}
use Rattle.alpha_outside.specs.declared.literal.Lit.{Lit}
use Rattle.search_values.specs.declared.entry.Entry.{Entry}
use Rattle.search_values.specs.Values.{Holds, first_level}
use Rattle.search_values.proofs.Basics.{bool_cases, get_left, get_last}
use Rattle.trail.specs.Assigning.{IsStackOf}
use Rattle.conflict_learning.specs.FirstValues.{first_place}
use Rattle.conflict_learning.specs.Analysing.{level_at}
use Rattle.conflict_learning.specs.Pending.{lit_of, IsFirstAt, pending, is_open_at, one_if, open_at, AreMarked}
use Rattle.conflict_learning.proofs.Stacks.{first_low, first_above, level_told, holds_by, place_above, stack_below}
use Rattle.conflict_learning.proofs.Marks.{pending_at, IsMore, is_more}
use Rattle.conflict_learning.proofs.Underway.{in_push, pending_grows}

-- an entry at its place, the oldest first
pub first_read : (stack : List Entry) (p : ℕ) (f : Entry) → IsFirstAt stack p f → slice_get (reverse stack) p ≡ Some f
first_read [] p f h = absurd h
first_read (e ∷ rest) p f (inl h) =
    ap (λ es. slice_get es p) (reverse-append (e ∷ []) rest)
    ∙ ap (slice_get (reverse rest ++ e ∷ [])) (h.0 ∙ sym (length-reverse rest)) ∙ get_last (reverse rest) e
    ∙ ap (λ (x : Entry). Some x) (sym h.1)
first_read (e ∷ rest) p f (inr h) = ap (λ es. slice_get es p) (reverse-append (e ∷ []) rest)
    ∙ get_left (reverse rest) (e ∷ []) p f (first_read rest p f h)

-- the oldest entries are below the others
pub parted : (stack : List Entry) (left : ℕ) → stack ≡ reverse (drop left (reverse stack)) ++ reverse (take left (reverse stack))
parted stack left = sym (reverse-reverse stack) ∙ ap reverse (sym (take-append-drop left (reverse stack)))
    ∙ reverse-append (take left (reverse stack)) (drop left (reverse stack))

-- nothing is marked yet
pub marked_start : (top : ℕ) (rest : List Entry) (marks : List Bool) → AreMarked top rest marks marks []
marked_start top rest marks = record {
  same_length = refl;
  kept = λ p h. h;
  known = λ e i. inl i;
  all = λ l i. absurd i;
  are_marks = λ h. h;
}

module _ (stack above rest : List Entry) (atoms : ℕ) (are : IsStackOf atoms stack) (cut : stack ≡ above ++ rest) (top : ℕ)
    (old now : List Bool) (ls : List Lit) (long : length old ≡ length stack)
    (h : AreMarked top rest old now ls) (l : Lit) (p : ℕ) (place_is : first_place stack l.atom ≡ Some p)
    (may : (Holds rest l × (level_at stack l ≤ top)) ⊎ ((q : ℕ) × (first_place stack l.atom ≡ Some q) × (get_or old q false ≡ true))) where
  -- what is left is a stack
  below : IsStackOf atoms rest
  below = stack_below atoms above rest (subst (λ s. IsStackOf atoms s) cut are)

  -- a literal that holds below is that of the entry at this place
  by : Holds rest l → (f : Entry) × IsFirstAt rest p f × (lit_of f ≡ l)
  by holds =
      let b = holds_by atoms rest below l holds in
      let q : first_place stack l.atom ≡ Some b.place = ap (λ s. first_place s l.atom) cut ∙ place_above above rest l.atom b.place b.is in
      let same : b.place ≡ p = (let r : Some b.place ≡ Some p = sym q ∙ place_is in cc) in
      (b.entry, subst (λ n. IsFirstAt rest n b.entry) same b.at, b.lit_is)

  -- it is marked already
  marked_again : get_or now p false ≡ true → AreMarked top rest old now (ls ++ l ∷ [])
  marked_again marked = record {
    same_length = h.same_length;
    kept = h.kept;
    known = λ e i. elim (h.known e i) [ inl j ↦ inl j | inr j ↦ inr (∈-append_left (lit_of e) ls (l ∷ []) j) ];
    all = λ k i holds. elim (in_push ls l k i) [
      | inl j ↦ h.all k j holds
      | inr q ↦ (let b = by (subst (Holds rest) q holds) in (b.0, pending_at now rest p b.0 b.1 marked, b.2 ∙ sym q))
    ];
    are_marks = h.are_marks;
  }

  -- it gets its mark
  module _ (free : get_or now p false ≡ false) where
    -- the entry that gets the mark
    here : (f : Entry) × IsFirstAt rest p f × (lit_of f ≡ l) × (level_at stack l ≤ top)
    here = elim may [
      | inl m ↦ (let b = by m.0 in (b.0, b.1, b.2, m.1))
      | inr m ↦ (let same : m.0 ≡ p = (let r : Some m.0 ≡ Some p = sym m.1 ∙ place_is in cc) in
          let z : true ≡ false = sym (h.kept p (subst (λ q. get_or old q false ≡ true) same m.2)) ∙ free in cc)
    ]

    -- it is the first of its atom on the whole stack
    whole : IsFirstAt stack p here.0
    whole = subst (λ s. IsFirstAt s p here.0) (sym cut) (first_above above rest p here.0 here.1)

    -- its place is among the marks
    low : p < length now
    low = let a = first_low stack p here.0 whole in let b = h.same_length in omega (arith, a, b, long)

    -- the level of its entry
    level_low : here.0.level ≤ top
    level_low = let a = level_told atoms stack are p here.0 whole in let b : level_at stack l ≡ first_level stack here.0.atom =
        ap (level_at stack) (sym here.2) in let c = here.3 in omega (arith, a, b, c)

    -- what the mark adds
    more : IsMore top now rest p here.0
    more = is_more top now rest p here.0 here.1 low free

    -- other marks stay
    still : (q : ℕ) → get_or now q false ≡ true → get_or (set now p true) q false ≡ true
    still q marked = elim (eq_or q p) [
      | inl same ↦ subst (λ n. get_or (set now p true) n false ≡ true) (sym same) (get_or-set_same now p true false low)
      | inr other ↦ get_or-set_other now p q true false other ∙ marked
    ]
      where
        eq_or : (a b : ℕ) → (a ≡ b) ⊎ (¬ (a ≡ b))
        eq_or a b = grind arith

    -- with it one literal more is marked
    marked_more : AreMarked top rest old (set now p true) (ls ++ l ∷ [])
    marked_more = record {
      same_length = length-set now p true ∙ h.same_length;
      kept = λ q marked. still q (h.kept q marked);
      known = λ e i. elim (more.known e i) [
        | inl j ↦ elim (h.known e j) [ inl m ↦ inl m | inr m ↦ inr (∈-append_left (lit_of e) ls (l ∷ []) m) ]
        | inr q ↦ inr (∈-append_right (lit_of e) ls (l ∷ []) (inl (ap lit_of q ∙ here.2)))
      ];
      all = λ k i holds. elim (in_push ls l k i) [
        | inl j ↦ (let z = h.all k j holds in (z.0, pending_grows now (set now p true) rest still z.0 z.1, z.2))
        | inr q ↦ (here.0, pending_at (set now p true) rest p here.0 here.1 (get_or-set_same now p true false low), here.2 ∙ sym q)
      ];
      are_marks = λ a. more.are (h.are_marks a) level_low;
    }

    -- the count with it
    count_more : open_at top (pending (set now p true) rest) ≡ open_at top (pending now rest) + one_if (is_open_at top here.0)
    count_more = more.count

    -- the entry that is read at its place
    read : slice_get (reverse stack) p ≡ Some here.0
    read = first_read stack p here.0 whole

  -- either way
  pub mark_step : (new : List Bool) (count count_now : ℕ) (e : Entry) (place : ℕ) → place ≡ p → new ≡ set now place true
      → e ≡ get_or (reverse stack) place e
      → count ≡ open_at top (pending now rest) → count_now ≡ count + cond (get_or now place false) 0 (one_if (is_open_at top e))
      → p < length now → AreMarked top rest old new (ls ++ l ∷ []) × (count_now ≡ open_at top (pending new rest))
  mark_step new count count_now e place same new_is e_is count_is now_is room = elim (bool_cases (get_or now p false)) [
    | inl marked ↦ (
        let unchanged : set now p true ≡ now = ap (set now p) (sym marked) ∙ set-get_or now p false in
        let new_now : new ≡ now = new_is ∙ ap (λ q. set now q true) same ∙ unchanged in
        let zero : count_now ≡ count + 0 = now_is ∙ ap (λ q. count + cond (get_or now q false) 0 (one_if (is_open_at top e))) same
        ∙ ap (λ b. count + cond b 0 (one_if (is_open_at top e))) marked in (
          subst (λ ms. AreMarked top rest old ms (ls ++ l ∷ [])) (sym new_now) (marked_again marked),
          (let a : open_at top (pending new rest) ≡ open_at top (pending now rest) =
              ap (λ ms. open_at top (pending ms rest)) new_now in omega
              (arith, a, zero, count_is)),
        ))
    | inr free ↦ (
        let new_set : new ≡ set now p true = new_is ∙ ap (λ q. set now q true) same in
        let entry_is : e ≡ (here free).0 = e_is ∙ ap (λ q. get_or (reverse stack) q e) same
        ∙ get_or_from_slice_get (reverse stack) p (here free).0 e (read free) in
        let more_one : count_now ≡ count + one_if (is_open_at top (here free).0)
        = now_is ∙ ap (λ q. count + cond (get_or now q false) 0 (one_if (is_open_at top e))) same
        ∙ ap (λ b. count + cond b 0 (one_if (is_open_at top e))) free ∙ ap (λ (x : Entry). count + one_if (is_open_at top x)) entry_is in (
          subst (λ ms. AreMarked top rest old ms (ls ++ l ∷ [])) (sym new_set) (marked_more free),
          (
              let a : open_at top (pending new rest) ≡ open_at top (pending (set now p true) rest) =
              ap (λ ms. open_at top (pending ms rest)) new_set in
              let b = count_more free in
              omega (arith, a, b, more_one, count_is)),
        ))
  ]
