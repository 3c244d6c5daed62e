-- The turns of the loop that goes down the stack, over the entries from the oldest on.
use Rattle.std.proofs.Common.{◌≡◌, ℕ, ◌+◌, ◌-◌, ◌<◌, ◌≤◌, ◌⊎◌, Bool, true, false, cond, List, [], ◌∷◌, ◌++◌, map, length, length-take, reverse, take, drop, replicate, get_or, refl, sym, ◌∙◌, ap, subst, inl, inr, arith, append_assoc, zero, suc}
use Rattle.std.specs.Prelude.{Some, None, slice_get}
use Rattle.std.proofs.lemmas.List.{take_all, length-reverse, reverse-reverse}
use Rattle.std.proofs.lemmas.Option.{slice_get_within, get_or_from_slice_get, slice_get-get_or}
use Rattle.lists.specs.Lists.{◌∈◌}
use Rattle.lists.proofs.Places.{get_below}
use Rattle.alpha_outside.specs.declared.literal.Lit.{Lit}
use Rattle.alpha_outside.specs.declared.literal.Value.{Value}
use Rattle.search_values.specs.declared.entry.Entry.{Entry}
use Rattle.search_values.specs.Values.{lit, is_up, value_of, Holds, all_at_0, is_closed}
use Rattle.search_values.proofs.Basics.{get_in, nat_eq-same}
use Rattle.trail.specs.Assigning.{IsStackOf}
use Rattle.search_values.specs.Nogoods.{Nogood}
use Rattle.conflict_learning.specs.FirstValues.{or_place, first_place}
use Rattle.journal_theory.specs.Resolution.{RestsOn, EachRests}
use Rattle.journal_theory.specs.Events.{lits_in, lits_at}
use Rattle.conflict_learning.specs.Analysing.{level_at, AllHold, HasOpenHighest, CameFirst, IsUnitWhereOneIs, IsUnitBelow, IsSecondLevel, IsLearned, IsNeeded, HasToResolve}
use Rattle.conflict_learning.specs.Pending.{lit_of, treatment_of, IsFirstAt, pending, is_open_at, one_if, open_at, AreMarked, MayMark, IsBackWith, highest_of, second_of}
use Rattle.conflict_learning.specs.declared.analysis.Treatment.{Treatment}
use Rattle.conflict_learning.specs.declared.analysis.Treatment.TheVariants.{Keep, Resolve, Missing}
use Rattle.conflict_learning.proofs.Stacks.{zero_or, no_place, place_more, stack_below, first_above, level_low}
use Rattle.conflict_learning.proofs.Marking.{parted}
use Rattle.conflict_learning.proofs.Highest.{all_0, not_all_0, second_is}
use Rattle.conflict_learning.proofs.Reasoning.{rests_at, entry_in, open_first, HasReason, reason_of, may_keep, missing}
use Rattle.conflict_learning.proofs.Underway.{IsUnderWay, step_skip, step_resolve, step_keep, literal_in, alone_below}
use Rattle.conflict_learning.proofs.Ends.{may_begin, begins, ends}
use Rattle.conflict_learning.proofs.Calls.{turned_step}

-- all entries are the stack
pub all_entries : (stack entries : List Entry) → entries ≡ reverse stack → (n : ℕ) → n ≡ length entries
    → reverse (take n (reverse stack)) ≡ stack
all_entries stack entries turned n is = ap reverse (take_all n (reverse stack) (let a = ap length turned in omega (arith, a, is)))
    ∙ reverse-reverse stack

-- the literals that are shown are those of the nogood
pub shown_lits : (ngs : List Nogood) (n : ℕ) (lits : List Lit) → (ng : Nogood) × (slice_get ngs n ≡ Some ng) × (lits ≡ ng.lits)
    → lits ≡ lits_at ngs n
shown_lits ngs n lits h = h.2 ∙ sym (ap lits_in h.1)

-- the place of the entry that gave the first value
first_is_at : (stack : List Entry) (p : ℕ) (f : Entry) → IsFirstAt stack p f → first_place stack f.atom ≡ Some p
first_is_at [] p f h = absurd h
first_is_at (e ∷ rest) p f (inl h) = subst (λ (x : Entry). first_place (e ∷ rest) x.atom ≡ Some p) (sym h.1) (
    ap (λ b. cond b (or_place (first_place rest e.atom) (length rest)) (first_place rest e.atom)) (nat_eq-same e.atom)
    ∙ ap (λ o. or_place o (length rest)) (no_place rest e.atom h.2) ∙ ap (λ n. Some n) (sym h.0))
first_is_at (e ∷ rest) p f (inr h) = place_more e rest f.atom p (first_is_at rest p f h)

module _ (ngs : List Nogood) (stack entries : List Entry) (turned : entries ≡ reverse stack) (atoms : ℕ) (are : IsStackOf atoms stack)
    (struck top : ℕ)
    (rests : EachRests ngs stack) (top_is : top ≡ highest_of stack (lits_at ngs struck)) (to_do : HasToResolve stack (lits_at ngs struck))
    (hold : AllHold stack (lits_at ngs struck)) where
  -- the highest level isn't 0
  above_0 : 0 < top
  above_0 = elim (zero_or top) [ inl z ↦ absurd (to_do.0 (all_0 stack (lits_at ngs struck) (sym top_is ∙ z))) | inr h ↦ h ]

  -- ---- the begin

  -- its literals may be marked
  pub begin_may : (n : ℕ) → n ≡ length entries → (marks : List Bool) (lits : List Lit) → (ng : Nogood) × (slice_get ngs struck ≡ Some ng)
      × (lits ≡ ng.lits)
      → MayMark stack marks (reverse (take n (reverse stack))) top lits
  begin_may n is marks lits shown =
      subst (λ st. MayMark stack marks st top lits) (sym (all_entries stack entries turned n is))
      (subst (MayMark stack marks stack top) (sym (shown_lits ngs struck lits shown))
      (may_begin ngs stack atoms are (lits_at ngs struck) hold top top_is marks))

  -- the way down begins
  pub begin_way : HasOpenHighest stack (lits_at ngs struck) → (n : ℕ) → n ≡ length entries → (old marks : List Bool)
      → old ≡ replicate n false → (lits : List Lit)
      → (ng : Nogood) × (slice_get ngs struck ≡ Some ng) × (lits ≡ ng.lits)
      → AreMarked top (reverse (take n (reverse stack))) old marks lits
      → (count : ℕ)
      → count ≡ open_at top (pending marks (reverse (take n (reverse stack)))) → (kept : List Lit) → kept ≡ []
      → IsUnderWay ngs stack (lits_at ngs struck) top (reverse (take n entries)) marks count kept 0 × (n ≤ length entries)
  begin_way open_highest n is old marks old_is lits shown more count count_is kept none = (
    subst (λ ks. IsUnderWay ngs stack (lits_at ngs struck) top (reverse (take n entries)) marks count ks 0) (sym none)
        (subst (λ st. IsUnderWay ngs stack (lits_at ngs struck) top st marks count [] 0)
        (sym (ap (λ es. reverse (take n es)) turned ∙ whole))
        (begins ngs stack atoms are (lits_at ngs struck) hold top top_is to_do open_highest n
        (is ∙ ap length turned ∙ length-reverse stack) marks
        (subst (λ o. AreMarked top stack o marks (lits_at ngs struck)) old_is
        (subst (AreMarked top stack old marks) (shown_lits ngs struck lits shown)
        (subst (λ st. AreMarked top st old marks lits) whole more)))
        count (count_is ∙ ap (λ st. open_at top (pending marks st)) whole) above_0)),
    omega (arith, is),
  )
    where
      whole : reverse (take n (reverse stack)) ≡ stack
      whole = all_entries stack entries turned n is

  -- ---- a turn

  module _ (marks : List Bool) (count : ℕ) (lits : List Lit) (back left : ℕ)
      (way : IsUnderWay ngs stack (lits_at ngs struck) top (reverse (take left entries)) marks count lits back)
      (room : left ≤ length entries)
      (some : 0 < left) (e : Entry) (e_is : e ≡ get_or entries (left - 1) e) where
    -- the entry is one of the trail
    low : left - 1 < length entries
    low = omega (arith, room, some)

    -- it stands above those that are left
    next : reverse (take left entries) ≡ e ∷ reverse (take (left - 1) entries)
    next = ap (λ n. reverse (take n entries)) (let q : left ≡ left - 1 + 1 = omega (arith, some) in q)
        ∙ turned_step entries (left - 1) e low e_is

    -- and below those that were looked at
    cut : stack ≡ reverse (drop left entries) ++ e ∷ reverse (take (left - 1) entries)
    cut = parted stack left ∙ ap (λ es. reverse (drop left es) ++ reverse (take left es)) (sym turned)
        ∙ ap (λ es. reverse (drop left entries) ++ es) next

    -- what holds on the way down, at this entry
    here : IsUnderWay ngs stack (lits_at ngs struck) top (e ∷ reverse (take (left - 1) entries)) marks count lits back
    here = subst (λ st. IsUnderWay ngs stack (lits_at ngs struck) top st marks count lits back) next way

    -- so many are left
    height : length (reverse (take (left - 1) entries)) ≡ left - 1
    height = let a = length-reverse (take (left - 1) entries) in let b = length-take (left - 1) entries in omega (arith, a, b, low)

    -- the place stays in range
    still : left - 1 ≤ length entries
    still = omega (arith, room)

    -- what the entry rests on
    e_rests : RestsOn ngs e (reverse (take (left - 1) entries)) e.why
    e_rests = rests_at ngs (reverse (drop left entries)) (reverse (take (left - 1) entries)) e (subst (EachRests ngs) cut rests)

    -- it is on the stack
    e_in : e ∈ stack
    e_in = subst (λ st. e ∈ st) (sym cut) (entry_in (reverse (drop left entries)) (reverse (take (left - 1) entries)) e)

    -- with those below it it is a stack
    below : IsStackOf atoms (e ∷ reverse (take (left - 1) entries))
    below = stack_below atoms (reverse (drop left entries)) (e ∷ reverse (take (left - 1) entries)) (subst (IsStackOf atoms) cut are)

    -- the mark that was read
    module _ (mark : Bool) (mark_is : mark ≡ get_or marks (left - 1) mark) where
      -- its place is among the marks
      mark_low : left - 1 < length marks
      mark_low = let a = here.long in let b = ap length turned in let c = length-reverse stack in omega (arith, a, b, c, low)

      -- the mark that was read is its own
      mark_read : (b : Bool) → mark ≡ b → get_or marks (length (reverse (take (left - 1) entries))) false ≡ b
      mark_read b is = ap (λ n. get_or marks n false) height ∙ any_default ∙ sym mark_is ∙ is
        where
          any_default : get_or marks (left - 1) false ≡ get_or marks (left - 1) mark
          any_default = sym (get_or_from_slice_get marks (left - 1) (get_or marks (left - 1) false) mark
              (slice_get-get_or marks (left - 1) false mark_low))

      -- an entry that isn't marked
      pub turn_skip : mark ≡ false → IsUnderWay ngs stack (lits_at ngs struck) top (reverse (take (left - 1) entries)) marks count lits back
          × (left - 1 ≤ length entries)
      turn_skip off = (
        step_skip ngs stack (reverse (drop left entries)) (reverse (take (left - 1) entries)) e atoms are cut
            (lits_at ngs struck) top marks count lits back here (mark_read false off),
        still,
      )

      module _ (on : mark ≡ true) where
        -- the entry is marked
        marked : get_or marks (length (reverse (take (left - 1) entries))) false ≡ true
        marked = mark_read true on

        -- it gave its atom the first value
        free : value_of (reverse (take (left - 1) entries)) e.atom ≡ None
        free = (here.are_marks.0 marked).0

        -- it is the first of its atom on the whole stack
        first : IsFirstAt stack (length (reverse (take (left - 1) entries))) e
        first = subst (λ st. IsFirstAt st (length (reverse (take (left - 1) entries))) e) (sym cut)
            (first_above (reverse (drop left entries)) (e ∷ reverse (take (left - 1) entries))
            (length (reverse (take (left - 1) entries))) e (inl (refl, refl, free)))

        -- the literal is kept
        pub turn_keep : (treatment : Treatment) → treatment ≡ treatment_of e.why e.level top count → treatment ≡ Keep
            → (marks_now : List Bool) → marks_now ≡ marks → (count_now : ℕ)
            → count_now ≡ count - one_if (is_open_at top e) → (l : Lit) → l ≡ lit_of e → (lits_now : List Lit) → lits_now ≡ lits ++ l ∷ []
            → (back_now : ℕ)
            → IsBackWith back e.level top back_now
            → IsUnderWay ngs stack (lits_at ngs struck) top (reverse (take (left - 1) entries)) marks_now count_now lits_now back_now
            × (left - 1 ≤ length entries)
        turn_keep treatment is keeps marks_now marks_is count_now now l l_is lits_now lits_is back_now back_case =
            let may = may_keep e top count e.why refl (sym is ∙ keeps) in (
              subst (λ ms. IsUnderWay ngs stack (lits_at ngs struck) top (reverse (take (left - 1) entries)) ms count_now lits_now back_now)
                  (sym marks_is)
                  (subst (λ ls. IsUnderWay ngs stack (lits_at ngs struck) top
                  (reverse (take (left - 1) entries)) marks count_now ls back_now) (sym (lits_is ∙ ap (λ (x : Lit). lits ++ x ∷ []) l_is))
                  (step_keep ngs stack (reverse (drop left entries)) (reverse (take (left - 1) entries)) e atoms are cut
                  (lits_at ngs struck) top marks count lits back here marked
                  (open_first atoms stack are (length (reverse (take (left - 1) entries))) e first may.plain)
                  (alone_below ngs stack (reverse (drop left entries)) (reverse (take (left - 1) entries)) e atoms are cut
                  (lits_at ngs struck) top marks count lits back here marked may.plain may.alone)
                  count_now now may.plain back_now back_case)),
              still,
            )

        -- the reason
        module _ (n : ℕ) (treatment : Treatment) (is : treatment ≡ treatment_of e.why e.level top count)
            (resolves : treatment ≡ Resolve n) where
          -- what the entry is resolved with
          found : HasReason ngs stack (reverse (take (left - 1) entries)) e n × ((is_closed e.why ≡ true) ⊎ (1 < count))
          found = reason_of ngs stack (reverse (take (left - 1) entries)) e atoms below e_in top count n e.why refl e_rests
              (sym is ∙ resolves)

          -- the reason is stored
          pub reason_there : n < length ngs
          reason_there = slice_get_within ngs n found.0.reason found.0.there

          module _ (shown : List Lit) (shown_is : (ng : Nogood) × (slice_get ngs n ≡ Some ng) × (shown ≡ ng.lits)) where
            -- the literals that are shown are those of the reason
            same_lits : shown ≡ found.0.reason.lits
            same_lits = shown_lits ngs n shown shown_is ∙ ap lits_in found.0.there

            -- its literals may be marked
            pub reason_may : (marks_now : List Bool) → marks_now ≡ marks
                → MayMark stack marks_now (reverse (take (left - 1) (reverse stack))) top shown
            reason_may marks_now marks_is =
                subst (λ ms. MayMark stack ms (reverse (take (left - 1) (reverse stack))) top shown) (sym marks_is)
                (subst (λ es. MayMark stack marks (reverse (take (left - 1) es)) top shown) turned
                (subst (MayMark stack marks (reverse (take (left - 1) entries)) top) (sym same_lits) may))
              where
                e_low : e.level ≤ top
                e_low = (here.are_marks.0 marked).1

                lower : (l : Lit) → Holds (reverse (take (left - 1) entries)) l → level_at stack l ≤ top
                lower l h =
                    let split : stack ≡ (reverse (drop left entries) ++ e ∷ []) ++ reverse (take (left - 1) entries) = cut
                    ∙ sym (append_assoc (reverse (drop left entries)) (e ∷ []) (reverse (take (left - 1) entries))) in
                    let a = level_low (reverse (drop left entries) ++ e ∷ []) (reverse (take (left - 1) entries)) l h in
                    let b : level_at stack l ≡ level_at ((reverse (drop left entries) ++ e ∷ []) ++ reverse (take (left - 1) entries)) l =
                    ap (λ st. level_at st l) split in
                    let c = below.0.level_told in
                    omega (arith, a, b, c, e_low)

                may : MayMark stack marks (reverse (take (left - 1) entries)) top found.0.reason.lits
                may l i = elim (found.0.others l i) [
                  | inl q ↦ inr (
                    length (reverse (take (left - 1) entries)),
                    ap (λ (x : Lit). first_place stack x.atom) q
                        ∙ first_is_at stack (length (reverse (take (left - 1) entries))) e first,
                    marked,
                  )
                  | inr h ↦ inl (h, lower l h)
                ]

            -- the literal is resolved
            pub turn_resolve : (marks_old marks_now : List Bool) → marks_old ≡ marks
                → AreMarked top (reverse (take (left - 1) (reverse stack))) marks_old marks_now shown → (count_now : ℕ)
                → count_now ≡ open_at top (pending marks_now (reverse (take (left - 1) (reverse stack))))
                → IsUnderWay ngs stack (lits_at ngs struck) top (reverse (take (left - 1) entries)) marks_now count_now lits back
                × (left - 1 ≤ length entries)
            turn_resolve marks_old marks_now marks_is more count_now now = (
              step_resolve ngs stack (reverse (drop left entries)) (reverse (take (left - 1) entries)) e atoms are cut
                  (lits_at ngs struck) top marks count lits back here marked
                  found.0.reason found.0.is found.0.denied found.0.others marks_now
                  (subst (λ ms. AreMarked top (reverse (take (left - 1) entries)) ms marks_now found.0.reason.lits) marks_is
                  (subst (AreMarked top (reverse (take (left - 1) entries)) marks_old marks_now) same_lits
                  (subst (λ es. AreMarked top (reverse (take (left - 1) es)) marks_old marks_now shown) (sym turned) more)))
                  count_now (now ∙ ap (λ es. open_at top (pending marks_now (reverse (take (left - 1) es)))) (sym turned)) found.1,
              still,
            )

        -- a reason is missing
        pub turn_missing : (treatment : Treatment) → treatment ≡ treatment_of e.why e.level top count → treatment ≡ Missing
            → HasToResolve stack (lits_at ngs struck) × IsNeeded ngs stack (lits_at ngs struck) e.atom
        turn_missing treatment is lacks =
            let m = missing ngs (reverse (take (left - 1) entries)) e top count e.why refl e_rests (sym is ∙ lacks) in (
              to_do,
              record {
                without = (e, e_in, refl, m.0);
                resolvent = map lit_of (pending marks (e ∷ reverse (take (left - 1) entries))) ++ lits;
                arises = here.arises;
                among = subst (λ (v : Value). lit e.atom (is_up v) ∈
                    (map lit_of (pending marks (e ∷ reverse (take (left - 1) entries))) ++ lits)) m.1
                    (literal_in ngs stack (reverse (drop left entries)) (reverse (take (left - 1) entries)) e atoms are cut
                    (lits_at ngs struck) top marks count lits back here marked);
              },
            )

  -- ---- the end

  -- at the end stands what is learned
  pub end_way : struck < length ngs → CameFirst ngs stack (lits_at ngs struck) → IsUnitWhereOneIs ngs stack (lits_at ngs struck)
      → (marks : List Bool) (count : ℕ) (lits : List Lit) (back left : ℕ)
      → IsUnderWay ngs stack (lits_at ngs struck) top (reverse (take left entries)) marks count lits back → left ≤ 0
      → HasToResolve stack (lits_at ngs struck) × IsLearned ngs stack lits back
  end_way there came preferred marks count lits back left way over =
      (to_do, go (get_below ngs struck there))
    where
      nothing : reverse (take left entries) ≡ []
      nothing = ap (λ n. reverse (take n entries)) (let z : left ≡ 0 = omega (arith, over) in z)

      way_0 : IsUnderWay ngs stack (lits_at ngs struck) top [] marks count lits back
      way_0 = subst (λ st. IsUnderWay ngs stack (lits_at ngs struck) top st marks count lits back) nothing way

      go : (ng : Nogood) × (slice_get ngs struck ≡ Some ng) → IsLearned ngs stack lits back
      go found =
          let same : lits_at ngs struck ≡ found.0.lits = ap lits_in found.1 in
          ends ngs stack atoms are found.0 (get_in ngs struck found.0 found.1) (subst (AllHold stack) same hold) top
          (top_is ∙ ap (highest_of stack) same) above_0
          (subst (HasToResolve stack) same to_do) (subst (CameFirst ngs stack) same came)
          (subst (IsUnitWhereOneIs ngs stack) same preferred) marks count lits back
          (subst (λ ls. IsUnderWay ngs stack ls top [] marks count lits back) same way_0)

-- an entry stands at each place
pub entry_here : (entries : List Entry) (j : ℕ) → j < length entries → (e : Entry) × (e ≡ get_or entries j e)
entry_here [] j h = absurd (omega (arith, h))
entry_here (x ∷ xs) zero h = (x, refl)
entry_here (x ∷ xs) (suc j) h = entry_here xs j (omega (arith, h))

-- what isn't 0 is above 0
pub not_0 : (n : ℕ) → ¬ (n ≡ 0) → 0 < n
not_0 n h = grind (arith, h)

-- what the nogood's shown literals come to, they come to as its literals
module _ (ngs : List Nogood) (stack : List Entry) (struck : ℕ) (lits : List Lit)
    (shown : (ng : Nogood) × (slice_get ngs struck ≡ Some ng) × (lits ≡ ng.lits)) (top : ℕ) (top_is : top ≡ highest_of stack lits) where
  -- they are the literals of the nogood
  same : lits ≡ lits_at ngs struck
  same = shown_lits ngs struck lits shown

  -- their highest level is that of the nogood
  pub top_at : top ≡ highest_of stack (lits_at ngs struck)
  top_at = top_is ∙ ap (highest_of stack) same

  -- where it is 0, all stand at level 0
  pub at_root : top ≡ 0 → all_at_0 stack (lits_at ngs struck) ≡ true
  at_root z = all_0 stack (lits_at ngs struck) (sym top_at ∙ z)

  module _ (above : ¬ (top ≡ 0)) where
    pub unit_and_second : IsUnitBelow stack lits → (second : ℕ) → second ≡ second_of stack top lits → IsUnitBelow stack (lits_at ngs struck)
        × IsSecondLevel stack (lits_at ngs struck) second
    unit_and_second unit second is = (
      subst (IsUnitBelow stack) same unit,
      subst (λ n. IsSecondLevel stack (lits_at ngs struck) n) (sym (is ∙ ap (second_of stack top) same))
          (second_is stack (lits_at ngs struck) top top_at (not_0 top above)),
    )

    pub has_to : ¬ IsUnitBelow stack lits → HasToResolve stack (lits_at ngs struck)
    has_to off = (
      not_all_0 stack (lits_at ngs struck) (subst (λ n. 0 < n) top_at (not_0 top above)),
      λ unit. off
          (subst (IsUnitBelow stack) (sym same) unit),
    )
