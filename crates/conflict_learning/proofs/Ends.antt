-- The way down the stack begins with a struck nogood, and ends with what is learned.
use Rattle.std.proofs.Common.{◌≡◌, ℕ, zero, suc, ◌+◌, ◌<◌, ◌≤◌, Bool, true, false, not, ◌&&◌, cond, List, [], ◌∷◌, ◌++◌, map, length, replicate, get_or, refl, sym, ◌∙◌, ap, subst, inl, inr, arith}
use Rattle.std.specs.Prelude.{nat_eq}
use Rattle.std.proofs.lemmas.List.{length-replicate}
use Rattle.lists.specs.Lists.{◌∈◌, ◌⊆◌, SameSet}
use Rattle.lists.proofs.ListLemmas.{∈-append_left, ∈-append_cases, ∈-map, ∈-map_from}
use Rattle.alpha_outside.specs.declared.literal.Lit.{Lit}
use Rattle.search_values.specs.declared.entry.Entry.{Entry}
use Rattle.search_values.proofs.Basics.{bool_cases, nat_eq-same}
use Rattle.trail.specs.Assigning.{IsStackOf}
use Rattle.search_values.specs.Nogoods.{Nogood}
use Rattle.journal_theory.specs.Resolution.{itself, IsOneHighest}
use Rattle.conflict_learning.specs.FirstValues.{first_place, count_to, came_with}
use Rattle.search_values.specs.Values.{is_closed, IsClosed}
use Rattle.conflict_learning.specs.Analysing.{level_at, AllHold, NoneClosed, IsHighest, IsUnitBelow, IsSecondLevel, HasOpenHighest, CameFirst, IsUnitWhereOneIs, IsLearned, HasToResolve}
use Rattle.conflict_learning.specs.Pending.{lit_of, pending, open_at, AreMarks, AreMarked, MayMark, highest_of}
use Rattle.journal_theory.proofs.Learning.{arises_follows}
use Rattle.conflict_learning.proofs.Stacks.{HoldsBy, holds_by, level_told, level_grows, came_at, came_low, came_by}
use Rattle.conflict_learning.proofs.Marks.{pending_first}
use Rattle.conflict_learning.proofs.Highest.{highest_le, highest_by}
use Rattle.conflict_learning.proofs.Reasoning.{first_in}
use Rattle.conflict_learning.proofs.Underway.{IsAfter, IsUnderWay, some_open}

-- ---- nothing is marked

-- at each place no mark stands
none_at : (n p : ℕ) → get_or (replicate n false) p false ≡ false
none_at zero p = refl
none_at (suc n) zero = refl
none_at (suc n) (suc p) = none_at n p

-- so nothing is pending
none_pending : (n : ℕ) (rest : List Entry) → pending (replicate n false) rest ≡ []
none_pending n [] = refl
none_pending n (e ∷ rest) = ap (λ b. cond b (e ∷ pending (replicate n false) rest) (pending (replicate n false) rest))
    (none_at n (length rest)) ∙ none_pending n rest

-- and there is no mark that could be wrong
none_marked : (top n : ℕ) (rest : List Entry) → AreMarks top (replicate n false) rest
none_marked top n [] = tt
none_marked top n (e ∷ rest) = ((λ h. (let k = sym h ∙ none_at n (length rest) in cc)), none_marked top n rest)

-- so none is open
pub none_counted : (top n : ℕ) (rest : List Entry) → 0 ≡ open_at top (pending (replicate n false) rest)
none_counted top n rest = sym (ap (open_at top) (none_pending n rest))

-- ---- the begin

module _ (ngs : List Nogood) (stack : List Entry) (atoms : ℕ) (are : IsStackOf atoms stack) (struck : List Lit)
    (hold : AllHold stack struck) (top : ℕ) (top_is : top ≡ highest_of stack struck) where
  -- each literal of the struck nogood may be marked
  pub may_begin : (marks : List Bool) → MayMark stack marks stack top struck
  may_begin marks l i = inl (hold l i, (let h = highest_le stack struck l i in omega (arith, h, top_is)))

  module _ (to_do : HasToResolve stack struck) (open_highest : HasOpenHighest stack struck) (n : ℕ) (long : n ≡ length stack)
      (marks : List Bool) (more : AreMarked top stack (replicate n false) marks struck)
      (count : ℕ) (count_is : count ≡ open_at top (pending marks stack)) (above : 0 < top) where
    -- the marks stand at first values
    are_marks : AreMarks top marks stack
    are_marks = more.are_marks (none_marked top n stack)

    -- what is pending are the literals of the struck nogood
    same : SameSet struck (map lit_of (pending marks stack) ++ [])
    same = record { to = to; back = back }
      where
        to : (k : Lit) → k ∈ struck → k ∈ (map lit_of (pending marks stack) ++ [])
        to k i = let z = more.all k i (hold k i) in ∈-append_left k (map lit_of (pending marks stack)) []
            (subst (λ (x : Lit). x ∈ map lit_of (pending marks stack)) z.2 (∈-map lit_of z.0 (pending marks stack) z.1))

        by : (k : Lit) → (e : Entry) × (e ∈ pending marks stack) × (k ≡ lit_of e) → k ∈ struck
        by k z = elim (more.known z.0 z.1) [
          | inl j ↦ absurd (subst (λ (es : List Entry). z.0 ∈ es) (none_pending n stack) j)
          | inr j ↦ subst (λ (x : Lit). x ∈ struck) (sym z.2) j
        ]

        back : (k : Lit) → k ∈ (map lit_of (pending marks stack) ++ []) → k ∈ struck
        back k i = elim (∈-append_cases k (map lit_of (pending marks stack)) [] i)
            [ inl j ↦ by k (∈-map_from lit_of k (pending marks stack) j) | inr j ↦ absurd j ]

    -- an open literal of the highest level is counted
    one_open : (l : Lit) → IsHighest stack struck l → ¬ IsClosed stack l.atom → 1 ≤ count
    one_open l highest not_closed =
        let z = more.all l highest.among (hold l highest.among) in
        let f = pending_first top marks stack are_marks z.0 z.1 in
        let told = level_told atoms stack are f.0.0 z.0 f.0.1 in
        let level : level_at stack (lit_of z.0) ≡ level_at stack l = ap (level_at stack) z.2 in
        let w = highest_by stack struck (omega (arith, above, top_is)) in
        let a = highest.highest w.0 w.1 in
        let b = w.2 in
        let c = highest_le stack struck l highest.among in
        let at : z.0.level ≡ top = omega (arith, told, level, a, b, c, top_is) in
        let plain : is_closed z.0.why ≡ false = elim (bool_cases (is_closed z.0.why)) [
          | inl yes_ ↦ absurd (not_closed (z.0, first_in stack f.0.0 z.0 f.0.1, ap (λ (x : Lit). x.atom) z.2, yes_))
          | inr no_ ↦ no_
        ] in
        let counted = some_open top (pending marks stack) z.0 z.1
        (ap (λ b. nat_eq z.0.level top && not b) plain ∙ ap (λ b. b && true)
        (subst (λ n. nat_eq z.0.level n ≡ true) at (nat_eq-same z.0.level))) in
        omega (arith, counted, count_is)

    -- what holds on the way down holds at its begin
    pub begins : IsUnderWay ngs stack struck top stack marks count [] 0
    begins = record {
      arises = itself (map lit_of (pending marks stack) ++ []) same;
      bounded = λ k i. came_at stack struck k (same.back k i);
      are_marks = are_marks;
      long = more.same_length ∙ length-replicate n false ∙ long;
      count_is = count_is;
      kept = record {
        passed = λ k i. absurd i;
        hold = λ k i. absurd i;
        none_closed = λ k i. absurd i;
        levels = λ k i. absurd i;
        once = tt;
      };
      back_is = record { below = λ k i. absurd i; reached = inl refl; low = above };
      progress = inl (record {
        some = elim open_highest [ inl all ↦ absurd (to_do.0 all) | inr h ↦ one_open h.0 h.1 h.2 ];
        none_kept = λ k i. absurd i;
      });
    }

-- ---- the end

module _ (ngs : List Nogood) (stack : List Entry) (atoms : ℕ) (are : IsStackOf atoms stack) (ng : Nogood) (there : ng ∈ ngs)
    (hold : AllHold stack ng.lits) (top : ℕ) (top_is : top ≡ highest_of stack ng.lits)
    (above : 0 < top) (to_do : HasToResolve stack ng.lits) (first : CameFirst ngs stack ng.lits)
    (preferred : IsUnitWhereOneIs ngs stack ng.lits) (marks : List Bool) (count : ℕ) (lits : List Lit) (back : ℕ)
    (u : IsUnderWay ngs stack ng.lits top [] marks count lits back) where
  -- one literal of the highest level was kept
  after : IsAfter stack top lits count
  after = elim u.progress [ inl h ↦ absurd (let a = h.some in let b = u.count_is in omega (arith, a, b)) | inr h ↦ h ]

  -- none that was kept is closed
  none_closed : NoneClosed stack lits
  none_closed = u.kept.none_closed

  -- it is at the highest level
  at_top : level_at stack after.last ≡ top
  at_top = after.at_top

  -- it is the only one there
  one_highest : IsOneHighest stack lits
  one_highest = record {
    left = after.last;
    among = after.among;
    above = let a = at_top in omega (arith, a, above);
    others = λ l i. elim (after.others l i) [ inl q ↦ inl q | inr h ↦ inr (let a = at_top in omega (arith, a, h)) ];
  }

  -- the level to go back to is the second highest
  second : IsSecondLevel stack lits back
  second = record {
    highest = after.last;
    is_highest = record { among = after.among; highest = λ k i. (let a = at_top in let b = u.kept.levels k i in omega (arith, a, b)) };
    below = λ l i h. u.back_is.below l i (let a = at_top in omega (arith, a, h));
    reached = u.back_is.reached;
    lower = let a = at_top in let b = u.back_is.low in omega (arith, a, b);
  }

  -- a stored nogood among what was learned would be struck, and have its last literal where the struck nogood has it; it would be unit
  -- below the highest level, and so would be the struck nogood
  module _ (r : Nogood) (stored_too : r ∈ ngs) (sub : r.lits ⊆ lits) where
    -- its literals hold
    r_holds : AllHold stack r.lits
    r_holds l i = u.kept.hold l (sub l i)

    -- its last literal came no later than that of the struck nogood
    not_later : came_with stack r.lits ≤ came_with stack ng.lits
    not_later = came_low stack r.lits (came_with stack ng.lits) (λ l i. u.bounded l (sub l i))

    -- nor earlier
    same_time : came_with stack ng.lits ≡ came_with stack r.lits
    same_time = let a = first r stored_too r_holds in let b = not_later in omega (arith, a, b)

    -- a literal of the struck nogood at the highest level
    high : (w : Lit) × (w ∈ ng.lits) × (level_at stack w ≡ highest_of stack ng.lits)
    high = highest_by stack ng.lits (omega (arith, above, top_is))

    -- the entry by which that holds
    high_by : HoldsBy stack high.0
    high_by = holds_by atoms stack are high.0 (hold high.0 high.1)

    -- it came with the last one at the latest
    high_came : high_by.place + 1 ≤ came_with stack ng.lits
    high_came = let a = came_at stack ng.lits high.0 high.1 in let b : count_to (first_place stack high.0.atom) ≡ high_by.place + 1 =
        ap count_to high_by.is in omega (arith, a, b)

    -- the last literal of the other
    last : (z : Lit) × (z ∈ r.lits) × (count_to (first_place stack z.atom) ≡ came_with stack r.lits)
    last = came_by stack r.lits (let a = high_came in let b = same_time in omega (arith, a, b))

    -- the entry by which the last one holds
    last_by : HoldsBy stack last.0
    last_by = holds_by atoms stack are last.0 (r_holds last.0 last.1)

    -- it is at the highest level
    last_top : level_at stack last.0 ≡ top
    last_top =
        let a : count_to (first_place stack last.0.atom) ≡ last_by.place + 1 = ap count_to last_by.is in
        let b = last.2 in
        let c = same_time in
        let d = high_came in
        let le : high_by.place ≤ last_by.place = omega (arith, a, b, c, d) in
        let grows = level_grows atoms stack are high_by.place last_by.place high_by.entry last_by.entry high_by.at last_by.at le in
        let e = level_told atoms stack are high_by.place high_by.entry high_by.at in
        let e' : level_at stack (lit_of high_by.entry) ≡ level_at stack high.0 = ap (level_at stack) high_by.lit_is in
        let f = level_told atoms stack are last_by.place last_by.entry last_by.at in
        let f' : level_at stack (lit_of last_by.entry) ≡ level_at stack last.0 = ap (level_at stack) last_by.lit_is in
        let g = high.2 in
        let h = u.kept.levels last.0 (sub last.0 last.1) in
        omega (arith, grows, e, e', f, f', g, h, top_is)

    -- so it is the one that was kept there
    last_is : last.0 ≡ after.last
    last_is = elim (after.others last.0 (sub last.0 last.1)) [ inl q ↦ q | inr low ↦ absurd (let a = last_top in omega (arith, a, low)) ]

    -- so the other is unit below the highest level
    r_unit : IsUnitBelow stack r.lits
    r_unit = (
      (λ l i. none_closed l (sub l i)),
      record {
        left = last.0;
        among = last.1;
        above = let a = last_top in omega (arith, a, above);
        others = λ l i. elim (after.others l (sub l i)) [
          | inl q ↦ inl (q ∙ sym last_is)
          | inr h ↦ inr (let a = last_top in omega (arith, a, h))
        ];
      },
    )

    -- and nothing would have been resolved
    impossible : ⊥
    impossible = to_do.1 (preferred r stored_too r_holds same_time r_unit)

  -- what holds at the end is what is learned
  pub ends : IsLearned ngs stack lits back
  ends = record {
    analysed = record {
      follows = arises_follows ngs stack ng there lits u.arises;
      hold = u.kept.hold;
      none_closed = none_closed;
      one_highest = one_highest;
    };
    second = second;
    once = u.kept.once;
    new = λ r i sub. impossible r i sub;
  }
