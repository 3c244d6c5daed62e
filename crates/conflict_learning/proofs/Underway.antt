-- The way down the stack: what holds of the marks and of the literals kept so far, and how each step keeps it.
use Rattle.std.proofs.Common.{◌≡◌, ℕ, ◌+◌, ◌-◌, ◌<◌, ◌≤◌, max, ◌⊎◌, Bool, true, false, not, ◌&&◌, cond, List, [], ◌∷◌, ◌++◌, map, length, get_or, refl, sym, ◌∙◌, ap, subst, inl, inr, arith}
use Rattle.std.specs.Prelude.{Some, None, nat_eq}
use Rattle.lists.specs.Lists.{◌∈◌, SameSet}
use Rattle.lists.proofs.ListLemmas.{∈-append_left, ∈-append_right, ∈-append_cases, ∈-map, ∈-map_from}
use Rattle.alpha_outside.specs.declared.literal.Lit.{Lit}
use Rattle.search_values.specs.declared.entry.Entry.{Entry}
use Rattle.search_values.specs.Values.{value_of, Holds, opened, level_of, is_closed, IsClosed}
use Rattle.search_values.proofs.Basics.{in_single, bool_cases, nat_eq-same, and_left, nat_eq-true}
use Rattle.trail.specs.Assigning.{IsStackOf}
use Rattle.search_values.specs.Nogoods.{Nogood}
use Rattle.nogood_store.specs.Stored.{atom_of, HasNoAtomTwice}
use Rattle.journal_theory.specs.Resolution.{opposite, IsResolvent, IsReasonOf, Arises, itself, by_reason}
use Rattle.conflict_learning.specs.FirstValues.{or_place, first_place, count_to, came_with}
use Rattle.conflict_learning.specs.Analysing.{level_at}
use Rattle.conflict_learning.specs.Pending.{lit_of, IsFirstAt, pending, is_open_at, one_if, open_at, AreMarks, AreMarked, IsBackWith}
use Rattle.conflict_learning.proofs.Stacks.{larger, opens_one, and_false, no_place, place_more, none_below, none_other, stack_below, holds_more, first_low, first_valued, first_holds, first_above, level_told, level_le, holds_above, holds_by, place_above}
use Rattle.conflict_learning.proofs.Marks.{pending_yes, pending_no, pending_more, pending_first}

-- ---- what is kept so far

-- the literals kept hold, are passed, aren't closed, are at most at the highest level, and have no atom twice
pub record AreKept (stack rest : List Entry) (top : ℕ) (lits : List Lit) : Type 0 where
  pub passed : (k : Lit) → k ∈ lits → value_of rest k.atom ≡ None
  pub hold : (k : Lit) → k ∈ lits → Holds stack k
  pub none_closed : (k : Lit) → k ∈ lits → ¬ IsClosed stack k.atom
  pub levels : (k : Lit) → k ∈ lits → level_at stack k ≤ top
  pub once : HasNoAtomTwice lits

-- the second highest level of the literals kept
pub record IsBack (stack : List Entry) (top : ℕ) (lits : List Lit) (back : ℕ) : Type 0 where
  pub below : (k : Lit) → k ∈ lits → level_at stack k < top → level_at stack k ≤ back
  pub reached : (back ≡ 0) ⊎ ((k : Lit) × (k ∈ lits) × (level_at stack k ≡ back))
  pub low : back < top

-- no literal of the highest level was kept, and open ones are pending
pub record IsBefore (stack : List Entry) (top : ℕ) (lits : List Lit) (count : ℕ) : Type 0 where
  pub some : 1 ≤ count
  pub none_kept : (k : Lit) → k ∈ lits → level_at stack k < top

-- just one literal of the highest level was kept, and no open one is pending
pub record IsAfter (stack : List Entry) (top : ℕ) (lits : List Lit) (count : ℕ) : Type 0 where
  pub none : count ≡ 0
  pub last : Lit
  pub among : last ∈ lits
  pub at_top : level_at stack last ≡ top
  pub others : (k : Lit) → k ∈ lits → (k ≡ last) ⊎ (level_at stack k < top)

-- what holds on the way down, where the nogood has these literals, and these entries are left
pub record IsUnderWay (ngs : List Nogood) (stack : List Entry) (struck : List Lit) (top : ℕ) (rest : List Entry) (marks : List Bool)
    (count : ℕ) (lits : List Lit) (back : ℕ) : Type 0 where
  pub arises : Arises ngs stack struck (map lit_of (pending marks rest) ++ lits)
  pub bounded : (k : Lit) → k ∈ (map lit_of (pending marks rest) ++ lits) → count_to (first_place stack k.atom) ≤ came_with stack struck
  pub are_marks : AreMarks top marks rest
  pub long : length marks ≡ length stack
  pub count_is : count ≡ open_at top (pending marks rest)
  pub kept : AreKept stack rest top lits
  pub back_is : IsBack stack top lits back
  pub progress : IsBefore stack top lits count ⊎ IsAfter stack top lits count

-- ---- sets

-- a list that has the same members arises as well
pub arises_same : (ngs : List Nogood) (stack : List Entry) (struck ls ms : List Lit) → Arises ngs stack struck ls → SameSet ls ms
    → Arises ngs stack struck ms
arises_same ngs stack struck ls ms (itself ks same) to =
    itself ms (record { to = λ k i. to.to k (same.to k i); back = λ k i. same.back k (to.back k i) })
arises_same ngs stack struck ls ms (by_reason l ng ks js h r is) to = by_reason l ng ks ms h r (record {
  among = is.among;
  denied = is.denied;
  from = λ k i. is.from k (to.back k i);
  left = λ k i n. to.to k (is.left k i n);
  added = λ k i n. to.to k (is.added k i n);
})

-- one member more at the end
pub in_push : (xs : List Lit) (y x : Lit) → x ∈ (xs ++ y ∷ []) → (x ∈ xs) ⊎ (x ≡ y)
in_push xs y x i = elim (∈-append_cases x xs (y ∷ []) i) [ inl h ↦ inl h | inr h ↦ inr (in_single h) ]

-- of another atom than all others
pub no_atom_push : (xs : List Lit) (y : Lit) → HasNoAtomTwice xs → ((x : Lit) → x ∈ xs → ¬ (x.atom ≡ y.atom))
    → HasNoAtomTwice (xs ++ y ∷ [])
no_atom_push [] y h n = ((λ z. z), tt)
no_atom_push (x ∷ xs) y h n = (first, no_atom_push xs y h.1 (λ z i. n z (inr i)))
  where
    first : ¬ (x.atom ∈ map atom_of (xs ++ y ∷ []))
    first i = let z = ∈-map_from atom_of x.atom (xs ++ y ∷ []) i in elim (in_push xs y z.0 z.1) [
      | inl j ↦ h.0 (subst (λ (a : ℕ). a ∈ map atom_of xs) (sym z.2) (∈-map atom_of z.0 xs j))
      | inr e ↦ n x (inl refl) (z.2 ∙ ap atom_of e)
    ]

-- ---- counts

-- where none of the entries is at the level, none is open there
pub none_open : (top : ℕ) (es : List Entry) → ((f : Entry) → f ∈ es → ¬ (f.level ≡ top)) → open_at top es ≡ 0
none_open top [] h = refl
none_open top (e ∷ es) h = go (is_open_at top e) refl (none_open top es (λ f i. h f (inr i)))
  where
    go : (b : Bool) → is_open_at top e ≡ b → open_at top es ≡ 0 → open_at top es + one_if b ≡ 0
    go true k z = absurd (h e (inl refl) (nat_eq-true e.level top (and_left (nat_eq e.level top) (not (is_closed e.why)) k)))
    go false k z = omega (arith, z)

-- an open one among them is counted
pub some_open : (top : ℕ) (es : List Entry) (f : Entry) → f ∈ es → is_open_at top f ≡ true → 1 ≤ open_at top es
some_open top [] f i h = absurd i
some_open top (e ∷ es) f (inl q) h = let k : one_if (is_open_at top e) ≡ 1 = ap one_if (ap (is_open_at top) (sym q) ∙ h) in omega (arith, k)
some_open top (e ∷ es) f (inr i) h = let k = some_open top es f i h in omega (arith, k)

-- more marks, more that is pending
pub pending_grows : (old new : List Bool) (rest : List Entry) → ((p : ℕ) → get_or old p false ≡ true → get_or new p false ≡ true)
    → (f : Entry) → f ∈ pending old rest → f ∈ pending new rest
pending_grows old new [] h f i = i
pending_grows old new (e ∷ rest) h f i = elim (bool_cases (get_or old (length rest) false)) [
  | inl k ↦ subst (λ (es : List Entry). f ∈ es) (sym (pending_yes new e rest (h (length rest) k))) (
      elim (let j : f ∈ (e ∷ pending old rest) = subst (λ (es : List Entry). f ∈ es) (pending_yes old e rest k) i in j) [
        | inl q ↦ inl q
        | inr j ↦ inr (pending_grows old new rest h f j)
      ])
  | inr k ↦ pending_more new e rest f (pending_grows old new rest h f (subst (λ (es : List Entry). f ∈ es) (pending_no old e rest k) i))
]

-- and no fewer are open
pub open_grows : (top : ℕ) (old new : List Bool) (rest : List Entry) → ((p : ℕ) → get_or old p false ≡ true → get_or new p false ≡ true)
    → open_at top (pending old rest) ≤ open_at top (pending new rest)
open_grows top old new [] h = omega arith
open_grows top old new (e ∷ rest) h = go (get_or old (length rest) false) refl (get_or new (length rest) false) refl
    (open_grows top old new rest h) (h (length rest))
  where
    go : (b : Bool) → get_or old (length rest) false ≡ b → (c : Bool) → get_or new (length rest) false ≡ c
        → open_at top (pending old rest) ≤ open_at top (pending new rest)
        → (get_or old (length rest) false ≡ true → get_or new (length rest) false ≡ true)
        → open_at top (cond b (e ∷ pending old rest) (pending old rest)) ≤ open_at top (cond c (e ∷ pending new rest) (pending new rest))
    go true p true q le k = omega (arith, le)
    go true p false q le k = (let r = sym q ∙ k p in cc)
    go false p true q le k = omega (arith, le)
    go false p false q le k = le

-- ---- a step

module _ (ngs : List Nogood) (stack above rest : List Entry) (e : Entry) (atoms : ℕ) (are : IsStackOf atoms stack)
    (cut : stack ≡ above ++ e ∷ rest)
    (struck : List Lit) (top : ℕ) (marks : List Bool) (count : ℕ) (lits : List Lit) (back : ℕ)
    (u : IsUnderWay ngs stack struck top (e ∷ rest) marks count lits back) where
  -- the entry and those below it are a stack
  below : IsStackOf atoms (e ∷ rest)
  below = stack_below atoms above (e ∷ rest) (subst (λ s. IsStackOf atoms s) cut are)

  -- what holds below holds on the whole
  whole_holds : (l : Lit) → Holds rest l → Holds stack l
  whole_holds l h = subst (λ s. Holds s l) (sym cut)
      (holds_above atoms above (e ∷ rest) (subst (λ s. IsStackOf atoms s) cut are) l (holds_more atoms e rest below.0 l h))

  -- what is first below is first on the whole
  whole_first : (p : ℕ) (f : Entry) → IsFirstAt (e ∷ rest) p f → IsFirstAt stack p f
  whole_first p f h = subst (λ s. IsFirstAt s p f) (sym cut) (first_above above (e ∷ rest) p f h)

  -- what is kept stays so
  kept_on : AreKept stack rest top lits
  kept_on = record {
    passed = λ k i. none_below e rest k.atom (u.kept.passed k i);
    hold = u.kept.hold;
    none_closed = u.kept.none_closed;
    levels = u.kept.levels;
    once = u.kept.once;
  }

  -- an entry that isn't marked is passed
  pub step_skip : get_or marks (length rest) false ≡ false → IsUnderWay ngs stack struck top rest marks count lits back
  step_skip off = record {
    arises = subst (λ (es : List Entry). Arises ngs stack struck (map lit_of es ++ lits)) same u.arises;
    bounded = λ k i. u.bounded k (subst (λ (es : List Entry). k ∈ (map lit_of es ++ lits)) (sym same) i);
    are_marks = u.are_marks.1;
    long = u.long;
    count_is = u.count_is ∙ ap (open_at top) same;
    kept = kept_on;
    back_is = u.back_is;
    progress = u.progress;
  }
    where
      same : pending marks (e ∷ rest) ≡ pending marks rest
      same = pending_no marks e rest off

  module _ (yes : get_or marks (length rest) false ≡ true) where
    -- the entry is pending, with those below
    split : pending marks (e ∷ rest) ≡ e ∷ pending marks rest
    split = pending_yes marks e rest yes

    -- it gave its atom the first value
    free : value_of rest e.atom ≡ None
    free = (u.are_marks.0 yes).0

    -- it is at the highest level at most
    low : e.level ≤ top
    low = (u.are_marks.0 yes).1

    -- it is the first of its atom on the whole stack
    here : IsFirstAt stack (length rest) e
    here = whole_first (length rest) e (inl (refl, refl, free))

    -- its literal holds
    pub literal_holds : Holds stack (lit_of e)
    literal_holds = first_holds atoms stack are (length rest) e here

    -- at its level
    literal_level : level_at stack (lit_of e) ≡ e.level
    literal_level = level_told atoms stack are (length rest) e here

    -- its literal is among those that are to be looked at
    pub literal_in : lit_of e ∈ (map lit_of (pending marks (e ∷ rest)) ++ lits)
    literal_in = subst (λ (es : List Entry). lit_of e ∈ (map lit_of es ++ lits)) (sym split) (inl refl)

    -- how many are open with it and below it
    count_split : count ≡ open_at top (pending marks rest) + one_if (is_open_at top e)
    count_split = u.count_is ∙ ap (open_at top) split

    -- the call that passes it can be made
    pub may_pass : one_if (is_open_at top e) ≤ count
    may_pass = let k = count_split in omega (arith, k)

    -- another pending entry is of another atom
    other_atom : (f : Entry) (p : ℕ) → IsFirstAt rest p f → ¬ (f.atom ≡ e.atom)
    other_atom f p h same = let w = first_valued rest p f h in let k : value_of rest f.atom ≡ None = ap (value_of rest) same
        ∙ free in (let q = sym w.1 ∙ k in cc)

    -- what is pending below is at a level that was open there
    low_below : (f : Entry) (p : ℕ) → IsFirstAt rest p f → f.level ≤ level_of rest
    low_below f p h = let a = level_told atoms rest below.1 p f h in let b = level_le rest f.atom in omega (arith, a, b)

    -- an entry that opens a level has no other of its level, or of the highest, below
    none_beside : opened e.why ≡ 1 → (ms : List Bool) → AreMarks top ms rest → open_at top (pending ms rest) ≡ 0
    none_beside opens ms marks_are = none_open top (pending ms rest) (λ f i q. (
        let h = pending_first top ms rest marks_are f i in
        let a = low_below f h.0.0 h.0.1 in
        let b = below.0.level_told in
        absurd (omega (arith, a, b, opens, low, q))))

    -- where the entry is closed, what is of the highest level was kept
    closed_after : is_closed e.why ≡ true → IsAfter stack top lits count
    closed_after closed = elim u.progress [
      | inl h ↦ absurd (let a = h.some in let b = count_split in let c =
          none_beside (opens_one e.why closed) marks u.are_marks.1 in let d = not_open closed in omega (arith, a, b, c, d))
      | inr h ↦ h
    ]
      where
        not_open : is_closed e.why ≡ true → one_if (is_open_at top e) ≡ 0
        not_open h = ap (λ b. one_if (nat_eq e.level top && not b)) h ∙ ap one_if (and_false (nat_eq e.level top))

    -- where the literal is kept at the highest level, no other open one is left there
    pub alone_below : is_closed e.why ≡ false → (opened e.why ≡ 1) ⊎ ((¬ (e.level ≡ top)) ⊎ (count ≤ 1)) → e.level ≡ top
        → open_at top (pending marks rest) ≡ 0
    alone_below plain (inl opens) at = none_beside opens marks u.are_marks.1
    alone_below plain (inr (inl off)) at = absurd (off at)
    alone_below plain (inr (inr few)) at =
        let a = count_split in
        let b : one_if (is_open_at top e) ≡ 1 = ap one_if (ap (λ b. nat_eq e.level top && not b) plain
        ∙ ap (λ b. b && true) (subst (λ n. nat_eq e.level n ≡ true) at (nat_eq-same e.level))) in
        omega (arith, a, b, few)

    -- the literal is resolved with a reason, whose other literals hold below
    module _ (ng : Nogood) (reason : IsReasonOf ngs stack e.atom ng) (denied : opposite (lit_of e) ∈ ng.lits)
        (others : (l : Lit) → l ∈ ng.lits → (l ≡ opposite (lit_of e)) ⊎ Holds rest l)
        (marks_now : List Bool) (more : AreMarked top rest marks marks_now ng.lits) where
      -- a literal that holds below is of another atom
      other_lit : (k : Lit) → Holds rest k → ¬ (k.atom ≡ e.atom)
      other_lit k h same = let z : value_of rest k.atom ≡ None = ap (value_of rest) same ∙ free in (let q = sym h.1 ∙ z in cc)

      -- what is marked below is of other atoms
      first_in : (ms : List Bool) → AreMarks top ms rest → (f : Entry) → f ∈ pending ms rest → ¬ (f.atom ≡ e.atom)
      first_in ms marks_are f i = let h = pending_first top ms rest marks_are f i in other_atom f h.0.0 h.0.1

      -- the marks stand at first values
      are_now : AreMarks top marks_now rest
      are_now = more.are_marks u.are_marks.1

      -- what is pending now is the resolvent
      resolvent : IsResolvent (lit_of e) (map lit_of (pending marks (e ∷ rest)) ++ lits) ng.lits
          (map lit_of (pending marks_now rest) ++ lits)
      resolvent = record { among = literal_in; denied = denied; from = from; left = left; added = added }
        where
          in_old : (k : Lit) → k ∈ (map lit_of (e ∷ pending marks rest) ++ lits) → k ∈ (map lit_of (pending marks (e ∷ rest)) ++ lits)
          in_old k i = subst (λ (es : List Entry). k ∈ (map lit_of es ++ lits)) (sym split) i

          by_pending : (k : Lit) → (f : Entry) × (f ∈ pending marks_now rest) × (k ≡ lit_of f)
              → ((k ∈ (map lit_of (pending marks (e ∷ rest)) ++ lits)) × (¬ (k ≡ lit_of e)))
              ⊎ ((k ∈ ng.lits) × (¬ (k ≡ opposite (lit_of e))))
          by_pending k z = elim (more.known z.0 z.1) [
            | inl j ↦ inl (
              in_old k (inr (∈-append_left k (map lit_of (pending marks rest)) lits
                  (subst (λ (x : Lit). x ∈ map lit_of (pending marks rest)) (sym z.2) (∈-map lit_of z.0 (pending marks rest) j)))),
              λ q. first_in marks_now are_now z.0 z.1 (ap atom_of (sym z.2) ∙ ap atom_of q),
            )
            | inr j ↦ inr (
              subst (λ (x : Lit). x ∈ ng.lits) (sym z.2) j,
              λ q. first_in marks_now are_now z.0 z.1
                  (ap atom_of (sym z.2) ∙ ap atom_of q),
            )
          ]

          from : (k : Lit) → k ∈ (map lit_of (pending marks_now rest) ++ lits)
              → ((k ∈ (map lit_of (pending marks (e ∷ rest)) ++ lits)) × (¬ (k ≡ lit_of e)))
              ⊎ ((k ∈ ng.lits) × (¬ (k ≡ opposite (lit_of e))))
          from k i = elim (∈-append_cases k (map lit_of (pending marks_now rest)) lits i) [
            | inl j ↦ by_pending k (∈-map_from lit_of k (pending marks_now rest) j)
            | inr j ↦ inl (
              ∈-append_right k (map lit_of (pending marks (e ∷ rest))) lits j,
              λ q. none_other e rest k.atom
                  (u.kept.passed k j) (sym (ap atom_of q)),
            )
          ]

          left_map : (k : Lit) → ¬ (k ≡ lit_of e) → (f : Entry) × (f ∈ (e ∷ pending marks rest)) × (k ≡ lit_of f)
              → k ∈ (map lit_of (pending marks_now rest) ++ lits)
          left_map k n z = elim z.1 [
            | inl q ↦ absurd (n (z.2 ∙ ap lit_of q))
            | inr j ↦ ∈-append_left k (map lit_of (pending marks_now rest)) lits
                (subst (λ (x : Lit). x ∈ map lit_of (pending marks_now rest)) (sym z.2)
                (∈-map lit_of z.0 (pending marks_now rest) (pending_grows marks marks_now rest more.kept z.0 j)))
          ]

          left : (k : Lit) → k ∈ (map lit_of (pending marks (e ∷ rest)) ++ lits) → (¬ (k ≡ lit_of e))
              → k ∈ (map lit_of (pending marks_now rest) ++ lits)
          left k i n = elim (∈-append_cases k (map lit_of (pending marks (e ∷ rest))) lits i) [
            | inl j ↦ left_map k n (∈-map_from lit_of k (e ∷ pending marks rest) (subst (λ (es : List Entry). k ∈ map lit_of es) split j))
            | inr j ↦ ∈-append_right k (map lit_of (pending marks_now rest)) lits j
          ]

          added : (k : Lit) → k ∈ ng.lits → (¬ (k ≡ opposite (lit_of e))) → k ∈ (map lit_of (pending marks_now rest) ++ lits)
          added k i n = elim (others k i) [
            | inl q ↦ absurd (n q)
            | inr h ↦ (let z = more.all k i h in
                ∈-append_left k (map lit_of (pending marks_now rest)) lits
                (subst (λ (x : Lit). x ∈ map lit_of (pending marks_now rest)) z.2 (∈-map lit_of z.0 (pending marks_now rest) z.1)))
          ]

      -- what holds below came no later than the last literal of the nogood
      early : (k : Lit) → Holds rest k → count_to (first_place stack k.atom) ≤ came_with stack struck
      early k h =
          let by = holds_by atoms rest below.1 k h in
          let q : first_place stack k.atom ≡ Some by.place = ap (λ s. first_place s k.atom) cut
          ∙ place_above above (e ∷ rest) k.atom by.place (place_more e rest k.atom by.place by.is) in
          let a : count_to (first_place stack k.atom) ≡ by.place + 1 = ap count_to q in
          let b = first_low rest by.place by.entry by.at in
          let c = u.bounded (lit_of e) literal_in in
          let d : count_to (first_place stack e.atom) ≡ length rest + 1 = ap count_to place_here in
          omega (arith, a, b, c, d)
        where
          place_here : first_place stack e.atom ≡ Some (length rest)
          place_here = ap (λ s. first_place s e.atom) cut ∙ place_above above (e ∷ rest) e.atom (length rest) (
              ap (λ b. cond b (or_place (first_place rest e.atom) (length rest)) (first_place rest e.atom)) (nat_eq-same e.atom)
              ∙ ap (λ o. or_place o (length rest)) (no_place rest e.atom free))

      -- none of it came later than the last literal of the struck nogood
      bounded_now : (k : Lit) → k ∈ (map lit_of (pending marks_now rest) ++ lits)
          → count_to (first_place stack k.atom) ≤ came_with stack struck
      bounded_now k i = elim (resolvent.from k i) [
        | inl h ↦ u.bounded k h.0
        | inr h ↦ elim (others k h.0) [ inl q ↦ absurd (h.1 q) | inr holds ↦ early k holds ]
      ]

      -- a step with a reason
      pub step_resolve : (count_now : ℕ) → count_now ≡ open_at top (pending marks_now rest) → (is_closed e.why ≡ true) ⊎ (1 < count)
          → IsUnderWay ngs stack struck top rest marks_now count_now lits back
      step_resolve count_now now case = record {
        arises = by_reason (lit_of e) ng (map lit_of (pending marks (e ∷ rest)) ++ lits)
            (map lit_of (pending marks_now rest) ++ lits) u.arises reason resolvent;
        bounded = bounded_now;
        are_marks = are_now;
        long = more.same_length ∙ u.long;
        count_is = now;
        kept = kept_on;
        back_is = u.back_is;
        progress = elim case [ inl closed ↦ inr (after closed) | inr many ↦ inl (before many) ];
      }
        where
          after : is_closed e.why ≡ true → IsAfter stack top lits count_now
          after closed =
              let h = closed_after closed in
              record {
                none = now ∙ none_beside (opens_one e.why closed) marks_now are_now;
                last = h.last;
                among = h.among;
                at_top = h.at_top;
                others = h.others;
              }

          one : (b : Bool) → one_if b ≤ 1
          one true = omega arith
          one false = omega arith

          before : 1 < count → IsBefore stack top lits count_now
          before many = elim u.progress [
            | inl h ↦ record {
              some = (let a = count_split in let b = open_grows top marks marks_now rest more.kept in let c =
                  one (is_open_at top e) in omega (arith, a, b, c, many, now));
              none_kept = h.none_kept;
            }
            | inr h ↦ absurd (let a = h.none in omega (arith, a, many))
          ]

    -- the literal is kept: the atom isn't closed, and where it is at the highest level, no other open one is left there
    module _ (not_closed : ¬ IsClosed stack e.atom) (alone : e.level ≡ top → open_at top (pending marks rest) ≡ 0) (count_now : ℕ)
        (now : count_now ≡ count - one_if (is_open_at top e)) (plain : is_closed e.why ≡ false)
        (back_now : ℕ) (back_case : IsBackWith back e.level top back_now) where
      -- so many open ones are left
      count_left : count_now ≡ open_at top (pending marks rest)
      count_left = let a = count_split in omega (arith, a, now)

      -- the literals are the same, in another order
      same : SameSet (map lit_of (pending marks (e ∷ rest)) ++ lits) (map lit_of (pending marks rest) ++ (lits ++ lit_of e ∷ []))
      same = subst (λ (es : List Entry). SameSet (map lit_of es ++ lits) (map lit_of (pending marks rest) ++ (lits ++ lit_of e ∷ [])))
          (sym split) (record { to = to; back = from })
        where
          to : (k : Lit) → k ∈ (map lit_of (e ∷ pending marks rest) ++ lits)
              → k ∈ (map lit_of (pending marks rest) ++ (lits ++ lit_of e ∷ []))
          to k (inl q) = ∈-append_right k (map lit_of (pending marks rest)) (lits ++ lit_of e ∷ [])
              (∈-append_right k lits (lit_of e ∷ []) (inl q))
          to k (inr i) = elim (∈-append_cases k (map lit_of (pending marks rest)) lits i) [
            | inl j ↦ ∈-append_left k (map lit_of (pending marks rest)) (lits ++ lit_of e ∷ []) j
            | inr j ↦ ∈-append_right k (map lit_of (pending marks rest)) (lits ++ lit_of e ∷ []) (∈-append_left k lits (lit_of e ∷ []) j)
          ]

          from : (k : Lit) → k ∈ (map lit_of (pending marks rest) ++ (lits ++ lit_of e ∷ []))
              → k ∈ (map lit_of (e ∷ pending marks rest) ++ lits)
          from k i = elim (∈-append_cases k (map lit_of (pending marks rest)) (lits ++ lit_of e ∷ []) i) [
            | inl j ↦ inr (∈-append_left k (map lit_of (pending marks rest)) lits j)
            | inr j ↦ elim (in_push lits (lit_of e) k j) [
              | inl m ↦ inr (∈-append_right k (map lit_of (pending marks rest)) lits m)
              | inr q ↦ inl q
            ]
          ]

      -- what is kept with it
      kept_more : AreKept stack rest top (lits ++ lit_of e ∷ [])
      kept_more = record {
        passed = λ k i. elim (in_push lits (lit_of e) k i)
            [ inl j ↦ none_below e rest k.atom (u.kept.passed k j) | inr q ↦ ap (λ (x : Lit). value_of rest x.atom) q ∙ free ];
        hold = λ k i. elim (in_push lits (lit_of e) k i) [ inl j ↦ u.kept.hold k j | inr q ↦ subst (Holds stack) (sym q) literal_holds ];
        none_closed = λ k i. elim (in_push lits (lit_of e) k i)
            [ inl j ↦ u.kept.none_closed k j | inr q ↦ subst (λ (x : Lit). ¬ IsClosed stack x.atom) (sym q) not_closed ];
        levels = λ k i. elim (in_push lits (lit_of e) k i) [
          | inl j ↦ u.kept.levels k j
          | inr q ↦ subst (λ (x : Lit). level_at stack x ≤ top) (sym q) (let a = literal_level in omega (arith, a, low))
        ];
        once = no_atom_push lits (lit_of e) u.kept.once (λ x i q. none_other e rest x.atom (u.kept.passed x i) (sym q));
      }

      -- what was kept is so still
      in_more : (k : Lit) → k ∈ lits → k ∈ (lits ++ lit_of e ∷ [])
      in_more k i = ∈-append_left k lits (lit_of e ∷ []) i

      -- and so is it
      itself_in : lit_of e ∈ (lits ++ lit_of e ∷ [])
      itself_in = ∈-append_right (lit_of e) lits (lit_of e ∷ []) (inl refl)

      -- the level to go back to with it
      back_more : IsBack stack top (lits ++ lit_of e ∷ []) back_now
      back_more = elim back_case [ inl h ↦ lower h.0 h.1 | inr h ↦ at_top h.0 h.1 ]
        where
          lower : e.level < top → back_now ≡ max back e.level → IsBack stack top (lits ++ lit_of e ∷ []) back_now
          lower less is = record {
            below = λ k i m. elim (in_push lits (lit_of e) k i) [
              | inl j ↦ (let a = u.back_is.below k j m in omega (arith, a, is))
              | inr q ↦ (let a : level_at stack k ≡ level_at stack (lit_of e) = ap (level_at stack) q in let b =
                  literal_level in omega (arith, a, b, is))
            ];
            reached = elim (larger back e.level) [
              | inl h ↦ elim u.back_is.reached [ inl z ↦ inl (is ∙ h ∙ z) | inr z ↦ inr (z.0, in_more z.0 z.1, z.2 ∙ sym (is ∙ h)) ]
              | inr h ↦ inr (lit_of e, itself_in, literal_level ∙ sym (is ∙ h))
            ];
            low = let a = u.back_is.low in omega (arith, a, less, is);
          }

          at_top : ¬ (e.level < top) → back_now ≡ back → IsBack stack top (lits ++ lit_of e ∷ []) back_now
          at_top more is = record {
            below = λ k i m. elim (in_push lits (lit_of e) k i) [
              | inl j ↦ (let a = u.back_is.below k j m in omega (arith, a, is))
              | inr q ↦ absurd (more (let a : level_at stack k ≡ level_at stack (lit_of e) = ap (level_at stack) q in let b =
                  literal_level in omega (arith, a, b, m)))
            ];
            reached = elim u.back_is.reached [ inl z ↦ inl (is ∙ z) | inr z ↦ inr (z.0, in_more z.0 z.1, z.2 ∙ sym is) ];
            low = let a = u.back_is.low in omega (arith, a, is);
          }

      -- at the highest level it counts
      open_yes : e.level ≡ top → one_if (is_open_at top e) ≡ 1
      open_yes at = ap one_if (ap (λ b. nat_eq e.level top && not b) plain
          ∙ ap (λ b. b && true) (subst (λ n. nat_eq e.level n ≡ true) at (nat_eq-same e.level)))

      -- below it does not
      open_not : ¬ (e.level ≡ top) → one_if (is_open_at top e) ≡ 0
      open_not off = go (nat_eq e.level top) refl
        where
          go : (b : Bool) → nat_eq e.level top ≡ b → one_if (b && not (is_closed e.why)) ≡ 0
          go true h = absurd (off (nat_eq-true e.level top h))
          go false h = refl

      -- it is at the highest level or below
      level_cases : (e.level ≡ top) ⊎ (e.level < top)
      level_cases = grind (arith, low)

      -- so one is left at the highest level, or one was kept there
      progress_more : IsBefore stack top (lits ++ lit_of e ∷ []) count_now ⊎ IsAfter stack top (lits ++ lit_of e ∷ []) count_now
      progress_more = elim level_cases [ inl at ↦ inr (last_one at) | inr less ↦ on less ]
        where
          last_one : e.level ≡ top → IsAfter stack top (lits ++ lit_of e ∷ []) count_now
          last_one at = elim u.progress [
            | inl h ↦ record {
              none = count_left ∙ alone at;
              last = lit_of e;
              among = itself_in;
              at_top = literal_level ∙ at;
              others = λ k i. elim (in_push lits (lit_of e) k i) [ inl j ↦ inr (h.none_kept k j) | inr q ↦ inl q ];
            }
            | inr h ↦ absurd (let a = h.none in let b = count_split in let c = open_yes at in omega (arith, a, b, c))
          ]

          here_low : (k : Lit) → k ≡ lit_of e → e.level < top → level_at stack k < top
          here_low k q less = let a : level_at stack k ≡ level_at stack (lit_of e) = ap (level_at stack) q in let b =
              literal_level in omega (arith, a, b, less)

          on : e.level < top → IsBefore stack top (lits ++ lit_of e ∷ []) count_now ⊎ IsAfter stack top (lits ++ lit_of e ∷ []) count_now
          on less = elim u.progress [
            | inl h ↦ inl (record {
              some = (let a = h.some in let b = open_not (λ q. absurd (omega (arith, q, less))) in omega (arith, a, b, now));
              none_kept = λ k i. elim (in_push lits (lit_of e) k i) [ inl j ↦ h.none_kept k j | inr q ↦ here_low k q less ];
            })
            | inr h ↦ inr (record {
              none = (let a = h.none in let b = open_not (λ q. absurd (omega (arith, q, less))) in omega (arith, a, b, now));
              last = h.last;
              among = in_more h.last h.among;
              at_top = h.at_top;
              others = λ k i. elim (in_push lits (lit_of e) k i) [ inl j ↦ h.others k j | inr q ↦ inr (here_low k q less) ];
            })
          ]

      -- a step that keeps the literal
      pub step_keep : IsUnderWay ngs stack struck top rest marks count_now (lits ++ lit_of e ∷ []) back_now
      step_keep = record {
        arises = arises_same ngs stack struck (map lit_of (pending marks (e ∷ rest)) ++ lits)
            (map lit_of (pending marks rest) ++ (lits ++ lit_of e ∷ [])) u.arises same;
        bounded = λ k i. u.bounded k (same.back k i);
        are_marks = u.are_marks.1;
        long = u.long;
        count_is = count_left;
        kept = kept_more;
        back_is = back_more;
        progress = progress_more;
      }
