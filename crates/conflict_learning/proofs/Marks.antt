-- Marks on the entries of a stack.
use Rattle.std.proofs.Common.{◌≡◌, ℕ, ◌+◌, ◌<◌, ◌≤◌, ◌⊎◌, Bool, true, false, cond, List, [], ◌∷◌, length, set, get_or, refl, sym, ◌∙◌, ap, subst, inl, inr, arith}
use Rattle.std.proofs.lemmas.List.{get_or-set_same, get_or-set_other}
use Rattle.lists.specs.Lists.{◌∈◌}
use Rattle.search_values.specs.declared.entry.Entry.{Entry}
use Rattle.search_values.proofs.Basics.{bool_cases}
use Rattle.conflict_learning.specs.Pending.{IsFirstAt, pending, is_open_at, one_if, open_at, AreMarks}
use Rattle.conflict_learning.proofs.Stacks.{first_low}

-- a marked entry is pending, and another isn't
pub pending_yes : (marks : List Bool) (e : Entry) (rest : List Entry) → get_or marks (length rest) false ≡ true
    → pending marks (e ∷ rest) ≡ e ∷ pending marks rest
pending_yes marks e rest h = ap (λ b. cond b (e ∷ pending marks rest) (pending marks rest)) h

-- one that isn't marked isn't pending
pub pending_no : (marks : List Bool) (e : Entry) (rest : List Entry) → get_or marks (length rest) false ≡ false
    → pending marks (e ∷ rest) ≡ pending marks rest
pending_no marks e rest h = ap (λ b. cond b (e ∷ pending marks rest) (pending marks rest)) h

-- what is pending below is so on the whole
pub pending_more : (marks : List Bool) (e : Entry) (rest : List Entry) (f : Entry) → f ∈ pending marks rest → f ∈ pending marks (e ∷ rest)
pending_more marks e rest f h = elim (bool_cases (get_or marks (length rest) false)) [
  | inl k ↦ subst (λ (es : List Entry). f ∈ es) (sym (pending_yes marks e rest k)) (inr h)
  | inr k ↦ subst (λ (es : List Entry). f ∈ es) (sym (pending_no marks e rest k)) h
]

-- a first value whose place is marked is pending
pub pending_at : (marks : List Bool) (stack : List Entry) (p : ℕ) (f : Entry) → IsFirstAt stack p f → get_or marks p false ≡ true
    → f ∈ pending marks stack
pending_at marks [] p f h m = absurd h
pending_at marks (e ∷ rest) p f (inl h) m = subst (λ (es : List Entry). f ∈ es)
    (sym (pending_yes marks e rest (subst (λ n. get_or marks n false ≡ true) h.0 m))) (inl h.1)
pending_at marks (e ∷ rest) p f (inr h) m = pending_more marks e rest f (pending_at marks rest p f h m)

-- what is pending is a first value
pub pending_first : (top : ℕ) (marks : List Bool) (stack : List Entry) → AreMarks top marks stack → (f : Entry) → f ∈ pending marks stack
    → ((p : ℕ) × IsFirstAt stack p f) × (f.level ≤ top)
pending_first top marks [] are f i = absurd i
pending_first top marks (e ∷ rest) are f i = elim (bool_cases (get_or marks (length rest) false)) [
  | inl k ↦ elim (let j : f ∈ (e ∷ pending marks rest) = subst (λ (es : List Entry). f ∈ es) (pending_yes marks e rest k) i in j) [
    | inl q ↦ ((length rest, inl (refl, q, (are.0 k).0)), subst (λ (x : Entry). x.level ≤ top) (sym q) (are.0 k).1)
    | inr j ↦ below (pending_first top marks rest are.1 f j)
  ]
  | inr k ↦ below (pending_first top marks rest are.1 f (subst (λ (es : List Entry). f ∈ es) (pending_no marks e rest k) i))
]
  where
    below : ((p : ℕ) × IsFirstAt rest p f) × (f.level ≤ top) → ((p : ℕ) × IsFirstAt (e ∷ rest) p f) × (f.level ≤ top)
    below h = ((h.0.0, inr h.0.1), h.1)

-- ---- a mark more

-- a place below another is another
other : (n p : ℕ) → n < p → ¬ (n ≡ p)
other n p h e = absurd (omega (arith, h, e))

-- a mark at or above the height of a stack changes nothing there
pub pending_past : (marks : List Bool) (rest : List Entry) (p : ℕ) → length rest ≤ p → pending (set marks p true) rest ≡ pending marks rest
pending_past marks [] p h = refl
pending_past marks (e ∷ rest) p h =
    let low : length rest < p = omega (arith, h) in
    ap (λ b. cond b (e ∷ pending (set marks p true) rest) (pending (set marks p true) rest))
    (get_or-set_other marks p (length rest) true false (other (length rest) p low))
    ∙ ap (λ es. cond (get_or marks (length rest) false) (e ∷ es) es) (pending_past marks rest p (omega (arith, low)))

-- nor does it make the marks below wrong
pub marks_past : (top : ℕ) (marks : List Bool) (rest : List Entry) (p : ℕ) → length rest ≤ p → AreMarks top marks rest
    → AreMarks top (set marks p true) rest
marks_past top marks [] p h are = tt
marks_past top marks (e ∷ rest) p h are =
    let low : length rest < p = omega (arith, h) in (
      (λ m. are.0 (sym (get_or-set_other marks p (length rest) true false (other (length rest) p low)) ∙ m)),
      marks_past top marks rest p
          (omega (arith, low)) are.1,
    )

-- what a mark at the place of a first value adds
pub record IsMore (top : ℕ) (marks : List Bool) (rest : List Entry) (p : ℕ) (f : Entry) : Type 0 where
  pub known : (e : Entry) → e ∈ pending (set marks p true) rest → (e ∈ pending marks rest) ⊎ (e ≡ f)
  pub count : open_at top (pending (set marks p true) rest) ≡ open_at top (pending marks rest) + one_if (is_open_at top f)
  pub are : AreMarks top marks rest → f.level ≤ top → AreMarks top (set marks p true) rest

-- it adds just this
pub is_more : (top : ℕ) (marks : List Bool) (rest : List Entry) (p : ℕ) (f : Entry) → IsFirstAt rest p f → p < length marks
    → get_or marks p false ≡ false → IsMore top marks rest p f
is_more top marks [] p f h low free = absurd h
is_more top marks (e ∷ rest) p f (inl h) low free = record {
  known = λ g i. elim (let j : g ∈ (e ∷ pending marks rest) = subst (λ (es : List Entry). g ∈ es) new i in j) [
    | inl q ↦ inr (q ∙ sym h.1)
    | inr j ↦ inl (subst (λ (es : List Entry). g ∈ es) (sym old) j)
  ];
  count = ap (open_at top) new ∙ ap (λ (x : Entry). open_at top (pending marks rest) + one_if (is_open_at top x)) (sym h.1)
      ∙ ap (λ (es : List Entry). open_at top es + one_if (is_open_at top f)) (sym old);
  are = λ are le. (
    (λ m. (h.2, subst (λ (x : Entry). x.level ≤ top) h.1 le)),
    marks_past top marks rest p
        (let k = h.0 in omega (arith, k)) are.1,
  );
}
  where
    here : get_or (set marks p true) (length rest) false ≡ true
    here = subst (λ n. get_or (set marks p true) n false ≡ true) h.0 (get_or-set_same marks p true false low)

    new : pending (set marks p true) (e ∷ rest) ≡ e ∷ pending marks rest
    new = pending_yes (set marks p true) e rest here ∙ ap (λ (es : List Entry). e ∷ es)
        (pending_past marks rest p (let k = h.0 in omega (arith, k)))

    old : pending marks (e ∷ rest) ≡ pending marks rest
    old = pending_no marks e rest (subst (λ n. get_or marks n false ≡ false) h.0 free)
is_more top marks (e ∷ rest) p f (inr h) low free = go (get_or marks (length rest) false) refl (is_more top marks rest p f h low free)
  where
    above : p < length rest
    above = first_low rest p f h

    same : get_or (set marks p true) (length rest) false ≡ get_or marks (length rest) false
    same = get_or-set_other marks p (length rest) true false (λ q. absurd (omega (arith, above, q)))

    go : (b : Bool) → get_or marks (length rest) false ≡ b → IsMore top marks rest p f → IsMore top marks (e ∷ rest) p f
    go true k below = record {
      known = λ g i. elim (let j : g ∈ (e ∷ pending (set marks p true) rest) = subst (λ (es : List Entry). g ∈ es)
          (pending_yes (set marks p true) e rest (same ∙ k)) i in j) [
            | inl q ↦ inl (subst (λ (es : List Entry). g ∈ es) (sym (pending_yes marks e rest k)) (inl q))
            | inr j ↦ elim (below.known g j) [
              | inl m ↦ inl (subst (λ (es : List Entry). g ∈ es) (sym (pending_yes marks e rest k)) (inr m))
              | inr m ↦ inr m
            ]
          ];
      count =
          let a = ap (open_at top) (pending_yes (set marks p true) e rest (same ∙ k)) in
          let b = ap (open_at top) (pending_yes marks e rest k) in
          let c = below.count in
          omega (arith, a, b, c);
      are = λ are le. ((λ m. are.0 k), below.are are.1 le);
    }
    go false k below = record {
      known = λ g i. elim (below.known g (subst (λ (es : List Entry). g ∈ es) (pending_no (set marks p true) e rest (same ∙ k)) i)) [
        | inl m ↦ inl (subst (λ (es : List Entry). g ∈ es) (sym (pending_no marks e rest k)) m)
        | inr m ↦ inr m
      ];
      count = ap (open_at top) (pending_no (set marks p true) e rest (same ∙ k)) ∙ below.count
          ∙ ap (λ (es : List Entry). open_at top es + one_if (is_open_at top f)) (sym (pending_no marks e rest k));
      are = λ are le. ((λ m. are.0 (sym same ∙ m)), below.are are.1 le);
    }

-- no more entries are pending and open than there are
pub open_few : (top : ℕ) (marks : List Bool) (rest : List Entry) → open_at top (pending marks rest) ≤ length rest
open_few top marks [] = omega arith
open_few top marks (e ∷ rest) = (let h = go (get_or marks (length rest) false) (open_few top marks rest) in omega (arith, h))
  where
    one : (b : Bool) → one_if b ≤ 1
    one true = omega arith
    one false = omega arith

    go : (b : Bool) → open_at top (pending marks rest) ≤ length rest
        → open_at top (cond b (e ∷ pending marks rest) (pending marks rest)) ≤ length rest + 1
    go true h = let k = one (is_open_at top e) in omega (arith, h, k)
    go false h = omega (arith, h)
