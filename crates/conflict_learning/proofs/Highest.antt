-- Levels of literals: the highest, the second, and whether a nogood is unit below the highest.
use Rattle.std.proofs.Common.{◌≡◌, ℕ, ◌+◌, ◌<◌, ◌≤◌, max, ◌⊎◌, Bool, true, false, cond, List, [], ◌∷◌, ◌++◌, map, length, take, drop, get_or, refl, sym, ◌∙◌, ap, subst, inl, inr, arith, append_assoc}
use Rattle.std.specs.Prelude.{Some, nat_eq, nat_lt}
use Rattle.std.specs.Option.{option_map}
use Rattle.alpha_outside.specs.declared.literal.Value.{Value}
use Rattle.std.proofs.lemmas.List.{take-append-drop, take_more}
use Rattle.lists.specs.Lists.{◌∈◌}
use Rattle.lists.proofs.ListLemmas.{∈-append_left, ∈-append_right, ∈-map}
use Rattle.alpha_outside.specs.declared.literal.Lit.{Lit}
use Rattle.search_values.specs.declared.entry.Entry.{Entry}
use Rattle.search_values.specs.Values.{value_of, first_level, all_at_0, IsClosed}
use Rattle.search_values.proofs.Basics.{value_cases, and_left, and_right, and_intro, nat_eq-true}
use Rattle.trail.specs.Assigning.{IsStackOf, first_level_of}
use Rattle.nogood_store.specs.Stored.{atom_of, HasNoAtomTwice}
use Rattle.conflict_learning.specs.Analysing.{NoneClosed, level_at, IsUnitBelow, IsSecondLevel}
use Rattle.journal_theory.specs.Resolution.{IsOneHighest}
use Rattle.conflict_learning.specs.Pending.{highest_of, second_of}
use Rattle.conflict_learning.proofs.Stacks.{larger, le_or}
use Rattle.conflict_learning.proofs.Underway.{in_push}

-- an atom with a value has a place in the table
pub valued_placed : (atoms : ℕ) (stack : List Entry) → IsStackOf atoms stack → (a : ℕ) (v : Value) → value_of stack a ≡ Some v → a < atoms
valued_placed atoms [] are a v h = cc
valued_placed atoms (e ∷ rest) are a v h = elim (value_cases e rest a) [
  | inl c ↦ (let k = are.0.placed in let q = c.0 in omega (arith, k, q))
  | inr c ↦ valued_placed atoms rest are.1 a v (sym c.1 ∙ h)
]

-- the level that is read of an atom with a value
pub level_read : (stack : List Entry) (a : ℕ) (v : Value) → value_of stack a ≡ Some v → first_level_of stack a ≡ Some (first_level stack a)
level_read stack a v h = ap (λ o. option_map (λ v. first_level stack a) o) h

-- each level is at most the highest
pub highest_le : (stack : List Entry) (ls : List Lit) (l : Lit) → l ∈ ls → level_at stack l ≤ highest_of stack ls
highest_le stack [] l i = absurd i
highest_le stack (k ∷ ls) l (inl q) = subst (λ (x : Lit). level_at stack x ≤ max (level_at stack k) (highest_of stack ls)) (sym q)
    (omega arith)
highest_le stack (k ∷ ls) l (inr i) = let h = highest_le stack ls l i in omega (arith, h)

-- the highest level is that of a literal, where it isn't 0
pub highest_by : (stack : List Entry) (ls : List Lit) → 0 < highest_of stack ls → (l : Lit) × (l ∈ ls)
    × (level_at stack l ≡ highest_of stack ls)
highest_by stack [] h = absurd (omega (arith, h))
highest_by stack (k ∷ ls) h = elim (larger (level_at stack k) (highest_of stack ls)) [
  | inl q ↦ (k, inl refl, sym q)
  | inr q ↦ (let r = highest_by stack ls (omega (arith, q, h)) in (r.0, inr r.1, r.2 ∙ sym q))
]

-- where the highest is 0, all are at level 0
pub all_0 : (stack : List Entry) (ls : List Lit) → highest_of stack ls ≡ 0 → all_at_0 stack ls ≡ true
all_0 stack [] h = refl
all_0 stack (k ∷ ls) h =
    let a : level_at stack k ≡ 0 = omega (arith, h) in
    and_intro (nat_eq (level_at stack k) 0) (all_at_0 stack ls) (subst (λ n. nat_eq n 0 ≡ true) (sym a) refl)
    (all_0 stack ls (omega (arith, h)))

-- where the highest isn't 0, not all are at level 0
pub not_all_0 : (stack : List Entry) (ls : List Lit) → 0 < highest_of stack ls → ¬ (all_at_0 stack ls ≡ true)
not_all_0 stack [] h k = absurd (omega (arith, h))
not_all_0 stack (l ∷ ls) h k = elim (larger (level_at stack l) (highest_of stack ls)) [
  | inl q ↦ (let z = nat_eq-true (level_at stack l) 0 (and_left (nat_eq (level_at stack l) 0) (all_at_0 stack ls) k) in absurd
      (omega (arith, q, h, z)))
  | inr q ↦ not_all_0 stack ls (omega (arith, q, h)) (and_right (nat_eq (level_at stack l) 0) (all_at_0 stack ls) k)
]

-- ---- the second level

-- a literal below the highest level counts
second_yes : (stack : List Entry) (top : ℕ) (l : Lit) → level_at stack l < top
    → cond (nat_lt (level_at stack l) top) (level_at stack l) 0 ≡ level_at stack l
second_yes stack top l h = let k : nat_lt (level_at stack l) top ≡ true = grind (arith, h) in ap (λ b. cond b (level_at stack l) 0) k

-- one at the highest level does not
second_no : (stack : List Entry) (top : ℕ) (l : Lit) → top ≤ level_at stack l
    → cond (nat_lt (level_at stack l) top) (level_at stack l) 0 ≡ 0
second_no stack top l h = let k : nat_lt (level_at stack l) top ≡ false = grind (arith, h) in ap (λ b. cond b (level_at stack l) 0) k

-- each level below the highest is at most the second
second_le : (stack : List Entry) (top : ℕ) (ls : List Lit) (l : Lit) → l ∈ ls → level_at stack l < top
    → level_at stack l ≤ second_of stack top ls
second_le stack top [] l i h = absurd i
second_le stack top (k ∷ ls) l (inl q) h =
    let a : level_at stack l ≡ level_at stack k = ap (level_at stack) q in
    let b = second_yes stack top k (subst (λ n. n < top) a h) in
    omega (arith, a, b)
second_le stack top (k ∷ ls) l (inr i) h = let r = second_le stack top ls l i h in omega (arith, r)

-- the second level is 0 or that of a literal
second_by : (stack : List Entry) (top : ℕ) (ls : List Lit) → (second_of stack top ls ≡ 0)
    ⊎ ((l : Lit) × (l ∈ ls) × (level_at stack l ≡ second_of stack top ls) × (level_at stack l < top))
second_by stack top [] = inl refl
second_by stack top (k ∷ ls) = elim (le_or top (level_at stack k)) [
  | inl h ↦ (let a = second_no stack top k h in elim (second_by stack top ls) [
    | inl z ↦ inl (omega (arith, a, z))
    | inr r ↦ inr (r.0, inr r.1, (let m = r.2 in omega (arith, a, m)), r.3)
  ])
  | inr h ↦ (let a = second_yes stack top k h in elim (larger (level_at stack k) (second_of stack top ls)) [
    | inl q ↦ inr (k, inl refl, omega (arith, q, a), h)
    | inr q ↦ elim (second_by stack top ls) [
      | inl z ↦ inl (omega (arith, a, q, z))
      | inr r ↦ inr (r.0, inr r.1, (let m = r.2 in omega (arith, a, q, m)), r.3)
    ]
  ])
]

-- what is computed is the second level
pub second_is : (stack : List Entry) (ls : List Lit) (top : ℕ) → top ≡ highest_of stack ls → 0 < top
    → IsSecondLevel stack ls (second_of stack top ls)
second_is stack ls top is above = record {
  highest = by.0;
  is_highest = record { among = by.1; highest = λ k i. (let a = highest_le stack ls k i in let b = by.2 in omega (arith, a, b)) };
  below = λ l i h. second_le stack top ls l i (let b = by.2 in omega (arith, b, h, is));
  reached = elim (second_by stack top ls) [ inl z ↦ inl z | inr r ↦ inr (r.0, r.1, r.2) ];
  lower = elim (second_by stack top ls) [
    | inl z ↦ (let b = by.2 in omega (arith, b, z, is, above))
    | inr r ↦
        (let b = by.2 in let c = r.2 in let d = r.3 in omega (arith, b, c, d, is))
  ];
}
  where
    by : (l : Lit) × (l ∈ ls) × (level_at stack l ≡ highest_of stack ls)
    by = highest_by stack ls (omega (arith, is, above))

-- ---- unit below the highest level

-- of the literals so far none is closed, and one is at the highest level, or none
pub record AreSoFar (stack : List Entry) (top : ℕ) (found : Bool) (ls : List Lit) : Type 0 where
  pub none_closed : NoneClosed stack ls
  pub one : found ≡ true → (u : Lit) × (u ∈ ls) × (level_at stack u ≡ top) × ((l : Lit) → l ∈ ls → (l ≡ u) ⊎ (¬ (level_at stack l ≡ top)))
  pub none : found ≡ false → (l : Lit) → l ∈ ls → ¬ (level_at stack l ≡ top)

-- at the begin none was looked at
pub so_far_start : (stack : List Entry) (top : ℕ) → AreSoFar stack top false []
so_far_start stack top = record { none_closed = λ l i. absurd i; one = λ h. cc; none = λ h l i. absurd i }

module _ (stack : List Entry) (top : ℕ) (found : Bool) (ls : List Lit) (h : AreSoFar stack top found ls) (l : Lit)
    (not_closed : ¬ IsClosed stack l.atom) where
  -- where a literal isn't closed, it can be added
  closed_more : NoneClosed stack (ls ++ l ∷ [])
  closed_more k i = elim (in_push ls l k i) [
    | inl j ↦ h.none_closed k j
    | inr q ↦ subst (λ (x : Lit). ¬ IsClosed stack x.atom)
        (sym q) not_closed
  ]

  -- a literal at a lower level
  pub so_far_lower : ¬ (level_at stack l ≡ top) → AreSoFar stack top found (ls ++ l ∷ [])
  so_far_lower low = record {
    none_closed = closed_more;
    one = λ t. (let r = h.one t in (
      r.0,
      ∈-append_left r.0 ls (l ∷ []) r.1,
      r.2,
      λ k i. elim
          (in_push ls l k i) [ inl j ↦ r.3 k j | inr q ↦ inr (subst (λ (x : Lit). ¬ (level_at stack x ≡ top)) (sym q) low) ],
    ));
    none = λ f k i. elim (in_push ls l k i) [ inl j ↦ h.none f k j | inr q ↦ subst (λ (x : Lit). ¬ (level_at stack x ≡ top)) (sym q) low ];
  }

  -- the first at the highest level
  pub so_far_top : found ≡ false → level_at stack l ≡ top → AreSoFar stack top true (ls ++ l ∷ [])
  so_far_top f at = record {
    none_closed = closed_more;
    one = λ t. (
      l,
      ∈-append_right l ls (l ∷ []) (inl refl),
      at,
      λ k i. elim
          (in_push ls l k i) [ inl j ↦ inr (h.none f k j) | inr q ↦ inl q ],
    );
    none = λ t. cc;
  }

-- no atom twice: what stands before a literal is of other atoms
pub others_before : (xs ys : List Lit) (l : Lit) → HasNoAtomTwice (xs ++ l ∷ ys) → (k : Lit) → k ∈ xs → ¬ (k ≡ l)
others_before [] ys l h k i q = absurd i
others_before (x ∷ xs) ys l h k (inl e) q = h.0 (subst (λ (a : ℕ). a ∈ map atom_of (xs ++ l ∷ ys)) (ap atom_of (sym q ∙ e))
    (∈-map atom_of l (xs ++ l ∷ ys) (∈-append_right l xs (l ∷ ys) (inl refl))))
others_before (x ∷ xs) ys l h k (inr i) q = others_before xs ys l h.1 k i q

-- two literals at the highest level
pub two_highest : (stack : List Entry) (ls : List Lit) (top : ℕ) → top ≡ highest_of stack ls → (u l : Lit) → u ∈ ls → l ∈ ls
    → level_at stack u ≡ top → level_at stack l ≡ top → ¬ (u ≡ l)
    → ¬ IsOneHighest stack ls
two_highest stack ls top is u l i j at_u at_l differ h =
    differ (last u i at_u ∙ sym (last l j at_l))
  where
    le : level_at stack h.left ≤ highest_of stack ls
    le = highest_le stack ls h.left h.among

    last : (k : Lit) → k ∈ ls → level_at stack k ≡ top → k ≡ h.left
    last k m at = elim (h.others k m) [ inl q ↦ q | inr low ↦ absurd (let a = le in omega (arith, a, low, at, is)) ]

-- all were looked at
pub so_far_end : (stack : List Entry) (ls : List Lit) (top : ℕ) → top ≡ highest_of stack ls → 0 < top → (found : Bool)
    → AreSoFar stack top found ls → IsUnitBelow stack ls
so_far_end stack ls top is above false h = let r = highest_by stack ls (omega (arith, is, above)) in absurd
    (h.none refl r.0 r.1 (r.2 ∙ sym is))
so_far_end stack ls top is above true h = (
  h.none_closed,
  record {
    left = r.0;
    among = r.1;
    above = let a = r.2 in omega (arith, a, above);
    others = λ l i. elim (r.3 l i) [
      | inl q ↦ inl q
      | inr off ↦ inr (less l i off)
    ];
  },
)
  where
    r : (u : Lit) × (u ∈ ls) × (level_at stack u ≡ top) × ((l : Lit) → l ∈ ls → (l ≡ u) ⊎ (¬ (level_at stack l ≡ top)))
    r = h.one refl

    strict : (m n : ℕ) → m ≤ n → ¬ (m ≡ n) → m < n
    strict m n a b = grind (arith, a, b)

    less : (l : Lit) → l ∈ ls → ¬ (level_at stack l ≡ top) → level_at stack l < level_at stack r.0
    less l i off = let a = strict (level_at stack l) top (let b = highest_le stack ls l i in omega (arith, b, is)) off in let c =
        r.2 in omega (arith, a, c)

-- at a literal of the nogood
module _ (stack : List Entry) (lits : List Lit) (top i : ℕ) (l : Lit) (low : i < length lits) (is : l ≡ get_or lits i l) where
  -- the literals up to this one
  next_is : take (i + 1) lits ≡ take i lits ++ l ∷ []
  next_is = take_more lits i l low ∙ ap (λ (z : Lit). take i lits ++ z ∷ []) (sym is)

  -- all literals, with this one in their midst
  whole : lits ≡ take i lits ++ l ∷ drop (i + 1) lits
  whole = sym (take-append-drop (i + 1) lits) ∙ ap (λ xs. xs ++ drop (i + 1) lits) next_is
      ∙ append_assoc (take i lits) (l ∷ []) (drop (i + 1) lits)

  -- those before it are among all
  in_whole : (k : Lit) → k ∈ take i lits → k ∈ lits
  in_whole k h = subst (λ xs. k ∈ xs) (sym whole) (∈-append_left k (take i lits) (l ∷ drop (i + 1) lits) h)

  -- and so is it
  l_in : l ∈ lits
  l_in = subst (λ xs. l ∈ xs) (sym whole) (∈-append_right l (take i lits) (l ∷ drop (i + 1) lits) (inl refl))

  -- a second one at the highest level
  pub second_found : HasNoAtomTwice lits → top ≡ highest_of stack lits → (found : Bool) → found ≡ true
      → AreSoFar stack top found (take i lits) → level_at stack l ≡ top → ¬ IsUnitBelow stack lits
  second_found once top_is found yes_ h at unit =
      let u = h.one yes_ in
      two_highest stack lits top top_is u.0 l (in_whole u.0 u.1) l_in u.2 at
      (others_before (take i lits) (drop (i + 1) lits) l (subst HasNoAtomTwice whole once) u.0 u.1) unit.1

  -- a closed one
  pub closed_found : IsClosed stack l.atom → ¬ IsUnitBelow stack lits
  closed_found closed unit = unit.0 l l_in closed

  -- one below the highest level
  pub next_lower : (found : Bool) → AreSoFar stack top found (take i lits) → ¬ IsClosed stack l.atom → ¬ (level_at stack l ≡ top)
      → AreSoFar stack top found (take (i + 1) lits)
  next_lower found h not_closed off = subst (AreSoFar stack top found) (sym next_is)
      (so_far_lower stack top found (take i lits) h l not_closed off)

  -- the first one at the highest level
  pub next_top : (found : Bool) → found ≡ false → AreSoFar stack top found (take i lits) → ¬ IsClosed stack l.atom → level_at stack l ≡ top
      → AreSoFar stack top true (take (i + 1) lits)
  next_top found f h not_closed at = subst (AreSoFar stack top true) (sym next_is)
      (so_far_top stack top found (take i lits) h l not_closed f at)
