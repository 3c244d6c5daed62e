-- First values on a stack: their places, levels and literals.
use Rattle.std.proofs.Common.{◌≡◌, ℕ, ◌+◌, ◌<◌, ◌≤◌, max, ◌⊎◌, Bool, true, false, ◌&&◌, cond, List, [], ◌∷◌, ◌++◌, length, refl, sym, ◌∙◌, ap, subst, inl, inr, arith}
use Rattle.std.specs.Prelude.{Option, Some, None, nat_eq, is_none}
use Rattle.lists.specs.Lists.{◌∈◌}
use Rattle.alpha_outside.specs.declared.literal.Lit.{Lit}
use Rattle.alpha_outside.specs.declared.literal.Value.{Value}
use Rattle.alpha_outside.specs.declared.literal.Value.TheVariants.{MustBe}
use Rattle.search_values.specs.declared.entry.Entry.{Entry}
use Rattle.search_values.specs.declared.entry.Why.{Why}
use Rattle.search_values.specs.declared.entry.Why.TheVariants.{Given, Chosen, Closed}
use Rattle.search_values.specs.Values.{is_closed, is_up, value_of, Holds, opened, level_of, first_level}
use Rattle.search_values.proofs.Basics.{value_cases, nat_eq-same}
use Rattle.trail.specs.Assigning.{MayBecome, IsEntryOf, IsStackOf}
use Rattle.conflict_learning.specs.FirstValues.{or_place, first_place, count_to, came_with}
use Rattle.conflict_learning.specs.Analysing.{level_at}
use Rattle.conflict_learning.specs.Pending.{lit_of, IsFirstAt}

-- an option is there or not
pub option_cases : {X : Type 0} (o : Option X) → (o ≡ None) ⊎ ((x : X) × (o ≡ Some x))
option_cases None = inl refl
option_cases (Some x) = inr (x, refl)

-- the greater of two numbers is one of them
pub larger : (m n : ℕ) → (max m n ≡ m) ⊎ (max m n ≡ n)
larger m n = grind arith

-- of two numbers one is at most the other, or is above it
pub le_or : (m n : ℕ) → (m ≤ n) ⊎ (n < m)
le_or m n = grind arith

-- a number is 0 or above it
pub zero_or : (n : ℕ) → (n ≡ 0) ⊎ (0 < n)
zero_or n = grind arith

-- a closed entry opens a level
pub opens_one : (w : Why) → is_closed w ≡ true → opened w ≡ 1
opens_one (Given n) h = cc
opens_one Chosen h = cc
opens_one (Closed reason) h = refl

-- what is below is a stack as well
pub stack_below : (atoms : ℕ) (above below : List Entry) → IsStackOf atoms (above ++ below) → IsStackOf atoms below
stack_below atoms [] below are = are
stack_below atoms (e ∷ above) below are = stack_below atoms above below are.1

-- ---- values

-- an atom without a value on the whole stack has none below
pub none_below : (e : Entry) (rest : List Entry) (a : ℕ) → value_of (e ∷ rest) a ≡ None → value_of rest a ≡ None
none_below e rest a h = elim (value_cases e rest a) [ inl c ↦ (let k = c.1 in cc) | inr c ↦ sym c.1 ∙ h ]

-- an atom without a value isn't that of the newest entry
pub none_other : (e : Entry) (rest : List Entry) (a : ℕ) → value_of (e ∷ rest) a ≡ None → ¬ (e.atom ≡ a)
none_other e rest a h same = elim (value_cases e rest a) [ inl c ↦ (let k = c.1 in cc) | inr c ↦ c.0 same ]

-- a value changes from must-be-true to true alone
pub same_up : (w v : Value) → MayBecome (Some w) v → is_up w ≡ is_up v
same_up w v (inl h) = cc
same_up w v (inr h) = let e : w ≡ MustBe = (let k = h.0 in cc) in ap is_up e ∙ sym (ap is_up h.1)

-- a literal that holds goes on to hold as values are added
pub holds_more : (atoms : ℕ) (e : Entry) (rest : List Entry) → IsEntryOf atoms e rest → (l : Lit) → Holds rest l → Holds (e ∷ rest) l
holds_more atoms e rest is l h = elim (value_cases e rest l.atom) [
  | inl c ↦ (let may : MayBecome (Some h.0) e.value = subst (λ (o : Option Value). MayBecome o e.value) h.1
      (subst (λ (a : ℕ). MayBecome (value_of rest a) e.value) c.0 is.may) in
      (e.value, c.1, sym (same_up h.0 e.value may) ∙ h.2))
  | inr c ↦ (h.0, c.1 ∙ h.1, h.2)
]

-- so also below several
pub holds_above : (atoms : ℕ) (above rest : List Entry) → IsStackOf atoms (above ++ rest) → (l : Lit) → Holds rest l
    → Holds (above ++ rest) l
holds_above atoms [] rest are l h = h
holds_above atoms (e ∷ above) rest are l h = holds_more atoms e (above ++ rest) are.0 l (holds_above atoms above rest are.1 l h)

-- ---- places

-- an atom without a value has no place
pub no_place : (stack : List Entry) (a : ℕ) → value_of stack a ≡ None → first_place stack a ≡ None
no_place [] a h = refl
no_place (e ∷ rest) a h = go (nat_eq e.atom a) refl h (no_place rest a)
  where
    go : (b : Bool) → nat_eq e.atom a ≡ b → cond b (Some e.value) (value_of rest a) ≡ None
        → (value_of rest a ≡ None → first_place rest a ≡ None)
        → cond b (or_place (first_place rest a) (length rest)) (first_place rest a) ≡ None
    go true k none below = cc
    go false k none below = below none

-- the place of the newest entry's atom
place_step : (e : Entry) (rest : List Entry) (a : ℕ) → e.atom ≡ a → first_place (e ∷ rest) a ≡ or_place (first_place rest a) (length rest)
place_step e rest a same = ap (λ b. cond b (or_place (first_place rest a) (length rest)) (first_place rest a))
    (subst (λ x. nat_eq e.atom x ≡ true) same (nat_eq-same e.atom))

-- a place stays as entries are added
pub place_more : (e : Entry) (rest : List Entry) (a p : ℕ) → first_place rest a ≡ Some p → first_place (e ∷ rest) a ≡ Some p
place_more e rest a p h = go (nat_eq e.atom a)
  where
    go : (b : Bool) → cond b (or_place (first_place rest a) (length rest)) (first_place rest a) ≡ Some p
    go true = ap (λ o. or_place o (length rest)) h
    go false = h

-- and as several are added
pub place_above : (above rest : List Entry) (a p : ℕ) → first_place rest a ≡ Some p → first_place (above ++ rest) a ≡ Some p
place_above [] rest a p h = h
place_above (e ∷ above) rest a p h = place_more e (above ++ rest) a p (place_above above rest a p h)

-- the entry that gave an atom its first value
pub record HasFirst (stack : List Entry) (a : ℕ) (up : Bool) : Type 0 where
  pub place : ℕ
  pub entry : Entry
  pub is : first_place stack a ≡ Some place
  pub at : IsFirstAt stack place entry
  pub atom_is : entry.atom ≡ a
  pub up_is : is_up entry.value ≡ up

-- it stays the first as an entry is added
first_more : (e : Entry) (rest : List Entry) (a : ℕ) (up : Bool) → HasFirst rest a up → HasFirst (e ∷ rest) a up
first_more e rest a up f = record {
  place = f.place;
  entry = f.entry;
  is = place_more e rest a f.place f.is;
  at = inr f.at;
  atom_is = f.atom_is;
  up_is = f.up_is;
}

-- each atom that has a value has one
pub has_first : (atoms : ℕ) (stack : List Entry) → IsStackOf atoms stack → (a : ℕ) (v : Value) → value_of stack a ≡ Some v
    → HasFirst stack a (is_up v)
has_first atoms [] are a v h = cc
has_first atoms (e ∷ rest) are a v h = elim (value_cases e rest a) [
  | inl c ↦ here (λ w k. has_first atoms rest are.1 a w k) c.0 (let k : Some e.value ≡ Some v = sym c.1 ∙ h in cc)
  | inr c ↦ first_more e rest a (is_up v) (has_first atoms rest are.1 a v (sym c.1 ∙ h))
]
  where
    here : ((w : Value) → value_of rest a ≡ Some w → HasFirst rest a (is_up w)) → e.atom ≡ a → e.value ≡ v → HasFirst (e ∷ rest) a (is_up v)
    here below same is = elim (option_cases (value_of rest a)) [
      | inl none ↦ record {
        place = length rest;
        entry = e;
        is = place_step e rest a same ∙ ap (λ o. or_place o (length rest)) (no_place rest a none);
        at = inl (refl, refl, ap (value_of rest) same ∙ none);
        atom_is = same;
        up_is = ap is_up is;
      }
      | inr some ↦ (
          let may : MayBecome (Some some.0) e.value = subst (λ (o : Option Value). MayBecome o e.value) some.1
          (subst (λ (x : ℕ). MayBecome (value_of rest x) e.value) same are.0.may) in
          subst (λ (up : Bool). HasFirst (e ∷ rest) a up) (same_up some.0 e.value may ∙ ap is_up is)
          (first_more e rest a (is_up some.0) (below some.0 some.1)))
    ]

-- a literal that holds is that of the entry which gave its atom the first value
pub record HoldsBy (stack : List Entry) (l : Lit) : Type 0 where
  pub place : ℕ
  pub entry : Entry
  pub is : first_place stack l.atom ≡ Some place
  pub at : IsFirstAt stack place entry
  pub lit_is : lit_of entry ≡ l

-- each literal that holds has one
pub holds_by : (atoms : ℕ) (stack : List Entry) → IsStackOf atoms stack → (l : Lit) → Holds stack l → HoldsBy stack l
holds_by atoms stack are l h =
    let f = has_first atoms stack are l.atom h.0 h.1 in
    record {
      place = f.place;
      entry = f.entry;
      is = f.is;
      at = f.at;
      lit_is = (λ i. record { atom = f.atom_is i; positive = (f.up_is ∙ h.2) i });
    }

-- the place is below the height of the stack
pub first_low : (stack : List Entry) (p : ℕ) (f : Entry) → IsFirstAt stack p f → p < length stack
first_low [] p f h = absurd h
first_low (e ∷ rest) p f (inl h) = let k = h.0 in omega (arith, k)
first_low (e ∷ rest) p f (inr h) = let k = first_low rest p f h in omega (arith, k)

-- the entry gives its atom a value
pub first_valued : (stack : List Entry) (p : ℕ) (f : Entry) → IsFirstAt stack p f → (v : Value) × (value_of stack f.atom ≡ Some v)
first_valued [] p f h = absurd h
first_valued (e ∷ rest) p f (inl h) = (
  e.value,
  subst (λ (x : Entry). value_of (e ∷ rest) x.atom ≡ Some e.value) (sym h.1)
      (ap (λ b. cond b (Some e.value) (value_of rest e.atom)) (nat_eq-same e.atom)),
)
first_valued (e ∷ rest) p f (inr h) = elim (value_cases e rest f.atom) [
  | inl c ↦ (e.value, c.1)
  | inr c ↦ (let w = first_valued rest p f h in (w.0, c.1 ∙ w.1))
]

-- the literal of the entry holds
pub first_holds : (atoms : ℕ) (stack : List Entry) → IsStackOf atoms stack → (p : ℕ) (f : Entry) → IsFirstAt stack p f
    → Holds stack (lit_of f)
first_holds atoms [] are p f h = absurd h
first_holds atoms (e ∷ rest) are p f (inl h) = subst (λ (x : Entry). Holds (e ∷ rest) (lit_of x)) (sym h.1)
    (e.value, ap (λ b. cond b (Some e.value) (value_of rest e.atom)) (nat_eq-same e.atom), refl)
first_holds atoms (e ∷ rest) are p f (inr h) = holds_more atoms e rest are.0 (lit_of f) (first_holds atoms rest are.1 p f h)

-- it is on the whole stack as well
pub first_above : (above rest : List Entry) (p : ℕ) (f : Entry) → IsFirstAt rest p f → IsFirstAt (above ++ rest) p f
first_above [] rest p f h = h
first_above (e ∷ above) rest p f h = inr (first_above above rest p f h)

-- ---- levels

-- the level of a first value is at most that of the newest entry
pub level_le : (stack : List Entry) (a : ℕ) → first_level stack a ≤ level_of stack
level_le [] a = omega arith
level_le (e ∷ rest) a = go (nat_eq e.atom a && is_none (value_of rest a)) (level_le rest a)
  where
    go : (b : Bool) → first_level rest a ≤ level_of rest
        → cond b (level_of rest + opened e.why) (first_level rest a) ≤ level_of rest + opened e.why
    go true h = omega arith
    go false h = omega (arith, h)

-- a test of two fails where the second does
pub and_false : (b : Bool) → (b && false) ≡ false
and_false true = refl
and_false false = refl

-- it stays as entries are added
pub level_more : (e : Entry) (rest : List Entry) (a : ℕ) (v : Value) → value_of rest a ≡ Some v
    → first_level (e ∷ rest) a ≡ first_level rest a
level_more e rest a v h =
    ap (λ o. cond (nat_eq e.atom a && is_none o) (level_of rest + opened e.why) (first_level rest a)) h
    ∙ ap (λ b. cond b (level_of rest + opened e.why) (first_level rest a)) (and_false (nat_eq e.atom a))

-- an atom that has a value below has one above
value_above : (above rest : List Entry) (a : ℕ) (v : Value) → value_of rest a ≡ Some v → (w : Value) × (value_of (above ++ rest) a ≡ Some w)
value_above [] rest a v h = (v, h)
value_above (e ∷ above) rest a v h = elim (value_cases e (above ++ rest) a) [
  | inl c ↦ (e.value, c.1)
  | inr c ↦ (let w = value_above above rest a v h in (w.0, c.1 ∙ w.1))
]

-- the level of a first value stays as several are added
pub level_above : (above rest : List Entry) (a : ℕ) (v : Value) → value_of rest a ≡ Some v
    → first_level (above ++ rest) a ≡ first_level rest a
level_above [] rest a v h = refl
level_above (e ∷ above) rest a v h = let w = value_above above rest a v h in level_more e (above ++ rest) a w.0 w.1
    ∙ level_above above rest a v h

-- what holds below holds at a level that was open there
pub level_low : (above rest : List Entry) (l : Lit) → Holds rest l → level_at (above ++ rest) l ≤ level_of rest
level_low above rest l h = let e = level_above above rest l.atom h.0 h.1 in let k = level_le rest l.atom in omega (arith, e, k)

-- the level that is told with a first value is its level
pub level_told : (atoms : ℕ) (stack : List Entry) → IsStackOf atoms stack → (p : ℕ) (f : Entry) → IsFirstAt stack p f
    → first_level stack f.atom ≡ f.level
level_told atoms [] are p f h = absurd h
level_told atoms (e ∷ rest) are p f (inl h) = subst (λ (x : Entry). first_level (e ∷ rest) x.atom ≡ x.level) (sym h.1) (
    ap (λ o. cond (nat_eq e.atom e.atom && is_none o) (level_of rest + opened e.why) (first_level rest e.atom)) h.2
    ∙ ap (λ b. cond (b && true) (level_of rest + opened e.why) (first_level rest e.atom)) (nat_eq-same e.atom)
    ∙ sym are.0.level_told)
level_told atoms (e ∷ rest) are p f (inr h) = let w = first_valued rest p f h in level_more e rest f.atom w.0 w.1
    ∙ level_told atoms rest are.1 p f h

-- a later first value has no lower level
pub level_grows : (atoms : ℕ) (stack : List Entry) → IsStackOf atoms stack → (p q : ℕ) (f g : Entry) → IsFirstAt stack p f
    → IsFirstAt stack q g → p ≤ q → f.level ≤ g.level
level_grows atoms [] are p q f g h k low = absurd h
level_grows atoms (e ∷ rest) are p q f g (inl h) (inl k) low = subst (λ (x : Entry). f.level ≤ x.level) (sym k.1)
    (subst (λ (x : Entry). x.level ≤ e.level) (sym h.1) (omega arith))
level_grows atoms (e ∷ rest) are p q f g (inl h) (inr k) low =
    absurd (let m = first_low rest q g k in let n = h.0 in omega (arith, m, n, low))
level_grows atoms (e ∷ rest) are p q f g (inr h) (inl k) low =
    let told = level_told atoms rest are.1 p f h in
    let le = level_le rest f.atom in
    let here = are.0.level_told in
    subst (λ (x : Entry). f.level ≤ x.level) (sym k.1) (omega (arith, told, le, here))
level_grows atoms (e ∷ rest) are p q f g (inr h) (inr k) low = level_grows atoms rest are.1 p q f g h k low

-- ---- the last literal

-- each literal came at the latest with the last
pub came_at : (stack : List Entry) (ls : List Lit) (l : Lit) → l ∈ ls → count_to (first_place stack l.atom) ≤ came_with stack ls
came_at stack [] l i = absurd i
came_at stack (k ∷ ls) l (inl e) = subst (λ (x : Lit). count_to (first_place stack x.atom) ≤ max (count_to (first_place stack k.atom))
    (came_with stack ls)) (sym e) (omega arith)
came_at stack (k ∷ ls) l (inr i) = let h = came_at stack ls l i in omega (arith, h)

-- where none came later than this, the last didn't
pub came_low : (stack : List Entry) (ls : List Lit) (n : ℕ) → ((l : Lit) → l ∈ ls → count_to (first_place stack l.atom) ≤ n)
    → came_with stack ls ≤ n
came_low stack [] n h = omega arith
came_low stack (k ∷ ls) n h = let a = h k (inl refl) in let b = came_low stack ls n (λ l i. h l (inr i)) in omega (arith, a, b)

-- the last literal is one of them
pub came_by : (stack : List Entry) (ls : List Lit) → 0 < came_with stack ls → (l : Lit) × (l ∈ ls)
    × (count_to (first_place stack l.atom) ≡ came_with stack ls)
came_by stack [] h = absurd (omega (arith, h))
came_by stack (k ∷ ls) h = elim (larger (count_to (first_place stack k.atom)) (came_with stack ls)) [
  | inl e ↦ (k, inl refl, sym e)
  | inr e ↦ (let r = came_by stack ls (omega (arith, e, h)) in (r.0, inr r.1, r.2 ∙ sym e))
]
