-- What values that are put and atoms that are closed leave of the values before, and which entries they add.
use Rattle.std.proofs.Common.{◌≡◌, ℕ, true, false, suc, zero, ◌+◌, ◌<◌, ◌≤◌, ◌⊎◌, List, [], ◌∷◌, ◌++◌, length, map, take, drop, reverse, get_or, refl, sym, ◌∙◌, ap, subst, inl, inr, arith}
use Rattle.std.specs.Prelude.{Some, None, slice_get}
use Rattle.std.proofs.lemmas.List.{reverse-append, length-reverse, take_more}
use Rattle.lists.specs.Lists.{◌∈◌, Each}
use Rattle.lists.proofs.ListLemmas.{∈-append_right, ∈-append_cases, Each-at, Each-from, Each-append}
use Rattle.alpha_outside.specs.declared.event.Event.{Event}
use Rattle.search_values.specs.declared.entry.Entry.{Entry}
use Rattle.search_values.specs.declared.entry.Why.TheVariants.{Given, Closed}
use Rattle.search_values.specs.Values.{Value, True, MustBe, False, lit, value_of, entry_on}
use Rattle.search_values.specs.Nogoods.{Nogood, Gives, NoneUnit}
use Rattle.search_values.proofs.Basics.{value_cases, get_in, in_single}
use Rattle.nogood_store.specs.Stored.{Stored, nogood_of, AllAreBelow, LitsAreBelow}
use Rattle.nogood_store.proofs.Matched.{there_below}
use Rattle.propagation.specs.Runs.{nogoods_of, Puts, Nothing, Then}
use Rattle.atom_pool.specs.declared.ground.Ground.{Ground}
use Rattle.closing.specs.Closable.{IsNamed, NoneMustBe}
use Rattle.closing.specs.Closings.{closed_on, Closes, NoRound, Round}

-- ---- values stay

-- the atom has a value
abbrev pub HasValue : List Entry → ℕ → Type 0
HasValue stack x = (v : Value) × (value_of stack x ≡ Some v)

valued_more : (e : Entry) (rest : List Entry) (x : ℕ) → HasValue rest x → HasValue (e ∷ rest) x
valued_more e rest x h = elim (value_cases e rest x) [ inl k ↦ (e.value, k.1) | inr k ↦ (h.0, k.1 ∙ h.1) ]

-- the newest entry gives its atom a value
pub newest_valued : (e : Entry) (rest : List Entry) (x : ℕ) → e.atom ≡ x → HasValue (e ∷ rest) x
newest_valued e rest x same = elim (value_cases e rest x) [ inl k ↦ (e.value, k.1) | inr k ↦ absurd (k.0 same) ]

pub puts_valued : (ngs : List Nogood) (a b : List Entry) (es : List Event) → Puts ngs a es b → (x : ℕ) → HasValue a x → HasValue b x
puts_valued ngs a _ _ Nothing x h = h
puts_valued ngs a _ _ (Then events stack p n y v ng at g) x h = valued_more (entry_on stack y v (Given n)) stack x (puts_valued ngs a stack events p x h)

pub closes_valued : (g : Ground) (ngs : List Nogood) (a b : List Entry) (es : List Event) → Closes g ngs a es b → (x : ℕ) → HasValue a x → HasValue b x
closes_valued g ngs a _ _ NoRound x h = h
closes_valued g ngs a _ _ (Round events stack c y next puts after p) x h =
    puts_valued ngs (closed_on stack y) after puts p x (valued_more (entry_on stack y False (Closed None)) stack x (closes_valued g ngs a stack events c x h))

-- ---- which atoms become must-be-true

none_below : (e : Entry) (rest : List Entry) (x : ℕ) → value_of (e ∷ rest) x ≡ None → value_of rest x ≡ None
none_below e rest x h = elim (value_cases e rest x) [ inl k ↦ (let w : Some e.value ≡ None = sym k.1 ∙ h in cc) | inr k ↦ sym k.1 ∙ h ]

puts_none : (ngs : List Nogood) (a b : List Entry) (es : List Event) → Puts ngs a es b → (x : ℕ) → value_of b x ≡ None → value_of a x ≡ None
puts_none ngs a _ _ Nothing x h = h
puts_none ngs a _ _ (Then events stack p n y v ng at g) x h = puts_none ngs a stack events p x (none_below (entry_on stack y v (Given n)) stack x h)

closes_none : (g : Ground) (ngs : List Nogood) (a b : List Entry) (es : List Event) → Closes g ngs a es b → (x : ℕ) → value_of b x ≡ None → value_of a x ≡ None
closes_none g ngs a _ _ NoRound x h = h
closes_none g ngs a _ _ (Round events stack c y next puts after p) x h =
    closes_none g ngs a stack events c x (none_below (entry_on stack y False (Closed None)) stack x (puts_none ngs (closed_on stack y) after puts p x h))

gives_must : (stack : List Entry) (ng : Nogood) (y : ℕ) (v : Value) → Gives stack ng y v → v ≡ MustBe → value_of stack y ≡ None
gives_must stack ng y True g e = cc
gives_must stack ng y MustBe g e = g.0.unassigned
gives_must stack ng y False g e = cc

-- an atom that must be true had no value before, or had to be true
abbrev WasOpen : List Entry → ℕ → Type 0
WasOpen stack x = (value_of stack x ≡ None) ⊎ (value_of stack x ≡ Some MustBe)

puts_must : (ngs : List Nogood) (a b : List Entry) (es : List Event) → Puts ngs a es b → (x : ℕ) → value_of b x ≡ Some MustBe → WasOpen a x
puts_must ngs a _ _ Nothing x h = inr h
puts_must ngs a _ _ (Then events stack p n y v ng at g) x h = elim (value_cases (entry_on stack y v (Given n)) stack x) [
  | inl k ↦ (let w : Some v ≡ Some MustBe = sym k.1 ∙ h in let m : v ≡ MustBe = cc in
      inl (puts_none ngs a stack events p x (subst (λ z. value_of stack z ≡ None) k.0 (gives_must stack ng y v g m))))
  | inr k ↦ puts_must ngs a stack events p x (sym k.1 ∙ h)
]

closed_must : (stack : List Entry) (a x : ℕ) → value_of (closed_on stack a) x ≡ Some MustBe → value_of stack x ≡ Some MustBe
closed_must stack a x h = elim (value_cases (entry_on stack a False (Closed None)) stack x) [
  | inl k ↦ (let w : Some False ≡ Some MustBe = sym k.1 ∙ h in cc)
  | inr k ↦ sym k.1 ∙ h
]

pub closes_must : (g : Ground) (ngs : List Nogood) (a b : List Entry) (es : List Event) → Closes g ngs a es b → (x : ℕ) → value_of b x ≡ Some MustBe → WasOpen a x
closes_must g ngs a _ _ NoRound x h = inr h
closes_must g ngs a _ _ (Round events stack c y next puts after p) x h = elim (puts_must ngs (closed_on stack y) after puts p x h) [
  | inl n ↦ inl (closes_none g ngs a stack events c x (none_below (entry_on stack y False (Closed None)) stack x n))
  | inr m ↦ closes_must g ngs a stack events c x (closed_must stack y x m)
]

-- closing an atom makes none must-be-true
pub none_closed : (g : Ground) (stack : List Entry) (a : ℕ) → NoneMustBe g stack → NoneMustBe g (closed_on stack a)
none_closed g stack a none x named h = none x named (closed_must stack a x h)

-- ---- where nothing is unit, nothing is put

pub quiet_puts : (ngs : List Nogood) (a b : List Entry) (es : List Event) → Puts ngs a es b → NoneUnit a ngs → (es ≡ []) × (b ≡ a)
quiet_puts ngs a _ _ Nothing quiet = (refl, refl)
quiet_puts ngs a _ _ (Then events stack p n y v ng at g) quiet =
    let r = quiet_puts ngs a stack events p quiet in
    absurd (quiet ng (get_in ngs n ng at) y v (subst (λ (s : List Entry). Gives s ng y v) r.1 g))

-- ---- entries that were put

-- nogoods of the theory are over atoms below n where those that are stored are
pub nogoods_below : (n : ℕ) (store : List Stored) → AllAreBelow n store → (m : ℕ) (ng : Nogood) → slice_get (nogoods_of store) m ≡ Some ng → LitsAreBelow n ng.lits
nogoods_below n store below m ng at l i = let w = at_map store m ng at in below m w.0 w.1 l (subst (λ (z : Nogood). l ∈ z.lits) w.2 i)
  where
    at_map : (store : List Stored) (m : ℕ) (ng : Nogood) → slice_get (map nogood_of store) m ≡ Some ng → (s : Stored) × (slice_get store m ≡ Some s) × (ng ≡ nogood_of s)
    at_map [] m ng e = cc
    at_map (s ∷ store) zero ng e = (let same : nogood_of s ≡ ng = cc in (s, refl, sym same))
    at_map (s ∷ store) (suc m) ng e = at_map store m ng e

gives_below : (n : ℕ) (stack : List Entry) (ng : Nogood) (y : ℕ) (v : Value) → LitsAreBelow n ng.lits → Gives stack ng y v → y < n
gives_below n stack ng y True below g = below (lit y false) g.among
gives_below n stack ng y MustBe below g = below (lit y false) g.0.among
gives_below n stack ng y False below g = below (lit y true) g.among

-- the entries that came stand above those before, over atoms below n
pub record Comes (n : ℕ) (a b : List Entry) : Type 0 where
  pub above : List Entry
  pub is : b ≡ above ++ a
  pub placed : (e : Entry) → e ∈ above → e.atom < n

pub puts_comes : (n : ℕ) (ngs : List Nogood) → ((m : ℕ) (ng : Nogood) → slice_get ngs m ≡ Some ng → LitsAreBelow n ng.lits) → (a b : List Entry) (es : List Event) → Puts ngs a es b → Comes n a b
puts_comes n ngs below a _ _ Nothing = record { above = []; is = refl; placed = λ e i. absurd i }
puts_comes n ngs below a _ _ (Then events stack p m y v ng at g) = one_more (puts_comes n ngs below a stack events p)
  where
    low : y < n
    low = gives_below n stack ng y v (below m ng at) g

    one_more : Comes n a stack → Comes n a (entry_on stack y v (Given m) ∷ stack)
    one_more r = record {
      above = entry_on stack y v (Given m) ∷ r.above;
      is = ap (λ (s : List Entry). entry_on stack y v (Given m) ∷ s) r.is;
      placed = λ e i. elim i [ inl q ↦ subst (λ (z : Entry). z.atom < n) (sym q) low | inr j ↦ r.placed e j ];
    }

pub longer : (above a : List Entry) (k : ℕ) → k ≤ length a → k ≤ length (above ++ a)
longer [] a k h = h
longer (e ∷ above) a k h = let r = longer above a k h in omega (arith, r)

value_above : (above a : List Entry) (x : ℕ) (v : Value) → value_of (above ++ a) x ≡ Some v → (value_of a x ≡ Some v) ⊎ ((e : Entry) × (e ∈ above) × (e.atom ≡ x))
value_above [] a x v h = inl h
value_above (e ∷ above) a x v h = elim (value_cases e (above ++ a) x) [
  | inl k ↦ inr (e, inl refl, k.0)
  | inr k ↦ elim (value_above above a x v (sym k.1 ∙ h)) [ inl w ↦ inl w | inr w ↦ inr (w.0, inr w.1, w.2) ]
]

-- ---- in the order in which they came

-- one more was looked at
pub each_more : (P : Entry → Type 0) (xs : List Entry) (i : ℕ) (x : Entry) → i < length xs → x ≡ get_or xs i x → Each P (take i xs) → P x → Each P (take (i + 1) xs)
each_more P xs i x low is before here = subst (Each P) (sym (take_more xs i x low)) (Each-append P (take i xs) (get_or xs i x ∷ []) before (subst P is here, tt))

in_drop : (k : ℕ) (xs ys : List Entry) (z : Entry) → k ≤ length xs → z ∈ ys → z ∈ drop k (xs ++ ys)
in_drop zero xs ys z h i = ∈-append_right z xs ys i
in_drop (suc k) [] ys z h i = absurd (omega (arith, h))
in_drop (suc k) (x ∷ xs) ys z h i = in_drop k xs ys z (omega (arith, h)) i

out_drop : (k : ℕ) (xs ys : List Entry) (z : Entry) → k ≤ length xs → z ∈ drop k (xs ++ ys) → (z ∈ drop k xs) ⊎ (z ∈ ys)
out_drop zero xs ys z h i = ∈-append_cases z xs ys i
out_drop (suc k) [] ys z h i = absurd (omega (arith, h))
out_drop (suc k) (x ∷ xs) ys z h i = out_drop k xs ys z (omega (arith, h)) i

drop_all : (k : ℕ) (xs ys : List Entry) → k ≡ length xs → drop k (xs ++ ys) ≡ ys
drop_all zero [] ys h = refl
drop_all zero (x ∷ xs) ys h = absurd (omega (arith, h))
drop_all (suc k) [] ys h = absurd (omega (arith, h))
drop_all (suc k) (x ∷ xs) ys h = drop_all k xs ys (omega (arith, h))

in_reverse : (xs : List Entry) (z : Entry) → z ∈ xs → z ∈ reverse xs
in_reverse [] z i = absurd i
in_reverse (x ∷ xs) z (inl e) = subst (λ l. z ∈ l) (sym (reverse-append (x ∷ []) xs)) (∈-append_right z (reverse xs) (x ∷ []) (inl e))
in_reverse (x ∷ xs) z (inr i) = subst (λ l. z ∈ l) (sym (reverse-append (x ∷ []) xs)) (left (reverse xs) (in_reverse xs z i))
  where
    left : (ys : List Entry) → z ∈ ys → z ∈ (ys ++ x ∷ [])
    left [] j = absurd j
    left (y ∷ ys) (inl e) = inl e
    left (y ∷ ys) (inr j) = inr (left ys j)

from_reverse : (xs : List Entry) (z : Entry) → z ∈ reverse xs → z ∈ xs
from_reverse [] z i = i
from_reverse (x ∷ xs) z i = go (from_reverse xs z) (∈-append_cases z (reverse xs) (x ∷ []) (subst (λ l. z ∈ l) (reverse-append (x ∷ []) xs) i))
  where
    go : (z ∈ reverse xs → z ∈ xs) → (z ∈ reverse xs) ⊎ (z ∈ (x ∷ [])) → z ∈ (x ∷ xs)
    go below (inl j) = inr (below j)
    go below (inr j) = inl (in_single j)

-- what holds of the entries from one on, and of those that came, holds of all from there on
pub each_comes : (n k : ℕ) (a b : List Entry) → Comes n a b → k ≤ length a → Each (λ (e : Entry). e.atom < n) (drop k (reverse a)) → Each (λ (e : Entry). e.atom < n) (drop k (reverse b))
each_comes n k a b c low old = Each-from (λ (e : Entry). e.atom < n) (drop k (reverse b)) (λ e i.
    elim (out_drop k (reverse a) (reverse c.above) e (let r = length-reverse a in omega (arith, low, r)) (subst (λ (s : List Entry). e ∈ drop k s) (ap reverse c.is ∙ reverse-append c.above a) i)) [
      | inl j ↦ Each-at (λ (e : Entry). e.atom < n) (drop k (reverse a)) e old j
      | inr j ↦ c.placed e (from_reverse c.above e j)
    ])

-- where no atom is must-be-true by an entry from there on, none is
pub none_comes : (g : Ground) (n k : ℕ) (a b : List Entry) → Comes n a b → k ≤ length a → NoneMustBe g a
    → Each (λ (e : Entry). IsNamed g e.atom → ¬ (value_of b e.atom ≡ Some MustBe)) (drop k (reverse b)) → NoneMustBe g b
none_comes g n k a b c low none each x named must = elim (value_above c.above a x MustBe (subst (λ (s : List Entry). value_of s x ≡ Some MustBe) c.is must)) [
  | inl h ↦ none x named h
  | inr w ↦ Each-at (λ (e : Entry). IsNamed g e.atom → ¬ (value_of b e.atom ≡ Some MustBe)) (drop k (reverse b)) w.0 each
      (subst (λ (s : List Entry). w.0 ∈ drop k s) (sym (ap reverse c.is ∙ reverse-append c.above a))
      (in_drop k (reverse a) (reverse c.above) w.0 (let r = length-reverse a in omega (arith, low, r)) (in_reverse c.above w.0 w.1)))
      (subst (λ z. IsNamed g z) (sym w.2) named) (subst (λ z. value_of b z ≡ Some MustBe) (sym w.2) must)
]

-- a named atom is one of the ground
pub named_below : (g : Ground) (x : ℕ) → IsNamed g x → x < length g.atoms.atoms
named_below g x named = there_below g.atoms.atoms x _ named.2

-- the entry of an atom that was closed is the only one since the mark
pub closed_taken : (n k a : ℕ) (stack : List Entry) → k ≡ length stack → a < n → Each (λ (e : Entry). e.atom < n) (drop k (reverse (closed_on stack a)))
closed_taken n k a stack marked low = subst (Each (λ (e : Entry). e.atom < n))
    (sym (ap (drop k) (reverse-append (entry_on stack a False (Closed None) ∷ []) stack) ∙ drop_all k (reverse stack) (entry_on stack a False (Closed None) ∷ []) (marked ∙ sym (length-reverse stack))))
    (low, tt)
