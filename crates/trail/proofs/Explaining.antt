-- A closed entry gets its reason: nothing that is read of the stack changes but the reason.
use Rattle.std.proofs.Common.{◌≡◌, ℕ, ◌+◌, ◌-◌, ◌<◌, ◌≤◌, ◌⊎◌, Bool, true, false, ◌&&◌, cond, List, [], ◌∷◌, ◌++◌, length, reverse, set, take, drop, get_or, refl, sym, ◌∙◌, ap, subst, inl, inr, arith, append_assoc, zero, suc}
use Rattle.std.specs.Prelude.{Option, Some, None, nat_eq, slice_get}
use Rattle.std.proofs.lemmas.List.{append-nil, take_all, drop_all, take_more, take-set, drop_more, take-append-drop, reverse-append, reverse-reverse, length-reverse}
use Rattle.std.proofs.lemmas.Grind.{drop-set_at}
use Rattle.std.proofs.lemmas.Option.{get_or_from_slice_get, slice_get-get_or}
use Rattle.search_values.specs.declared.entry.Why.{Why}
use Rattle.search_values.specs.declared.entry.Why.TheVariants.{Given, Chosen, Closed}
use Rattle.search_values.specs.declared.entry.Entry.{Entry}
use Rattle.alpha_outside.specs.declared.literal.Value.{Value}
use Rattle.search_values.specs.Values.{value_of, opened, level_of, with_reason, explain}
use Rattle.search_values.specs.Values.{explained}
use Rattle.search_values.proofs.Basics.{bool_cases, and_left, and_right, nat_eq-true}
use Rattle.trail.specs.Assigning.{MayBecome, MayClose, IsEntryOf, IsStackOf, trues, true_by, full_by, is_unexplained_why, is_unexplained_entry, explained_newest}
use Rattle.trail.specs.Slots.{slot_of, slot_after, fulls, Keeps}
use Rattle.trail.specs.declared.slot.Slot.{Slot}

-- an entry without a reason opens a level, as it does with one
opens_same : (w : Why) (n : ℕ) → is_unexplained_why w ≡ true → opened (Closed (Some n)) ≡ opened w
opens_same (Given m) n h = cc
opens_same Chosen n h = cc
opens_same (Closed None) n h = refl
opens_same (Closed (Some m)) n h = cc

-- and it is the first of its atom, as it is with one
closes_same : (w : Why) (n : ℕ) → is_unexplained_why w ≡ true → (before : Option Value) (v : Value) → MayClose before v w → MayClose before v (Closed (Some n))
closes_same (Given m) n h before v c = cc
closes_same Chosen n h before v c = cc
closes_same (Closed None) n h before v c = c
closes_same (Closed (Some m)) n h before v c = cc

-- the stack with the reason, by the two cases of the newest entry
explained_cases : (a n : ℕ) (e : Entry) (rest : List Entry)
    → ((explained_newest a n (e ∷ rest) ≡ record e { why = Closed (Some n) } ∷ rest) × (opened (Closed (Some n)) ≡ opened e.why)
    × ((before : Option Value) (v : Value) → MayClose before v e.why → MayClose before v (Closed (Some n)))) ⊎ (explained_newest a n (e ∷ rest) ≡ e ∷ explained_newest a n rest)
explained_cases a n e rest = elim (bool_cases (is_unexplained_entry e a)) [
  | inl h ↦ inl (
    ap (λ b. cond b (record e { why = Closed (Some n) } ∷ rest) (e ∷ explained_newest a n rest)) h,
    opens_same e.why n (and_left (is_unexplained_why e.why) (nat_eq e.atom a) h),
    closes_same e.why n (and_left (is_unexplained_why e.why) (nat_eq e.atom a) h),
  )
  | inr h ↦ inr (ap (λ b. cond b (record e { why = Closed (Some n) } ∷ rest) (e ∷ explained_newest a n rest)) h)
]

pub same_value : (a n : ℕ) (stack : List Entry) (x : ℕ) → value_of (explained_newest a n stack) x ≡ value_of stack x
same_value a n [] x = refl
same_value a n (e ∷ rest) x = elim (explained_cases a n e rest) [
  | inl c ↦ ap (λ s. value_of s x) c.0
  | inr c ↦ ap (λ s. value_of s x) c ∙ ap (cond (nat_eq e.atom x) (Some e.value)) (same_value a n rest x)
]

pub same_level : (a n : ℕ) (stack : List Entry) → level_of (explained_newest a n stack) ≡ level_of stack
same_level a n [] = refl
same_level a n (e ∷ rest) = elim (explained_cases a n e rest) [
  | inl c ↦ ap level_of c.0 ∙ ap (λ k. level_of rest + k) c.1
  | inr c ↦ ap level_of c ∙ ap (λ k. k + opened e.why) (same_level a n rest)
]

pub same_trues : (a n : ℕ) (stack : List Entry) → trues (explained_newest a n stack) ≡ trues stack
same_trues a n [] = refl
same_trues a n (e ∷ rest) = elim (explained_cases a n e rest) [
  | inl c ↦ ap trues c.0
  | inr c ↦ ap trues c ∙ ap (λ k. k + true_by e.value) (same_trues a n rest)
]

pub same_fulls : (a n : ℕ) (stack : List Entry) → fulls (explained_newest a n stack) ≡ fulls stack
same_fulls a n [] = refl
same_fulls a n (e ∷ rest) = elim (explained_cases a n e rest) [
  | inl c ↦ ap fulls c.0
  | inr c ↦ ap fulls c ∙ ap (λ k. k + full_by e.value) (same_fulls a n rest)
]

pub same_length : (a n : ℕ) (stack : List Entry) → length (explained_newest a n stack) ≡ length stack
same_length a n [] = refl
same_length a n (e ∷ rest) = elim (explained_cases a n e rest) [
  | inl c ↦ ap length c.0
  | inr c ↦ (let h = ap length c in let k = same_length a n rest in omega (arith, h, k))
]

pub same_slot : (a n : ℕ) (stack : List Entry) (x : ℕ) → slot_of (explained_newest a n stack) x ≡ slot_of stack x
same_slot a n [] x = refl
same_slot a n (e ∷ rest) x = elim (explained_cases a n e rest) [
  | inl c ↦ ap (λ s. slot_of s x) c.0 ∙ ap (λ k. cond (nat_eq e.atom x) (slot_after (slot_of rest x) e.value (level_of rest + k) (trues rest)) (slot_of rest x)) c.1
  | inr c ↦ ap (λ s. slot_of s x) c
      ∙ ap (λ (s : Slot). cond (nat_eq e.atom x) (slot_after s e.value (level_of (explained_newest a n rest) + opened e.why) (trues (explained_newest a n rest))) s) (same_slot a n rest x)
      ∙ ap (λ k. cond (nat_eq e.atom x) (slot_after (slot_of rest x) e.value (k + opened e.why) (trues (explained_newest a n rest))) (slot_of rest x)) (same_level a n rest)
      ∙ ap (λ k. cond (nat_eq e.atom x) (slot_after (slot_of rest x) e.value (level_of rest + opened e.why) k) (slot_of rest x)) (same_trues a n rest)
]

pub same_stack : (atoms a n : ℕ) (stack : List Entry) → IsStackOf atoms stack → IsStackOf atoms (explained_newest a n stack)
same_stack atoms a n [] h = tt
same_stack atoms a n (e ∷ rest) h = elim (explained_cases a n e rest) [
  | inl c ↦ subst (IsStackOf atoms) (sym c.0) (
    record {
      placed = h.0.placed;
      may = h.0.may;
      level_told = h.0.level_told ∙ ap (λ k. level_of rest + k) (sym c.1);
      opens_full = (let k = h.0.opens_full in let q = c.1 in omega (arith, k, q));
      closes = c.2 (value_of rest e.atom) e.value h.0.closes;
    },
    h.1,
  )
  | inr c ↦ subst (IsStackOf atoms) (sym c) (
    record {
      placed = h.0.placed;
      may = subst (λ o. MayBecome o e.value) (sym (same_value a n rest e.atom)) h.0.may;
      level_told = h.0.level_told ∙ ap (λ k. k + opened e.why) (sym (same_level a n rest));
      opens_full = h.0.opens_full;
      closes = subst (λ o. MayClose o e.value e.why) (sym (same_value a n rest e.atom)) h.0.closes;
    },
    same_stack atoms a n rest h.1,
  )
]

-- the table and the counts keep to it
pub keeps_explained : (a n : ℕ) (stack : List Entry) (slots : List Slot) (visits : List ℕ) (count kept entry_room level_room : ℕ) → Keeps stack slots visits count kept entry_room level_room
    → Keeps (explained_newest a n stack) slots visits count kept entry_room level_room
keeps_explained a n stack slots visits count kept entry_room level_room k = record {
  slots_are = λ x low. k.slots_are x low ∙ ap (λ (s : Slot). Some s) (sym (same_slot a n stack x));
  is_stack = same_stack (length slots) a n stack k.is_stack;
  levels_are = k.levels_are ∙ sym (same_level a n stack);
  trues_are = k.trues_are ∙ sym (same_trues a n stack);
  entries_are = same_length a n stack ∙ k.entries_are;
  fulls_are = same_fulls a n stack ∙ k.fulls_are;
  kept_within = let a_ = k.kept_within in let b = same_length a n stack in omega (arith, a_, b);
  few = k.few;
  entries_fit = k.entries_fit;
  levels_fit = k.levels_fit;
}

-- ---- on the entries, the oldest first

-- a list with another item at a place
set_parts : (xs : List Entry) (i : ℕ) (y : Entry) → i < length xs → set xs i y ≡ take i xs ++ y ∷ drop (i + 1) xs
set_parts xs i y low = sym (take-append-drop i (set xs i y)) ∙ ap (λ s. s ++ drop i (set xs i y)) (take-set xs i y) ∙ ap (λ s. take i xs ++ s) (drop-set_at xs i i y refl low)

-- at the next entry on the way down
module _ (a n : ℕ) (entries : List Entry) (left : ℕ) (low : left ≤ length entries) (some : 0 < left) (e : Entry) (here : e ≡ get_or entries (left - 1) e)
    (so_far : explained_newest a n (reverse entries) ≡ reverse (drop left entries) ++ explained_newest a n (reverse (take left entries))) where
  -- it is the newest of those that are left
  first : reverse (take left entries) ≡ e ∷ reverse (take (left - 1) entries)
  first =
      ap (λ k. reverse (take k entries)) (let q : left ≡ left - 1 + 1 = omega (arith, some) in q)
      ∙ ap reverse (take_more entries (left - 1) e (omega (arith, low, some)) ∙ ap (λ (z : Entry). take (left - 1) entries ++ z ∷ []) (sym here)) ∙ reverse-append (take (left - 1) entries) (e ∷ [])

  newer : reverse (drop (left - 1) entries) ≡ reverse (drop left entries) ++ e ∷ []
  newer = ap reverse (drop_more entries (left - 1) e (omega (arith, low, some)) ∙ ap (λ (z : Entry). z ∷ drop (left - 1 + 1) entries) (sym here) ∙ ap (λ k. e ∷ drop k entries) (let q : left - 1 + 1 ≡ left = omega (arith, some) in q)) ∙ reverse-append (e ∷ []) (drop left entries)

  -- another entry
  pub explain_skip : is_unexplained_entry e a ≡ false → explained_newest a n (reverse entries) ≡ reverse (drop (left - 1) entries) ++ explained_newest a n (reverse (take (left - 1) entries))
  explain_skip off =
      so_far ∙ ap (λ s. reverse (drop left entries) ++ explained_newest a n s) first
      ∙ ap (λ b. reverse (drop left entries) ++ cond b (record e { why = Closed (Some n) } ∷ reverse (take (left - 1) entries)) (e ∷ explained_newest a n (reverse (take (left - 1) entries)))) off
      ∙ sym (append_assoc (reverse (drop left entries)) (e ∷ []) (explained_newest a n (reverse (take (left - 1) entries))))
      ∙ ap (λ s. s ++ explained_newest a n (reverse (take (left - 1) entries))) (sym newer)

  -- the entry itself
  pub explain_here : is_unexplained_entry e a ≡ true → (now : Entry) → now ≡ record e { why = Closed (Some n) } → reverse (set entries (left - 1) now) ≡ explained_newest a n (reverse entries)
  explain_here on now is =
      ap reverse (set_parts entries (left - 1) now (omega (arith, low, some)))
      ∙ reverse-append (take (left - 1) entries) (now ∷ drop (left - 1 + 1) entries)
      ∙ ap (λ s. s ++ reverse (take (left - 1) entries)) (reverse-append (now ∷ []) (drop (left - 1 + 1) entries))
      ∙ append_assoc (reverse (drop (left - 1 + 1) entries)) (now ∷ []) (reverse (take (left - 1) entries))
      ∙ ap (λ k. reverse (drop k entries) ++ now ∷ reverse (take (left - 1) entries)) (let q : left - 1 + 1 ≡ left = omega (arith, some) in q)
      ∙ ap (λ (z : Entry). reverse (drop left entries) ++ z ∷ reverse (take (left - 1) entries)) is
      ∙ sym (so_far ∙ ap (λ s. reverse (drop left entries) ++ explained_newest a n s) first
      ∙ ap (λ b. reverse (drop left entries) ++ cond b (record e { why = Closed (Some n) } ∷ reverse (take (left - 1) entries)) (e ∷ explained_newest a n (reverse (take (left - 1) entries)))) on)

-- all entries are left at the begin, and none at the end
pub explain_start : (a : ℕ) (entries : List Entry) (left : ℕ) → left ≡ length entries → (n : ℕ) → explained_newest a n (reverse entries) ≡ reverse (drop left entries) ++ explained_newest a n (reverse (take left entries))
explain_start a entries left is n =
    sym (ap (λ es. reverse es ++ explained_newest a n (reverse (take left entries))) (drop_all left entries (omega (arith, is))) ∙ ap (λ es. explained_newest a n (reverse es)) (take_all left entries (omega (arith, is))))

pub explain_end : (a : ℕ) (entries : List Entry) (left : ℕ) → left ≤ 0
    → ((n : ℕ) → explained_newest a n (reverse entries) ≡ reverse (drop left entries) ++ explained_newest a n (reverse (take left entries))) → (n : ℕ) → explained_newest a n (reverse entries) ≡ reverse entries
explain_end a entries left low h n =
    let z : left ≡ 0 = omega (arith, low) in
    h n ∙ ap (λ k. reverse (drop k entries) ++ explained_newest a n (reverse (take k entries))) z ∙ append-nil (reverse entries)

-- two entries that stand at one place are one
pub read_same : (entries : List Entry) (j : ℕ) (e f : Entry) → j < length entries → e ≡ get_or entries j e → f ≡ get_or entries j f → e ≡ f
read_same entries j e f low p q = p ∙ get_or-any entries j e f low ∙ sym q
  where
    get_or-any : (xs : List Entry) (i : ℕ) (d c : Entry) → i < length xs → get_or xs i d ≡ get_or xs i c
    get_or-any xs i d c h = get_or_from_slice_get xs i (get_or xs i c) d (slice_get-get_or xs i c h)

-- ---- the newest entry is the only one

-- where the atom has no value, no entry gets a reason
untouched : (a n : ℕ) (stack : List Entry) → value_of stack a ≡ None → explain a n stack ≡ stack
untouched a n [] none = refl
untouched a n (e ∷ rest) none = by_atom (untouched a n rest) (nat_eq e.atom a) refl
  where
    some_none : {v : Value} → Some v ≡ None → ⊥
    some_none p = cc

    by_atom : (value_of rest a ≡ None → explain a n rest ≡ rest) → (b : Bool) → nat_eq e.atom a ≡ b → explain a n (e ∷ rest) ≡ e ∷ rest
    by_atom below true q = absurd (some_none (ap (λ b. cond b (Some e.value) (value_of rest a)) (sym q) ∙ none))
    by_atom below false q =
        let same : explained a n e ≡ e = ap (λ b. (let f : Entry = record e { why = cond b (with_reason e.why n) e.why } in f)) q in
        let others = below (ap (λ b. cond b (Some e.value) (value_of rest a)) (sym q) ∙ none) in
        λ i. same i ∷ others i

-- an entry that is explained stays where no reason is wanted of it
stays : (a n : ℕ) (e : Entry) → is_unexplained_entry e a ≡ false → explained a n e ≡ e
stays a n e off = ap (λ w. (let f : Entry = record e { why = w } in f)) (by_why e.why (nat_eq e.atom a) off)
  where
    by_why : (w : Why) (b : Bool) → (is_unexplained_why w && b) ≡ false → cond b (with_reason w n) w ≡ w
    by_why (Given m) true q = refl
    by_why (Given m) false q = refl
    by_why Chosen true q = refl
    by_why Chosen false q = refl
    by_why (Closed None) true q = cc
    by_why (Closed None) false q = refl
    by_why (Closed (Some m)) true q = refl
    by_why (Closed (Some m)) false q = refl

-- and one of which it is wanted gets it
gets : (a n : ℕ) (e : Entry) → is_unexplained_entry e a ≡ true → explained a n e ≡ record e { why = Closed (Some n) }
gets a n e on = ap (λ w. (let f : Entry = record e { why = w } in f)) (by_why e.why (nat_eq e.atom a) on)
  where
    by_why : (w : Why) (b : Bool) → (is_unexplained_why w && b) ≡ true → cond b (with_reason w n) w ≡ Closed (Some n)
    by_why (Given m) b q = cc
    by_why Chosen b q = cc
    by_why (Closed None) true q = refl
    by_why (Closed None) false q = cc
    by_why (Closed (Some m)) b q = cc

-- a closed atom had no value before
none_below : (w : Why) → is_unexplained_why w ≡ true → (before : Option Value) (v : Value) → MayClose before v w → before ≡ None
none_below (Given m) h before v c = cc
none_below Chosen h before v c = cc
none_below (Closed None) h before v c = c.0
none_below (Closed (Some m)) h before v c = cc

-- on a stack as calls leave it an atom has one closed entry at most: the newest is the one that a search means
pub newest_is_all : (atoms a n : ℕ) (stack : List Entry) → IsStackOf atoms stack → explained_newest a n stack ≡ explain a n stack
newest_is_all atoms a n [] h = refl
newest_is_all atoms a n (e ∷ rest) h = by_entry (newest_is_all atoms a n rest h.1) (is_unexplained_entry e a) refl
  where
    by_entry : explained_newest a n rest ≡ explain a n rest → (b : Bool) → is_unexplained_entry e a ≡ b → explained_newest a n (e ∷ rest) ≡ explain a n (e ∷ rest)
    by_entry below true q =
        let same : e.atom ≡ a = nat_eq-true e.atom a (and_right (is_unexplained_why e.why) (nat_eq e.atom a) q) in
        let none : value_of rest a ≡ None = subst (λ x. value_of rest x ≡ None) same (none_below e.why (and_left (is_unexplained_why e.why) (nat_eq e.atom a) q) (value_of rest e.atom) e.value h.0.closes) in
        let first = gets a n e q in
        let others = untouched a n rest none in
        ap (λ b. cond b (record e { why = Closed (Some n) } ∷ rest) (e ∷ explained_newest a n rest)) q ∙ (λ i. sym first i ∷ sym others i)
    by_entry below false q =
        let first = stays a n e q in
        ap (λ b. cond b (record e { why = Closed (Some n) } ∷ rest) (e ∷ explained_newest a n rest)) q ∙ (λ i. sym first i ∷ below i)
