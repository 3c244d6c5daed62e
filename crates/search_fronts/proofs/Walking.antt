-- Entries of a stack, seen from the oldest on.
use Rattle.std.proofs.Common.{◌≡◌, ℕ, ◌+◌, ◌-◌, ◌<◌, ◌≤◌, true, false, cond, List, [], ◌∷◌, ◌++◌, length, reverse, take, drop, get_or, refl, sym, ◌∙◌, ap, subst, inl, inr, arith}
use Rattle.std.specs.Prelude.{nat_le}
use Rattle.std.proofs.Math.Seq.{take-length}
use Rattle.std.proofs.lemmas.List.{take_more, take-append-drop, take-append-le, length-take-le, length-reverse, reverse-append, reverse-reverse}
use Rattle.lists.specs.Lists.{◌∈◌}
use Rattle.lists.proofs.ListLemmas.{∈-append_left, ∈-append_right}
use Rattle.search_values.specs.declared.entry.Entry.{Entry}
use Rattle.search_values.specs.Values.{level_of, opened, back_to}
use Rattle.trail.specs.Assigning.{IsEntryOf, IsStackOf}

-- a member of a list turned round is one of the list
pub ∈-reverse : {A : Type 0} (x : A) (xs : List A) → x ∈ xs → x ∈ reverse xs
∈-reverse x [] h = h
∈-reverse x (y ∷ xs) (inl e) = subst (λ ys. x ∈ ys) (sym (reverse-append (y ∷ []) xs)) (∈-append_right x (reverse xs) (y ∷ []) (inl e))
∈-reverse x (y ∷ xs) (inr h) = subst (λ ys. x ∈ ys) (sym (reverse-append (y ∷ []) xs))
    (∈-append_left x (reverse xs) (y ∷ []) (∈-reverse x xs h))

-- the entries below are a stack as well
pub stack_below : (atoms : ℕ) (above below : List Entry) → IsStackOf atoms (above ++ below) → IsStackOf atoms below
stack_below atoms [] below are = are
stack_below atoms (e ∷ above) below are = stack_below atoms above below are.1

-- what is in the entries, the oldest first, is on the stack
pub in_stack : (stack entries : List Entry) (e : Entry) → entries ≡ reverse stack → e ∈ entries → e ∈ stack
in_stack stack entries e turned among = subst (λ s. e ∈ s) (ap reverse turned ∙ reverse-reverse stack) (∈-reverse e entries among)

-- and what is on the stack is in them
pub in_entries : (stack entries : List Entry) (e : Entry) → entries ≡ reverse stack → e ∈ stack → e ∈ entries
in_entries stack entries e turned among = subst (λ s. e ∈ s) (sym turned) (∈-reverse e stack among)

-- the entry at a place, and the stack below it
pub record EntryAt (entries : List Entry) (j : ℕ) (e : Entry) : Type 0 where
  pub first : reverse (take (j + 1) entries) ≡ e ∷ reverse (take j entries)
  pub cut : reverse entries ≡ reverse (drop (j + 1) entries) ++ e ∷ reverse (take j entries)

-- each place has its entry
pub entry_at : (entries : List Entry) (j : ℕ) (e : Entry) → j < length entries → e ≡ get_or entries j e → EntryAt entries j e
entry_at entries j e h here =
    let one : take (j + 1) entries ≡ take j entries ++ e ∷ [] = take_more entries j e h ∙ ap (λ (z : Entry). take j entries ++ z ∷ [])
    (sym here) in
    let turned : reverse (take (j + 1) entries) ≡ e ∷ reverse (take j entries) = ap reverse one ∙ reverse-append (take j entries)
    (e ∷ []) in
    record {
      first = turned;
      cut = ap reverse (sym (take-append-drop (j + 1) entries)) ∙ reverse-append (take (j + 1) entries) (drop (j + 1) entries) ∙ ap
          (λ s. reverse (drop (j + 1) entries) ++ s) turned;
    }

-- the newest of so many
pub newest : (entries : List Entry) (left : ℕ) (e : Entry) → 0 < left → left ≤ length entries → e ≡ get_or entries (left - 1) e
    → reverse (take left entries) ≡ e ∷ reverse (take (left - 1) entries)
newest entries left e some low here =
    let next : left ≡ (left - 1) + 1 = omega (arith, some) in
    ap (λ n. reverse (take n entries)) next ∙ (entry_at entries (left - 1) e (omega (arith, some, low)) here).first

-- so many of the oldest are as many
pub count : (entries : List Entry) (n : ℕ) → n ≤ length entries → length (reverse (take n entries)) ≡ n
count entries n low = length-reverse (take n entries) ∙ length-take-le n entries low

-- the stack above and below the entry at a place
pub cut_at : (stack entries : List Entry) (j : ℕ) (e : Entry) → entries ≡ reverse stack → j < length entries → e ≡ get_or entries j e
    → stack ≡ reverse (drop (j + 1) entries) ++ e ∷ reverse (take j entries)
cut_at stack entries j e turned h here = sym (ap reverse turned ∙ reverse-reverse stack) ∙ (entry_at entries j e h here).cut

-- an entry and those below it are a stack
pub stack_at : (atoms : ℕ) (stack entries : List Entry) → entries ≡ reverse stack → IsStackOf atoms stack → (j : ℕ) (e : Entry)
    → j < length entries → e ≡ get_or entries j e → IsStackOf atoms (e ∷ reverse (take j entries))
stack_at atoms stack entries turned are j e h here =
    stack_below atoms (reverse (drop (j + 1) entries)) (e ∷ reverse (take j entries))
    (subst (λ s. IsStackOf atoms s) (cut_at stack entries j e turned h here) are)

-- the atom of an entry has its place
pub entry_placed : (atoms : ℕ) (stack entries : List Entry) → entries ≡ reverse stack → IsStackOf atoms stack → (j : ℕ) (e : Entry)
    → j < length entries → e ≡ get_or entries j e → e.atom < atoms
entry_placed atoms stack entries turned are j e h here = (stack_at atoms stack entries turned are j e h here).0.placed

-- an entry at a place is on the stack
pub entry_in : (stack entries : List Entry) → entries ≡ reverse stack → (j : ℕ) (e : Entry) → j < length entries → e ≡ get_or entries j e
    → e ∈ stack
entry_in stack entries turned j e h here =
    subst (λ s. e ∈ s) (sym (cut_at stack entries j e turned h here))
    (∈-append_right e (reverse (drop (j + 1) entries)) (e ∷ reverse (take j entries)) (inl refl))

-- as many of the oldest entries as stand below others are those
pub oldest_below : (above rest : List Entry) → reverse (take (length rest) (reverse (above ++ rest))) ≡ rest
oldest_below above rest =
    let same : length (reverse rest) ≡ length rest = length-reverse rest in
    ap reverse (ap (take (length rest)) (reverse-append above rest)
    ∙ take-append-le (length rest) (reverse rest) (reverse above) (omega (arith, same))
    ∙ ap (λ n. take n (reverse rest)) (sym same) ∙ take-length (reverse rest))
    ∙ reverse-reverse rest

-- all of them are the stack
pub oldest_all : (stack entries : List Entry) → entries ≡ reverse stack → (n : ℕ) → n ≡ length entries → reverse (take n entries) ≡ stack
oldest_all stack entries turned n all =
    ap (λ m. reverse (take m entries)) all ∙ ap reverse (take-length entries) ∙ ap reverse turned ∙ reverse-reverse stack

-- ---- levels

-- an entry of a level that stays, stays with all below it
pub stays : (atoms level : ℕ) (e : Entry) (rest : List Entry) → IsEntryOf atoms e rest → e.level ≤ level → back_to level (e ∷ rest) ≡ e ∷ rest
stays atoms level e rest is low =
    let told = is.level_told in
    go (level_of rest + opened e.why) (omega (arith, low, told))
  where
    yes : (n m : ℕ) → n ≤ m → nat_le n m ≡ true
    yes n m h = grind arith

    go : (n : ℕ) → n ≤ level → cond (nat_le n level) (e ∷ rest) (back_to level rest) ≡ e ∷ rest
    go n h = ap (λ b. cond b (e ∷ rest) (back_to level rest)) (yes n level h)

-- another one goes
pub goes : (atoms level : ℕ) (e : Entry) (rest : List Entry) → IsEntryOf atoms e rest → ¬ (e.level ≤ level)
    → back_to level (e ∷ rest) ≡ back_to level rest
goes atoms level e rest is high =
    let told = is.level_told in
    go (level_of rest + opened e.why) (λ low. high (omega (arith, low, told)))
  where
    no : (n m : ℕ) → ¬ (n ≤ m) → nat_le n m ≡ false
    no n m h = grind arith

    go : (n : ℕ) → ¬ (n ≤ level) → cond (nat_le n level) (e ∷ rest) (back_to level rest) ≡ back_to level rest
    go n h = ap (λ b. cond b (e ∷ rest) (back_to level rest)) (no n level h)
