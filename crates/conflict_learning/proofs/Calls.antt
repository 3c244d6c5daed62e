-- What the calls of an analysis need: places of literals, and bounds.
use Rattle.std.proofs.Common.{◌≡◌, ℕ, ◌+◌, ◌<◌, ◌≤◌, Bool, true, false, cond, List, [], ◌∷◌, ◌++◌, length, length-take, reverse, take, drop, set, get_or, refl, sym, ◌∙◌, ap, subst, inl, inr, arith}
use Rattle.std.specs.Prelude.{Option, Some, None, nat_eq}
use Rattle.std.proofs.lemmas.List.{take_all, take_more, reverse-append, reverse-reverse, length-reverse}
use Rattle.std.proofs.lemmas.Option.{get_or_from_slice_get, slice_get-get_or}
use Rattle.lists.specs.Lists.{◌∈◌}
use Rattle.lists.proofs.Places.{∈-get_or}
use Rattle.alpha_outside.specs.declared.literal.Lit.{Lit}
use Rattle.alpha_outside.specs.declared.literal.Value.{Value}
use Rattle.search_values.specs.declared.entry.Entry.{Entry}
use Rattle.search_values.specs.Values.{value_of, is_closed, IsClosed}
use Rattle.search_values.proofs.Basics.{nat_eq-true}
use Rattle.trail.specs.Assigning.{IsStackOf}
use Rattle.conflict_learning.specs.FirstValues.{or_place, first_place}
use Rattle.conflict_learning.specs.Pending.{IsFirstAt, ArePlaces, IsPlaced, MayMark, AreMarked, pending, open_at, is_open_at, one_if}
use Rattle.conflict_learning.proofs.Stacks.{has_first, first_valued, holds_by, place_above, stack_below}
use Rattle.conflict_learning.proofs.Marks.{open_few}
use Rattle.conflict_learning.proofs.Highest.{valued_placed}
use Rattle.conflict_learning.proofs.Marking.{parted, first_read, mark_step}
use Rattle.conflict_learning.proofs.Reasoning.{first_in, open_first}

-- a place is below the height
pub place_low : (stack : List Entry) (a p : ℕ) → first_place stack a ≡ Some p → p < length stack
place_low [] a p h = cc
place_low (e ∷ rest) a p h = go (nat_eq e.atom a) (first_place rest a) refl h (place_low rest a p)
  where
    go : (b : Bool) (o : Option ℕ) → first_place rest a ≡ o → cond b (or_place o (length rest)) o ≡ Some p
        → (first_place rest a ≡ Some p → p < length rest) → p < length (e ∷ rest)
    go true None q h below = let k : length rest ≡ p = cc in omega (arith, k)
    go true (Some n) q h below = let k = below (q ∙ h) in omega (arith, k)
    go false o q h below = let k = below (q ∙ h) in omega (arith, k)

-- an atom with a value has a place
pub valued_place : (atoms : ℕ) (stack : List Entry) → IsStackOf atoms stack → (a : ℕ) (v : Value) → value_of stack a ≡ Some v
    → IsPlaced stack a
valued_place atoms stack are a v h = let f = has_first atoms stack are a v h in (f.place, f.is)

-- each literal that is to be marked has one
pub may_placed : (atoms : ℕ) (stack : List Entry) → IsStackOf atoms stack → (left : ℕ) (marks : List Bool) (top : ℕ) (ls : List Lit)
    → MayMark stack marks (reverse (take left (reverse stack))) top ls → (l : Lit) → l ∈ ls → IsPlaced stack l.atom
may_placed atoms stack are left marks top ls may l i = elim (may l i) [
  | inl m ↦ (
      let cut = parted stack left in
      let b = holds_by atoms (reverse (take left (reverse stack)))
      (stack_below atoms (reverse (drop left (reverse stack))) (reverse (take left (reverse stack))) (subst (IsStackOf atoms) cut are)) l
      m.0 in (
        b.place,
        ap (λ s. first_place s l.atom) cut ∙ place_above (reverse (drop left (reverse stack)))
            (reverse (take left (reverse stack))) l.atom b.place b.is,
      ))
  | inr m ↦ (m.0, m.1)
]

-- what is read of the table is the place
pub read_place : (stack : List Entry) (places : List (Option ℕ)) → ArePlaces stack places → (a : ℕ) → IsPlaced stack a
    → (place : ℕ) (read : Option ℕ) → place ≡ a → read ≡ get_or places place read
    → (p : ℕ) × (read ≡ Some p) × (first_place stack a ≡ Some p) × (place < length places) × (p < length stack)
read_place stack places are a placed place read same is =
    let at = are a placed.0 placed.1 in
    let low : place < length places = (let k = at.0 in omega (arith, k, same)) in
    let found : read ≡ Some placed.0 = is ∙ ap (λ n. get_or places n read) same ∙ any_default a at.0 ∙ at.1 in
    (placed.0, found, placed.1, low, place_low stack a placed.0 placed.1)
  where
    any_default : (n : ℕ) → n < length places → get_or places n read ≡ get_or places n None
    any_default n h = get_or_from_slice_get places n (get_or places n None) read (slice_get-get_or places n None h)

-- an atom without a place has no value
none_valued : (stack : List Entry) (a : ℕ) → first_place stack a ≡ None → value_of stack a ≡ None
none_valued [] a h = refl
none_valued (e ∷ rest) a h = go (nat_eq e.atom a) (first_place rest a) refl h (none_valued rest a)
  where
    go : (b : Bool) (o : Option ℕ) → first_place rest a ≡ o → cond b (or_place o (length rest)) o ≡ None
        → (first_place rest a ≡ None → value_of rest a ≡ None)
        → cond b (Some e.value) (value_of rest a) ≡ None
    go true None q h below = cc
    go true (Some n) q h below = cc
    go false o q h below = below (q ∙ h)

-- at a place stands the entry that gave the first value
pub placed_first : (stack : List Entry) (a p : ℕ) → first_place stack a ≡ Some p → (f : Entry) × IsFirstAt stack p f × (f.atom ≡ a)
placed_first [] a p h = cc
placed_first (e ∷ rest) a p h = go (nat_eq e.atom a) refl (first_place rest a) refl h (placed_first rest a p)
  where
    below_it : (f : Entry) × IsFirstAt rest p f × (f.atom ≡ a) → (f : Entry) × IsFirstAt (e ∷ rest) p f × (f.atom ≡ a)
    below_it r = (r.0, inr r.1, r.2)

    go : (b : Bool) → nat_eq e.atom a ≡ b → (o : Option ℕ) → first_place rest a ≡ o → cond b (or_place o (length rest)) o ≡ Some p
        → (first_place rest a ≡ Some p → (f : Entry) × IsFirstAt rest p f × (f.atom ≡ a)) → (f : Entry) × IsFirstAt (e ∷ rest) p f
        × (f.atom ≡ a)
    go true t None q h below =
        let same : e.atom ≡ a = nat_eq-true e.atom a t in
        let at : p ≡ length rest = cc in
        (e, inl (at, refl, ap (value_of rest) same ∙ none_valued rest a q), same)
    go true t (Some n) q h below = below_it (below (q ∙ h))
    go false t o q h below = below_it (below (q ∙ h))

-- the entry that is read at a place
module _ (stack entries : List Entry) (turned : entries ≡ reverse stack) (a place : ℕ) (is : first_place stack a ≡ Some place) (e : Entry)
    (read : e ≡ get_or entries place e) where
  -- it gave the atom its first value
  pub read_first : IsFirstAt stack place e × (e.atom ≡ a)
  read_first =
      let r = placed_first stack a place is in
      let same : e ≡ r.0 = read ∙ ap (λ es. get_or es place e) turned
      ∙ get_or_from_slice_get (reverse stack) place r.0 e (first_read stack place r.0 r.1) in
      (subst (λ (x : Entry). IsFirstAt stack place x) (sym same) r.1, ap (λ (x : Entry). x.atom) same ∙ r.2)

  -- where it is closed, so is the atom
  pub closed_yes : is_closed e.why ≡ true → IsClosed stack a
  closed_yes h = (e, first_in stack place e read_first.0, read_first.1, h)

  -- where it isn't closed, neither is the atom
  pub closed_no : (atoms : ℕ) → IsStackOf atoms stack → is_closed e.why ≡ false → ¬ IsClosed stack a
  closed_no atoms are h = subst (λ (x : ℕ). ¬ IsClosed stack x) read_first.1 (open_first atoms stack are place e read_first.0 h)

-- ---- the table of places

-- the entry at a place, and those below it
pub turned_step : (entries : List Entry) (j : ℕ) (e : Entry) → j < length entries → e ≡ get_or entries j e
    → reverse (take (j + 1) entries) ≡ e ∷ reverse (take j entries)
turned_step entries j e h here = ap reverse (take_more entries j e h ∙ ap (λ (z : Entry). take j entries ++ z ∷ []) (sym here))
    ∙ reverse-append (take j entries) (e ∷ [])

-- the atom of each entry has its place in the table
pub entry_placed : (atoms : ℕ) (stack entries : List Entry) → entries ≡ reverse stack → IsStackOf atoms stack → (j : ℕ) (e : Entry)
    → j < length entries → e ≡ get_or entries j e → e.atom < atoms
entry_placed atoms stack entries turned are j e h here =
    let whole : stack ≡ reverse (drop (j + 1) entries) ++ reverse (take (j + 1) entries) = parted stack (j + 1)
    ∙ ap (λ es. reverse (drop (j + 1) es) ++ reverse (take (j + 1) es)) (sym turned) in
    let below : IsStackOf atoms (reverse (take (j + 1) entries)) = stack_below atoms (reverse (drop (j + 1) entries))
    (reverse (take (j + 1) entries)) (subst (IsStackOf atoms) whole are) in
    (subst (IsStackOf atoms) (turned_step entries j e h here) below).0.placed

-- after all entries were looked at, the table has the places
pub table_ends : (atoms : ℕ) (stack entries : List Entry) → entries ≡ reverse stack → IsStackOf atoms stack
    → (places : List (Option ℕ)) (next : ℕ) → length places ≡ atoms → length entries ≤ next
    → ((a : ℕ) → a < atoms → get_or places a None ≡ first_place (reverse (take next entries)) a) → ArePlaces stack places
table_ends atoms stack entries turned are places next long over table a p is =
    let f = placed_first stack a p is in
    let v = first_valued stack p f.0 f.1 in
    let low : a < atoms = valued_placed atoms stack are a v.0 (ap (value_of stack) (sym f.2) ∙ v.1) in
    let whole : reverse (take next entries) ≡ stack = ap reverse (take_all next entries over ∙ turned) ∙ reverse-reverse stack in
    (omega (arith, low, long), table a low ∙ ap (λ s. first_place s a) whole ∙ is)

-- one literal more was marked
pub marked_next : (atoms : ℕ) (stack entries : List Entry) → entries ≡ reverse stack → IsStackOf atoms stack
    → (left top : ℕ) (old now new : List Bool) (lits : List Lit) (i : ℕ) (l : Lit)
    → length old ≡ length stack → MayMark stack old (reverse (take left (reverse stack))) top lits
    → AreMarked top (reverse (take left (reverse stack))) old now (take i lits) → i < length lits → l ≡ get_or lits i l
    → (place : ℕ) → first_place stack l.atom ≡ Some place → place < length stack → (e : Entry) → e ≡ get_or entries place e
    → (count count_now : ℕ)
    → count ≡ open_at top (pending now (reverse (take left (reverse stack)))) → new ≡ set now place true
    → count_now ≡ count + cond (get_or now place false) 0 (one_if (is_open_at top e))
    → AreMarked top (reverse (take left (reverse stack))) old new (take (i + 1) lits)
    × (count_now ≡ open_at top (pending new (reverse (take left (reverse stack)))))
marked_next atoms stack entries turned are left top old now new lits i l long may h low is place place_is room e e_is count count_now
    count_is new_is now_is =
    let done = mark_step stack (reverse (drop left (reverse stack))) (reverse (take left (reverse stack))) atoms are
    (parted stack left) top old now (take i lits) long h l place place_is
    (may l (∈-get_or lits i l low is)) new count count_now e place refl new_is (e_is ∙ ap (λ es. get_or es place e) turned) count_is now_is
    (let a = h.same_length in omega (arith, a, long, room)) in (
      subst (AreMarked top (reverse (take left (reverse stack))) old new)
          (sym (take_more lits i l low ∙ ap (λ (z : Lit). take i lits ++ z ∷ []) (sym is))) done.0,
      done.1,
    )

-- fewer are open than entries
pub open_bound : (top left : ℕ) (stack entries : List Entry) (marks : List Bool) (count : ℕ) → entries ≡ reverse stack
    → count ≡ open_at top (pending marks (reverse (take left (reverse stack)))) → count ≤ length entries
open_bound top left stack entries marks count turned is =
    let a = open_few top marks (reverse (take left (reverse stack))) in
    let b = length-reverse (take left (reverse stack)) in
    let c = length-take left (reverse stack) in
    let d = ap length turned in
    omega (arith, a, b, c, d, is)
