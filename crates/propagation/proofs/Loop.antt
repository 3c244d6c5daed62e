-- Entries are taken up one after another.
use Rattle.std.proofs.Common.{◌≡◌, ℕ, suc, zero, ◌+◌, ◌<◌, ◌≤◌, List, [], ◌∷◌, ◌++◌, length, drop, reverse, refl, sym, ◌∙◌, ap, subst, inl, inr, arith}
use Rattle.std.specs.Prelude.{Option, Some, slice_get, ⊤}
use Rattle.std.proofs.lemmas.List.{reverse-append, length-reverse}
use Rattle.alpha_outside.specs.Outside.{Journal}
use Rattle.alpha_outside.specs.declared.event.Event.{Event}
use Rattle.search_values.specs.declared.entry.Entry.{Entry}
use Rattle.search_values.specs.Nogoods.{Nogood}
use Rattle.trail.specs.Assigning.{Trailed}
use Rattle.nogood_store.specs.Stored.{Stored}
use Rattle.nogood_store.specs.Watched.{Watching, watch_count}
use Rattle.nogood_store.specs.Matching.{taken_up, Matches}
use Rattle.propagation.specs.Runs.{literal_of, Puts, Nothing, Then, OneMore, Ran, TheseSuffice, OthersStay, SameNogoods, TakesUp, NoEntry, OneEntry, IsTakenUp}
use Rattle.propagation.proofs.Running.{ran_on, ran_start}

-- ---- entries stay in their places

-- the first list is the beginning of the second
abbrev Begins : List Entry → List Entry → Type 0
Begins a b = (more : List Entry) × (b ≡ a ++ more)

append_assoc : (xs ys zs : List Entry) → (xs ++ ys) ++ zs ≡ xs ++ (ys ++ zs)
append_assoc [] ys zs = refl
append_assoc (x ∷ xs) ys zs = ap (λ ws. x ∷ ws) (append_assoc xs ys zs)

append_none : (xs : List Entry) → xs ≡ xs ++ []
append_none [] = refl
append_none (x ∷ xs) = ap (λ ys. x ∷ ys) (append_none xs)

one_more_begins : (a stack : List Entry) (e : Entry) → Begins (reverse a) (reverse stack) → Begins (reverse a) (reverse (e ∷ stack))
one_more_begins a stack e b = (b.0 ++ e ∷ [], reverse-append (e ∷ []) stack ∙ ap (λ (s : List Entry). s ++ e ∷ []) b.1 ∙ append_assoc (reverse a) b.0 (e ∷ []))

pub puts_begins : (ngs : List Nogood) (a b : List Entry) (es : List Event) → Puts ngs a es b → Begins (reverse a) (reverse b)
puts_begins ngs a _ _ Nothing = ([], append_none (reverse a))
puts_begins ngs a _ _ (Then events stack p n x v ng at g) = one_more_begins a stack _ (puts_begins ngs a stack events p)

pub more_begins : (ngs : List Nogood) (a stack b : List Entry) → Begins (reverse a) (reverse stack) → OneMore ngs stack b → Begins (reverse a) (reverse b)
more_begins ngs a stack b k (inl e) = subst (λ (s : List Entry). Begins (reverse a) (reverse s)) (sym e) k
more_begins ngs a stack b k (inr w) = subst (λ (s : List Entry). Begins (reverse a) (reverse s)) (sym w.6) (one_more_begins a stack _ k)

drop_append : (k : ℕ) (xs ys : List Entry) → k ≤ length xs → drop k (xs ++ ys) ≡ drop k xs ++ ys
drop_append zero xs ys h = refl
drop_append (suc k) [] ys h = absurd (omega (arith, h))
drop_append (suc k) (x ∷ xs) ys h = drop_append k xs ys (omega (arith, h))

get_drop : (k i : ℕ) (xs : List Entry) → slice_get (drop k xs) i ≡ slice_get xs (i + k)
get_drop zero i xs = let e : i ≡ i + 0 = omega arith in ap (slice_get xs) e
get_drop (suc k) i [] = refl
get_drop (suc k) i (x ∷ xs) = get_drop k i xs ∙ (let e : suc (i + k) ≡ i + suc k = omega arith in ap (slice_get (x ∷ xs)) e)

next_is : (xs rest : List Entry) (e : Entry) → slice_get (xs ++ rest) (length xs) ≡ Some e → (left : List Entry) × (rest ≡ e ∷ left)
next_is [] [] e h = cc
next_is [] (x ∷ rest) e h = (rest, (let same : x ≡ e = cc in ap (λ (y : Entry). y ∷ rest) same))
next_is (x ∷ xs) rest e h = next_is xs rest e h

-- so many entries were taken up, and no nogood was struck
pub record UpTo (from next : ℕ) (s0 s : List Stored) (t0 t : Trailed) (told0 told : Option Journal) (steps0 steps f0 f : ℕ) : Type 0 where
  pub reached : from ≤ next
  pub within : next ≤ length t.stack
  pub ran : Ran s0 s t0 t told0 told
  pub suffice : TheseSuffice (λ n. ⊤) (taken_up next t.stack) t.stack s
  pub entries : List Entry
  pub cost : ℕ
  pub taken : TakesUp s0 entries cost s
  pub rest : List Entry
  pub which : drop from (reverse t.stack) ≡ entries ++ rest
  pub count : length entries + from ≡ next
  pub bound : steps ≤ steps0 + cost
  pub later : f0 ≤ f

pub up_start : (from : ℕ) (s : List Stored) (t : Trailed) (told : Option Journal) (steps f : ℕ) → from ≤ length t.stack → Matches s t → TheseSuffice (λ n. ⊤) (taken_up from t.stack) t.stack s
    → UpTo from from s s t t told told steps steps f f
up_start from s t told steps f low m all = record {
  reached = omega arith;
  within = low;
  ran = ran_start s t told m;
  suffice = all;
  entries = [];
  cost = 0;
  taken = NoEntry;
  rest = drop from (reverse t.stack);
  which = refl;
  count = omega arith;
  bound = omega arith;
  later = omega arith;
}

module _ (from next : ℕ) (s0 s1 s2 : List Stored) (t0 t1 t2 : Trailed) (a b c : Option Journal) (steps0 steps1 steps2 f0 f1 f2 : ℕ) (up : UpTo from next s0 s1 t0 t1 a b steps0 steps1 f0 f1)
    (e : Entry) (at : slice_get (reverse t1.stack) next ≡ Some e) (same : SameNogoods s1 s2) (stay : OthersStay (Watching s1 (literal_of e)) s1 s2) (begins : Begins (reverse t1.stack) (reverse t2.stack))
    (costs : steps2 ≤ steps1 + watch_count s1 (literal_of e)) where
  taken_one : TakesUp s0 (up.entries ++ e ∷ []) (up.cost + watch_count s1 (literal_of e)) s2
  taken_one = OneEntry up.entries up.cost s1 up.taken e s2 same stay

  left_is : (left : List Entry) × (up.rest ≡ e ∷ left)
  left_is = next_is up.entries up.rest e (
      ap (λ (s : List Entry). slice_get s (length up.entries)) (sym up.which)
      ∙ get_drop from (length up.entries) (reverse t1.stack)
      ∙ ap (slice_get (reverse t1.stack)) up.count
      ∙ at)

  which_next : drop from (reverse t2.stack) ≡ (up.entries ++ e ∷ []) ++ (left_is.0 ++ begins.0)
  which_next =
      ap (drop from) begins.1
      ∙ drop_append from (reverse t1.stack) begins.0 (let r = up.reached in let w = up.within in omega (arith, r, w, length-reverse t1.stack))
      ∙ ap (λ (s : List Entry). s ++ begins.0) (up.which ∙ ap (λ (s : List Entry). up.entries ++ s) left_is.1)
      ∙ append_assoc up.entries (e ∷ left_is.0) begins.0
      ∙ sym (append_assoc up.entries (e ∷ []) (left_is.0 ++ begins.0))

  -- what it cost, also where it ends here
  pub up_cost : IsTakenUp from s0 s2 t2.stack steps0 steps2
  up_cost = record {
    entries = up.entries ++ e ∷ [];
    cost = up.cost + watch_count s1 (literal_of e);
    taken = taken_one;
    which = (left_is.0 ++ begins.0, which_next);
    bound = let k = up.bound in omega (arith, k, costs);
  }

  pub up_next : next < length t1.stack → f1 ≤ f2 → Ran s1 s2 t1 t2 b c → TheseSuffice (λ n. ⊤) (taken_up (next + 1) t2.stack) t2.stack s2 → UpTo from (next + 1) s0 s2 t0 t2 a c steps0 steps2 f0 f2
  up_next low rise ran all = record {
    reached = let r = up.reached in omega (arith, r);
    within = let l = ap length begins.1 in let k = front_length (reverse t1.stack) begins.0 in omega (arith, low, l, k, length-reverse t1.stack, length-reverse t2.stack);
    ran = ran_on s0 s1 s2 t0 t1 t2 a b c up.ran ran;
    suffice = all;
    entries = up.entries ++ e ∷ [];
    cost = up.cost + watch_count s1 (literal_of e);
    taken = taken_one;
    rest = left_is.0 ++ begins.0;
    which = which_next;
    count = let k = up.count in let l = front_length up.entries (e ∷ []) in omega (arith, k, l);
    bound = let k = up.bound in omega (arith, k, costs);
    later = let k = up.later in omega (arith, k, rise);
  }
    where
      front_length : (xs ys : List Entry) → length (xs ++ ys) ≡ length xs + length ys
      front_length [] ys = omega arith
      front_length (x ∷ xs) ys = omega (arith, front_length xs ys)

-- where the loop ends
pub up_end : (from next : ℕ) (s0 s : List Stored) (t0 t : Trailed) (a b : Option Journal) (steps0 steps f0 f : ℕ) → UpTo from next s0 s t0 t a b steps0 steps f0 f → IsTakenUp from s0 s t.stack steps0 steps
up_end from next s0 s t0 t a b steps0 steps f0 f up = record { entries = up.entries; cost = up.cost; taken = up.taken; which = (up.rest, up.which); bound = up.bound }

-- an entry stands at each place
pub there : (xs : List Entry) (i : ℕ) → i < length xs → (x : Entry) × (slice_get xs i ≡ Some x)
there [] i h = absurd (omega (arith, h))
there (x ∷ xs) zero h = (x, refl)
there (x ∷ xs) (suc i) h = there xs i (omega (arith, h))
