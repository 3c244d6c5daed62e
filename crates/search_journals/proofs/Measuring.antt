-- Each step leaves less to do before the literals chosen are learned.
use Rattle.std.proofs.Common.{◌≡◌, ℕ, zero, suc, ◌+◌, ◌-◌, ◌<◌, ◌≤◌, ◌⊎◌, List, ◌∷◌, length, refl, sym, ◌∙◌, ap, subst, inl, inr, arith}
use Rattle.std.specs.Prelude.{Some, None}
use Rattle.alpha_outside.specs.declared.literal.Value.{Value}
use Rattle.alpha_outside.specs.declared.literal.Value.TheVariants.{True, MustBe, False}
use Rattle.search_values.specs.declared.entry.Why.{Why}
use Rattle.search_values.specs.declared.entry.Entry.{Entry}
use Rattle.search_values.specs.Values.{value_of, entry_on}
use Rattle.search_values.specs.Nogoods.{Nogood, Gives}
use Rattle.search_values.proofs.Basics.{value_cases}
use Rattle.search_state.specs.Searching.{Searching}
use Rattle.search_journals.specs.Measures.{id_count, room, room_below, work_left}

-- a value that a nogood gives takes room away
pub gives_falls : (stack : List Entry) (ng : Nogood) (a : ℕ) (v : Value) → Gives stack ng a v → room (Some v) < room (value_of stack a)
gives_falls stack ng a True r =
    elim r.not_yet [
      | inl n ↦ subst (λ z. room (Some True) < room z) (sym n) (omega arith)
      | inr m ↦ subst (λ z. room (Some True) < room z) (sym m) (omega arith)
    ]
gives_falls stack ng a MustBe r = subst (λ z. room (Some MustBe) < room z) (sym r.0.unassigned) (omega arith)
gives_falls stack ng a False r = subst (λ z. room (Some False) < room z) (sym r.unassigned) (omega arith)

-- so does a decision
pub choice_falls : (stack : List Entry) (b : ℕ) → (value_of stack b ≡ None) ⊎ (value_of stack b ≡ Some MustBe)
    → room (Some True) < room (value_of stack b)
choice_falls stack b (inl e) = subst (λ z. room (Some True) < room z) (sym e) (omega arith)
choice_falls stack b (inr e) = subst (λ z. room (Some True) < room z) (sym e) (omega arith)

-- and so does a closed atom
pub closed_falls : (stack : List Entry) (x : ℕ) → value_of stack x ≡ None → room (Some False) < room (value_of stack x)
closed_falls stack x e = subst (λ z. room (Some False) < room z) (sym e) (omega arith)

-- one number is below another or not
below_or : (a b : ℕ) → (a < b) ⊎ (b ≤ a)
below_or a zero = inr (omega arith)
below_or zero (suc b) = inl (omega arith)
below_or (suc a) (suc b) = elim (below_or a b) [ inl h ↦ inl (omega arith) | inr h ↦ inr (omega arith) ]

-- an entry leaves the room of the ids below its atom
room_same : (e : Entry) (stack : List Entry) (n : ℕ) → n ≤ e.atom → room_below (e ∷ stack) n ≡ room_below stack n
room_same e stack zero h = refl
room_same e stack (suc n) h = elim (value_cases e stack n) [
  | inl c ↦ absurd (let k = c.0 in omega arith)
  | inr c ↦ (let r = room_same e stack n (omega arith) in let w : room (value_of (e ∷ stack) n) ≡ room
      (value_of stack n) = ap room c.1 in omega (arith, r, w))
]

-- and less of those above
room_falls : (e : Entry) (stack : List Entry) → room (Some e.value) < room (value_of stack e.atom) → (n : ℕ) → e.atom < n
    → room_below (e ∷ stack) n < room_below stack n
room_falls e stack f zero h = absurd (omega arith)
room_falls e stack f (suc n) h = elim (value_cases e stack n) [
  | inl c ↦ (let r = room_same e stack n (let k = c.0 in omega arith) in
      let w : room (value_of (e ∷ stack) n) ≡ room (Some e.value) = ap room c.1 in
      let u : room (Some e.value) < room (value_of stack n) = subst (λ z. room (Some e.value) < room (value_of stack z)) c.0 f in
      omega (arith, r, w, u))
  | inr c ↦ (let m : e.atom < n = (let k = c.0 in grind arith) in
      let r = room_falls e stack f n m in
      let w : room (value_of (e ∷ stack) n) ≡ room (value_of stack n) = ap room c.1 in
      omega (arith, r, w))
]

-- an id has a place in 32 bits
id_fits : (a : ℕ) → a < 4294967296 → a < id_count
unfolding id_count
id_fits a h = h

-- a value leaves less to do: it waits to be joined, but takes room away, which counts twice
pub assigned_falls : (v v' : Searching) (a : ℕ) (value : Value) (why : Why) → v'.left ≡ v.left → v'.joined ≡ v.joined
    → v'.stack ≡ entry_on v.stack a value why ∷ v.stack → a < 4294967296
    → room (Some value) < room (value_of v.stack a) → work_left v' < work_left v
assigned_falls v v' a value why left joined stack low f =
    let r = room_falls (entry_on v.stack a value why) v.stack f id_count (id_fits a low) in
    let new : room_below v'.stack id_count ≡ room_below (entry_on v.stack a value why ∷ v.stack) id_count =
    ap (λ z. room_below z id_count) stack in
    let len : length v'.stack ≡ length (entry_on v.stack a value why ∷ v.stack) = ap length stack in
    let more : length (entry_on v.stack a value why ∷ v.stack) ≡ suc (length v.stack) = λ i. suc (length v.stack) in
    less v'.left v.left (room_below v'.stack id_count) (room_below v.stack id_count) (length v'.stack)
    (length v.stack) v'.joined v.joined left joined (len ∙ more) (subst (λ z. z < room_below v.stack id_count) (sym new) r)
  where
    less : (l' l r' r n' n j' j : ℕ) → l' ≡ l → j' ≡ j → n' ≡ suc n → r' < r → l' + (r' + r') + (n' - j') < l + (r + r) + (n - j)
    less l' l r' r n' n j' j left joined more fall = omega (arith, left, joined, more, fall)

-- so does an entry that is joined, whatever is made of it
pub joined_falls : (v v' : Searching) → v'.left ≤ v.left → v'.stack ≡ v.stack → v'.joined ≡ v.joined + 1 → v.joined < length v.stack
    → work_left v' < work_left v
joined_falls v v' left stack joined low =
    let same : room_below v'.stack id_count ≡ room_below v.stack id_count = ap (λ z. room_below z id_count) stack in
    let len : length v'.stack ≡ length v.stack = ap length stack in
    less v'.left v.left (room_below v'.stack id_count) (room_below v.stack id_count) (length v'.stack)
    (length v.stack) v'.joined v.joined left same len joined low
  where
    less : (l' l r' r n' n j' j : ℕ) → l' ≤ l → r' ≡ r → n' ≡ n → j' ≡ j + 1 → j < n → l' + (r' + r') + (n' - j') < l + (r + r) + (n - j)
    less l' l r' r n' n j' j left same len joined low = omega (arith, left, same, len, joined, low)

-- where nothing is made, given or joined, as much is left to do; where fewer may be made, no more
pub none_more : (v v' : Searching) → v'.left ≤ v.left → v'.stack ≡ v.stack → v'.joined ≡ v.joined → work_left v' ≤ work_left v
none_more v v' left stack joined =
    let same : room_below v'.stack id_count ≡ room_below v.stack id_count = ap (λ z. room_below z id_count) stack in
    let len : length v'.stack ≡ length v.stack = ap length stack in
    no_more v'.left v.left (room_below v'.stack id_count) (room_below v.stack id_count) (length v'.stack)
    (length v.stack) v'.joined v.joined left same len joined
  where
    no_more : (l' l r' r n' n j' j : ℕ) → l' ≤ l → r' ≡ r → n' ≡ n → j' ≡ j → l' + (r' + r') + (n' - j') ≤ l + (r + r) + (n - j)
    no_more l' l r' r n' n j' j left same len joined = omega (arith, left, same, len, joined)
