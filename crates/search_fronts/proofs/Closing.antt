-- How many entries stand below the first closed one, entry by entry.
use Rattle.std.proofs.Common.{◌≡◌, ◌⊎◌, ℕ, ◌+◌, ◌<◌, ◌≤◌, Bool, true, false, ◌||◌, cond, List, [], ◌∷◌, length, true≢false, refl, sym, ◌∙◌, ap, subst, inl, inr, arith}
use Rattle.std.specs.Prelude.{min, Option}
use Rattle.search_values.specs.declared.entry.Entry.{Entry}
use Rattle.search_values.specs.declared.entry.Why.{Why}
use Rattle.search_values.specs.declared.entry.Why.TheVariants.{Given, Chosen, Closed}
use Rattle.search_values.specs.Values.{is_closed, any_closed, before_closed, HasClosed}

-- whether one is closed, and whether all that stands there counts
any_cases : (stack : List Entry) → ((any_closed stack ≡ true) × (length (before_closed stack) < length stack)) ⊎
    ((any_closed stack ≡ false) × (before_closed stack ≡ stack))
any_cases [] = inr (refl, refl)
any_cases (e ∷ rest) = go (any_closed rest) (is_closed e.why) (any_cases rest)
  where
    go : (b c : Bool) → ((b ≡ true) × (length (before_closed rest) < length rest)) ⊎ ((b ≡ false) × (before_closed rest ≡ rest))
        → (((c || b) ≡ true) × (length (cond b (before_closed rest) (cond c rest (e ∷ rest))) < length (e ∷ rest)))
        ⊎ (((c || b) ≡ false) × (cond b (before_closed rest) (cond c rest (e ∷ rest)) ≡ e ∷ rest))
    go true true (inl h) = inl (refl, let low = h.1 in omega (arith, low))
    go true false (inl h) = inl (refl, let low = h.1 in omega (arith, low))
    go true c (inr h) = absurd (true≢false h.0)
    go false true h = inl (refl, omega arith)
    go false false h = inr (refl, refl)

-- one is closed where fewer stand below it
pub closed_of : (stack : List Entry) → length (before_closed stack) < length stack → any_closed stack ≡ true
closed_of stack low = elim (any_cases stack) [ inl c ↦ c.0 | inr c ↦ absurd (let same = ap length c.1 in omega (arith, low, same)) ]

-- and none where all do
pub none_of : (stack : List Entry) → ¬ (length (before_closed stack) < length stack) → any_closed stack ≡ false
none_of stack all = elim (any_cases stack) [ inl c ↦ absurd (all c.1) | inr c ↦ c.0 ]

-- the entry for this reason is closed
why_closed : (w : Why) → is_closed w ≡ true → (reason : Option ℕ) × (w ≡ Closed reason)
why_closed (Given n) h = cc
why_closed Chosen h = cc
why_closed (Closed reason) h = (reason, refl)

-- a closed entry is on the stack where one is closed
pub has_closed : (stack : List Entry) → any_closed stack ≡ true → HasClosed stack
has_closed [] h = absurd (true≢false (sym h))
has_closed (e ∷ rest) h = go (is_closed e.why) refl h (has_closed rest)
  where
    go : (c : Bool) → is_closed e.why ≡ c → (c || any_closed rest) ≡ true → (any_closed rest ≡ true → HasClosed rest) → HasClosed (e ∷ rest)
    go true is t under = (e, inl refl, why_closed e.why is)
    go false is t under = let below = under t in (below.0, inr below.1, below.2)

-- and none where none is
pub no_closed : (stack : List Entry) → any_closed stack ≡ false → ¬ HasClosed stack
no_closed [] h closed = absurd closed.1
no_closed (e ∷ rest) h closed = go (is_closed e.why) refl h (no_closed rest)
  where
    go : (c : Bool) → is_closed e.why ≡ c → (c || any_closed rest) ≡ false → (any_closed rest ≡ false → ¬ HasClosed rest) → ⊥
    go true is f under = true≢false f
    go false is f under = elim closed.1 [
      | inl same ↦ true≢false (sym (ap is_closed (sym (ap (λ (x : Entry). x.why) same) ∙ closed.2.1)) ∙ is)
      | inr among ↦ under f (closed.0, among, closed.2)
    ]

-- an entry that is closed, or stands above a closed one, doesn't count
pub unclosed_kept : (e : Entry) (rest : List Entry) (u : ℕ) → (is_closed e.why ≡ true) ⊎ ¬ (u ≡ length rest) → u ≡ length (before_closed rest)
    → u ≡ length (before_closed (e ∷ rest))
unclosed_kept e rest u skipped is = elim (any_cases rest) [
  | inl c ↦ is ∙ sym (ap (λ b. length (cond b (before_closed rest) (cond (is_closed e.why) rest (e ∷ rest)))) c.0)
  | inr c ↦ elim skipped [
    | inl closed ↦ is ∙ ap length c.1 ∙ sym (ap (λ b. length (cond b (before_closed rest) (cond (is_closed e.why) rest (e ∷ rest)))) c.0
        ∙ ap (λ b. length (cond b rest (e ∷ rest))) closed)
    | inr other ↦ absurd (other (is ∙ ap length c.1))
  ]
]

-- another one does
pub unclosed_next : (e : Entry) (rest : List Entry) (u : ℕ) → is_closed e.why ≡ false → u ≡ length rest → u ≡ length (before_closed rest)
    → u + 1 ≡ length (before_closed (e ∷ rest))
unclosed_next e rest u open_ all is = elim (any_cases rest) [
  | inl c ↦ absurd (let low = c.1 in omega (arith, low, all, is))
  | inr c ↦ (let one : length (before_closed (e ∷ rest)) ≡ length (e ∷ rest)
      = ap (λ b. length (cond b (before_closed rest) (cond (is_closed e.why) rest (e ∷ rest)))) c.0
      ∙ ap (λ b. length (cond b rest (e ∷ rest))) open_ in
      omega (arith, one, all))
]

-- where the newest entry goes, no more count than are left
pub unclosed_less : (e : Entry) (rest : List Entry) (u v : ℕ) → u ≡ length (before_closed (e ∷ rest)) → v ≡ min u (length rest)
    → v ≡ length (before_closed rest)
unclosed_less e rest u v is cut = elim (any_cases rest) [
  | inl c ↦ (let same : u ≡ length (before_closed rest)
      = is ∙ ap (λ b. length (cond b (before_closed rest) (cond (is_closed e.why) rest (e ∷ rest)))) c.0 in
      let low = c.1 in omega (arith, low, same, cut))
  | inr c ↦ (let all : length (before_closed rest) ≡ length rest = ap length c.1 in
      let many : length rest ≤ u = subst (λ n. length rest ≤ n) (sym (is
      ∙ ap (λ b. length (cond b (before_closed rest) (cond (is_closed e.why) rest (e ∷ rest)))) c.0)) (at_least (is_closed e.why)) in
      omega (arith, all, many, cut))
]
  where
    at_least : (b : Bool) → length rest ≤ length (cond b rest (e ∷ rest))
    at_least true = omega arith
    at_least false = omega arith
