-- At the highest level of a struck nogood a literal isn't closed, since two closed atoms have two levels.
use Rattle.std.proofs.Common.{◌≡◌, ℕ, ◌<◌, ◌≤◌, ◌⊎◌, true, List, [], ◌∷◌, refl, sym, ◌∙◌, ap, subst, inl, inr, arith}
use Rattle.lists.specs.Lists.{◌∈◌}
use Rattle.search_values.specs.declared.entry.Entry.{Entry}
use Rattle.search_values.specs.Values.{Lit, is_closed, IsClosed}
use Rattle.search_values.proofs.Basics.{bool_cases}
use Rattle.trail.specs.Assigning.{IsStackOf}
use Rattle.journal_theory.proofs.Learning.{lit_same}
use Rattle.conflict_learning.specs.Analysing.{IsHighest, level_at}
use Rattle.conflict_learning.specs.Pending.{lit_of, highest_of, IsFirstAt}
use Rattle.conflict_learning.specs.Laws.{HighestIsOpen}
use Rattle.conflict_learning.proofs.Stacks.{le_or, zero_or, opens_one, HoldsBy, holds_by, level_told, level_le}
use Rattle.conflict_learning.proofs.Highest.{all_0, highest_by, highest_le}
use Rattle.conflict_learning.proofs.Reasoning.{first_in, open_first}

-- two closed first values at one level are one entry
closed_alone : (atoms : ℕ) (stack : List Entry) → IsStackOf atoms stack → (p q : ℕ) (f g : Entry) → IsFirstAt stack p f
    → IsFirstAt stack q g
    → is_closed f.why ≡ true → is_closed g.why ≡ true → f.level ≡ g.level → f ≡ g
closed_alone atoms [] are p q f g h k closed_f closed_g same = absurd h
closed_alone atoms (e ∷ rest) are p q f g (inl h) (inl k) closed_f closed_g same = h.1 ∙ sym k.1
closed_alone atoms (e ∷ rest) are p q f g (inl h) (inr k) closed_f closed_g same =
    let opens = opens_one e.why (ap (λ (x : Entry). is_closed x.why) (sym h.1) ∙ closed_f) in
    let told = are.0.level_told in
    let here : f.level ≡ e.level = ap (λ (x : Entry). x.level) h.1 in
    let below = level_told atoms rest are.1 q g k in
    let low = level_le rest g.atom in
    absurd (omega (arith, opens, told, here, below, low, same))
closed_alone atoms (e ∷ rest) are p q f g (inr h) (inl k) closed_f closed_g same =
    let opens = opens_one e.why (ap (λ (x : Entry). is_closed x.why) (sym k.1) ∙ closed_g) in
    let told = are.0.level_told in
    let here : g.level ≡ e.level = ap (λ (x : Entry). x.level) k.1 in
    let below = level_told atoms rest are.1 p f h in
    let low = level_le rest f.atom in
    absurd (omega (arith, opens, told, here, below, low, same))
closed_alone atoms (e ∷ rest) are p q f g (inr h) (inr k) closed_f closed_g same =
    closed_alone atoms rest are.1 p q f g h k closed_f closed_g same

-- another literal stands at least as high as this one, or none does
another : (stack : List Entry) (w : Lit) (ls : List Lit)
    → ((k : Lit) × (k ∈ ls) × (¬ (k ≡ w)) × (level_at stack w ≤ level_at stack k))
    ⊎ ((k : Lit) → k ∈ ls → (k ≡ w) ⊎ (level_at stack k < level_at stack w))
another stack w [] = inr (λ k i. absurd i)
another stack w (l ∷ ls) = elim (another stack w ls) [
  | inl h ↦ inl (h.0, inr h.1, h.2, h.3)
  | inr others ↦ elim (lit_same l w) [
    | inl same ↦ inr (λ k i. elim i [ inl q ↦ inl (q ∙ same) | inr j ↦ others k j ])
    | inr differs ↦ elim (le_or (level_at stack w) (level_at stack l)) [
      | inl le ↦ inl (l, inl refl, differs, le)
      | inr less ↦ inr (λ k i. elim i [
        | inl q ↦ inr (subst (λ (x : Lit). level_at stack x < level_at stack w) (sym q) less)
        | inr j ↦ others k j
      ])
    ]
  ]
]

-- the atom of a literal whose entry isn't closed isn't closed
open_by : (atoms : ℕ) (stack : List Entry) → IsStackOf atoms stack → (l : Lit) (by : HoldsBy stack l) → ¬ (is_closed by.entry.why ≡ true)
    → ¬ IsClosed stack l.atom
open_by atoms stack are l by plain closed = elim (bool_cases (is_closed by.entry.why)) [
  | inl t ↦ plain t
  | inr f ↦ open_first atoms stack are by.place by.entry by.at f (subst (λ (x : Lit). IsClosed stack x.atom) (sym by.lit_is) closed)
]

-- the level of a literal is that of its entry
level_by : (atoms : ℕ) (stack : List Entry) → IsStackOf atoms stack → (l : Lit) (by : HoldsBy stack l) → level_at stack l ≡ by.entry.level
level_by atoms stack are l by = ap (level_at stack) (sym by.lit_is) ∙ level_told atoms stack are by.place by.entry by.at

-- two literals at one level aren't both closed
two_levels : (atoms : ℕ) (stack : List Entry) → IsStackOf atoms stack → (k l : Lit) (by_k : HoldsBy stack k) (by_l : HoldsBy stack l)
    → ¬ (k ≡ l)
    → level_at stack k ≡ level_at stack l → is_closed by_l.entry.why ≡ true → ¬ (is_closed by_k.entry.why ≡ true)
two_levels atoms stack are k l by_k by_l differ same closed_l closed_k =
    differ (sym by_k.lit_is ∙ ap lit_of one ∙ by_l.lit_is)
  where
    one : by_k.entry ≡ by_l.entry
    one = closed_alone atoms stack are by_k.place by_l.place by_k.entry by_l.entry by_k.at by_l.at closed_k closed_l
        (sym (level_by atoms stack are k by_k) ∙ same ∙ level_by atoms stack are l by_l)

-- law: so where one that stands alone isn't closed, one isn't
pub highest_is_open : HighestIsOpen
highest_is_open atoms stack ls are hold alone = elim (zero_or (highest_of stack ls)) [
  | inl z ↦ inl (all_0 stack ls z)
  | inr above ↦ inr (found above (highest_by stack ls above))
]
  where
    highest : (w : Lit) → w ∈ ls → level_at stack w ≡ highest_of stack ls → IsHighest stack ls w
    highest w i at = record { among = i; highest = λ k j. (let h = highest_le stack ls k j in omega (arith, h, at)) }

    beside : (w : Lit) (i : w ∈ ls) → level_at stack w ≡ highest_of stack ls
        → is_closed (holds_by atoms stack are w (hold w i)).entry.why ≡ true
        → (k : Lit) × (k ∈ ls) × (¬ (k ≡ w)) × (level_at stack w ≤ level_at stack k) → (l : Lit) × IsHighest stack ls l
        × (¬ IsClosed stack l.atom)
    beside w i at closed k =
        let le = highest_le stack ls k.0 k.1 in
        let up = k.3 in
        let top : level_at stack k.0 ≡ highest_of stack ls = omega (arith, le, up, at) in
        let by = holds_by atoms stack are k.0 (hold k.0 k.1) in (
          k.0,
          highest k.0 k.1 top,
          open_by atoms stack are k.0 by
              (two_levels atoms stack are k.0 w by (holds_by atoms stack are w (hold w i)) k.2 (top ∙ sym at) closed),
        )

    found : 0 < highest_of stack ls → (w : Lit) × (w ∈ ls) × (level_at stack w ≡ highest_of stack ls) → (l : Lit) × IsHighest stack ls l
        × (¬ IsClosed stack l.atom)
    found above w =
        let by = holds_by atoms stack are w.0 (hold w.0 w.1) in
        elim (bool_cases (is_closed by.entry.why)) [
          | inr plain ↦ (w.0, highest w.0 w.1 w.2, open_by atoms stack are w.0 by (λ t. (let both : true ≡ _ = sym t ∙ plain in cc)))
          | inl closed ↦ elim (another stack w.0 ls) [
            | inl k ↦ beside w.0 w.1 w.2 closed k
            | inr others ↦ absurd (alone
                (record { left = w.0; among = w.1; above = (let at = w.2 in omega (arith, at, above)); others = others })
                (by.entry, first_in stack by.place by.entry by.at, ap (λ (x : Lit). x.atom) by.lit_is, closed))
          ]
        ]
