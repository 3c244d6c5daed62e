-- Where the search goes back to: there a nogood that is unit below its highest level is unit, and at no lower level.
use Rattle.std.proofs.Common.{◌≡◌, ℕ, ◌+◌, ◌<◌, ◌≤◌, true, not, ◌&&◌, cond, List, [], ◌∷◌, sym, ◌∙◌, ap, subst, inl, inr, arith}
use Rattle.std.specs.Prelude.{Option, Some, None, nat_eq, nat_le, is_none}
use Rattle.lists.specs.Lists.{◌∈◌}
use Rattle.alpha_outside.specs.declared.literal.Lit.{Lit}
use Rattle.alpha_outside.specs.declared.literal.Value.{Value}
use Rattle.search_values.specs.declared.entry.Entry.{Entry}
use Rattle.search_values.specs.Values.{lit, is_up, value_of, Holds, opened, level_of, back_to, first_level}
use Rattle.search_values.specs.Nogoods.{Nogood, Gives}
use Rattle.search_values.proofs.Basics.{value_cases, nat_eq-same}
use Rattle.search_values.proofs.Levels.{back_above}
use Rattle.trail.specs.Assigning.{MayBecome, IsStackOf}
use Rattle.journal_theory.specs.Resolution.{IsOneHighest}
use Rattle.journal_theory.proofs.Highest.{first_above, left_unit}
use Rattle.conflict_learning.specs.Analysing.{level_at, IsSecondLevel}
use Rattle.conflict_learning.specs.Laws.{IsUnitAfterBack, IsUnitNoLower}
use Rattle.conflict_learning.proofs.Stacks.{option_cases, le_or, same_up, level_more, level_le}
use Rattle.conflict_learning.proofs.Reasoning.{given_reason}

-- at or below the level nothing is taken away
back_low : (level : ℕ) (e : Entry) (rest : List Entry) → level_of rest + opened e.why ≤ level → back_to level (e ∷ rest) ≡ e ∷ rest
back_low level e rest h = let k : nat_le (level_of rest + opened e.why) level ≡ true =
    grind (arith, h) in ap (λ b. cond b (e ∷ rest) (back_to level rest)) k

-- the first value of the newest entry is at its level
level_here : (e : Entry) (rest : List Entry) (a : ℕ) → e.atom ≡ a → value_of rest a ≡ None
    → first_level (e ∷ rest) a ≡ level_of rest + opened e.why
level_here e rest a same none =
    ap (λ o. cond (nat_eq e.atom a && is_none o) (level_of rest + opened e.why) (first_level rest a)) none
    ∙ ap (λ b. cond (b && true) (level_of rest + opened e.why) (first_level rest a))
    (subst (λ x. nat_eq e.atom x ≡ true) same (nat_eq-same e.atom))

-- what has its first value at the level or below goes on to hold
stays : (atoms level : ℕ) (stack : List Entry) → IsStackOf atoms stack → (l : Lit) → Holds stack l → level_at stack l ≤ level
    → Holds (back_to level stack) l
stays atoms level [] are l h low = h
stays atoms level (e ∷ rest) are l h at = elim (le_or (level_of rest + opened e.why) level) [
  | inl low ↦ subst (λ s. Holds s l) (sym (back_low level e rest low)) h
  | inr high ↦ subst (λ s. Holds s l) (sym (back_above level e rest high)) (below high (λ k q. stays atoms level rest are.1 l k q))
]
  where
    old : (w : Value) → value_of rest l.atom ≡ Some w → Holds rest l
    old w is = elim (value_cases e rest l.atom) [
      | inl c ↦ (
          let may : MayBecome (Some w) e.value = subst (λ (o : Option Value). MayBecome o e.value) is
          (subst (λ (a : ℕ). MayBecome (value_of rest a) e.value) c.0 are.0.may) in
          let same : Some h.0 ≡ Some e.value = sym h.1 ∙ c.1 in
          let value : h.0 ≡ e.value = cc in
          (w, is, same_up w e.value may ∙ sym (ap is_up value) ∙ h.2))
      | inr c ↦ (h.0, sym c.1 ∙ h.1, h.2)
    ]

    below : level < level_of rest + opened e.why → (Holds rest l → level_at rest l ≤ level → Holds (back_to level rest) l)
        → Holds (back_to level rest) l
    below high more = elim (option_cases (value_of rest l.atom)) [
      | inl none ↦ elim (value_cases e rest l.atom) [
        | inl c ↦ absurd (let k = level_here e rest l.atom c.0 none in omega (arith, k, high, at))
        | inr c ↦ (let z : Some h.0 ≡ None = sym h.1 ∙ c.1 ∙ none in cc)
      ]
      | inr some ↦ more (old some.0 some.1) (let k = level_more e rest l.atom some.0 some.1 in omega (arith, k, at))
    ]

-- the one literal at the highest level is above the second level
second_low : (stack : List Entry) (ls : List Lit) (level : ℕ) → (one : IsOneHighest stack ls) → IsSecondLevel stack ls level
    → level < level_at stack one.left
second_low stack ls level one second = elim (one.others second.highest second.is_highest.among) [
  | inl q ↦ (let a = second.lower in subst (λ (x : Lit). level < level_at stack x) q a)
  | inr low ↦ absurd (let a = second.is_highest.highest one.left one.among in omega (arith, a, low))
]

-- law: at the second level the nogood is unit
pub is_unit_after_back : IsUnitAfterBack
is_unit_after_back atoms stack ng level are struck unit second = (
  omega (arith, high, level_le stack unit.1.left.atom),
  left_unit (back_to level stack) ng unit.1.left (record {
    among = unit.1.among;
    unassigned = first_above level stack unit.1.left.atom high;
    others = λ l i. elim (unit.1.others l i) [
      | inl q ↦ inl q
      | inr low ↦ inr (stays atoms level stack are l (struck l i)
          (second.below l i (let a = second.is_highest.highest unit.1.left unit.1.among in omega (arith, a, low))))
    ];
  }),
)
  where
    high : level < level_at stack unit.1.left
    high = second_low stack ng.lits level unit.1 second

-- a nogood that is unit has no unassigned literal but the one that is left
one_unassigned : (stack : List Entry) (ng : Nogood) (a : ℕ) (v : Value) → Gives stack ng a v → (l : Lit) → l ∈ ng.lits
    → value_of stack l.atom ≡ None → l ≡ lit a (not (is_up v))
one_unassigned stack ng a v gives l i none = elim ((given_reason stack ng a v gives).1 l i) [
  | inl q ↦ q
  | inr h ↦ (let z : Some h.0 ≡ None = sym h.1 ∙ none in cc)
]

-- law: below it two literals are unassigned
pub is_unit_no_lower : IsUnitNoLower
is_unit_no_lower stack ng level lower unit second low is = elim second.reached [
  | inl z ↦ omega (arith, z, low)
  | inr k ↦ both k.0 k.1 k.2
]
  where
    high : level < level_at stack unit.1.left
    high = second_low stack ng.lits level unit.1 second

    both : (k : Lit) → k ∈ ng.lits → level_at stack k ≡ level → ⊥
    both k i at =
        let here = first_above lower stack k.atom (omega (arith, low, at)) in
        let there = first_above lower stack unit.1.left.atom (omega (arith, low, high)) in
        let q : k ≡ unit.1.left = one_unassigned (back_to lower stack) ng is.0 is.1 is.2 k i here
        ∙ sym (one_unassigned (back_to lower stack) ng is.0 is.1 is.2 unit.1.left unit.1.among there) in
        let same : level_at stack k ≡ level_at stack unit.1.left = ap (level_at stack) q in
        omega (arith, same, at, high)
