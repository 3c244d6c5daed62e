-- Entries of a stack, and the literals chosen.
use Rattle.std.proofs.Common.{◌≡◌, ℕ, ◌+◌, ◌≤◌, Bool, true, false, ◌&&◌, cond, List, [], ◌∷◌, ◌++◌, length, reverse, take, drop, get_or, true≢false, refl, sym, ◌∙◌, ap, subst, inl, inr, arith, append_assoc}
use Rattle.std.specs.Prelude.{Option, Some, None, nat_eq, is_none}
use Rattle.std.specs.Option.{option_map, option_eq}
use lib.Dec.{eqb}
use Rattle.std.proofs.lemmas.Option.{none-some}
use Rattle.std.proofs.lemmas.Bool.{eq-eqb}
use Rattle.std.proofs.lemmas.Bool.Decides.{eqb_tells}
use Rattle.std.proofs.lemmas.List.{reverse-reverse}
use Rattle.search_values.specs.declared.entry.Entry.{Entry}
use Rattle.search_values.specs.declared.entry.Why.{Why}
use Rattle.search_values.specs.declared.entry.Why.TheVariants.{Given, Chosen, Closed}
use Rattle.search_values.specs.Values.{Value, MustBe, Lit, lit, is_up, value_of, opened, level_of, first_level, chosen, chosen_with}
use Rattle.search_values.proofs.Basics.{value_cases, nat_eq-same}
use Rattle.trail.specs.Assigning.{IsStackOf, first_level_of}
use Rattle.search_fronts.proofs.Walking.{EntryAt, entry_at, stack_below}
use Rattle.search_state.specs.Searching.{adds_choice}

-- ---- levels of first values

-- an atom with an entry has a value
has_value : (above rest : List Entry) (e : Entry) → (v : Value) × (value_of (above ++ e ∷ rest) e.atom ≡ Some v)
has_value [] rest e = (e.value, ap (λ b. cond b (Some e.value) (value_of rest e.atom)) (nat_eq-same e.atom))
has_value (f ∷ above) rest e = elim (value_cases f (above ++ e ∷ rest) e.atom) [
  | inl c ↦ (f.value, c.1)
  | inr c ↦ (let w = has_value above rest e in (w.0, c.1 ∙ w.1))
]

-- a test of two fails where the second does
and_false : (b : Bool) → (b && false) ≡ false
and_false true = refl
and_false false = refl

-- entries above one of the same atom don't move the level of its first value
first_above : (above rest : List Entry) (e : Entry) → first_level (above ++ e ∷ rest) e.atom ≡ first_level (e ∷ rest) e.atom
first_above [] rest e = refl
first_above (f ∷ above) rest e =
    let w = has_value above rest e in
    ap (λ o. cond (nat_eq f.atom e.atom && is_none o) (level_of (above ++ e ∷ rest) + opened f.why)
    (first_level (above ++ e ∷ rest) e.atom)) w.1
    ∙ ap (λ b. cond b (level_of (above ++ e ∷ rest) + opened f.why) (first_level (above ++ e ∷ rest) e.atom))
    (and_false (nat_eq f.atom e.atom))
    ∙ first_above above rest e

-- the level of a first value is at most that of the newest entry
first_le : (stack : List Entry) (a : ℕ) → first_level stack a ≤ level_of stack
first_le [] a = omega arith
first_le (e ∷ rest) a = go (nat_eq e.atom a && is_none (value_of rest a)) (first_le rest a)
  where
    go : (b : Bool) → first_level rest a ≤ level_of rest → cond b (level_of rest + opened e.why)
        (first_level rest a) ≤ level_of rest + opened e.why
    go true h = omega arith
    go false h = omega arith

-- the level of a decision's atom, where it had this value before
first_level-at : (rest : List Entry) (e : Entry) (before : Option Value) → value_of rest e.atom ≡ before
    → first_level (e ∷ rest) e.atom ≡ cond (is_none before) (level_of rest + opened e.why) (first_level rest e.atom)
first_level-at rest e before is =
    ap (λ o. cond (nat_eq e.atom e.atom && is_none o) (level_of rest + opened e.why) (first_level rest e.atom)) is
    ∙ ap (λ b. cond (b && is_none before) (level_of rest + opened e.why) (first_level rest e.atom)) (nat_eq-same e.atom)

-- the first level of an atom with an entry
first_level_of-at : (above rest : List Entry) (e : Entry) → first_level_of (above ++ e ∷ rest) e.atom ≡ Some (first_level (e ∷ rest) e.atom)
first_level_of-at above rest e =
    let w = has_value above rest e in
    ap (option_map (λ v. first_level (above ++ e ∷ rest) e.atom)) w.1 ∙ ap (λ n. Some n) (first_above above rest e)

-- the first level of a decision's atom is its own just where the atom had no value before
pub choice_is : (atoms : ℕ) (stack above rest : List Entry) (e : Entry) → IsStackOf atoms stack → stack ≡ above ++ e ∷ rest → e.why ≡ Chosen
    → option_eq eqb (first_level_of stack e.atom) (Some e.level) ≡ adds_choice e.why (value_of rest e.atom)
choice_is atoms stack above rest e are cut why =
    let below : IsStackOf atoms (e ∷ rest) = stack_below atoms above (e ∷ rest) (subst (λ s. IsStackOf atoms s) cut are) in
    let level : e.level ≡ level_of rest + 1 = below.0.level_told ∙ ap (λ w. level_of rest + opened w) why in
    ap (λ s. option_eq eqb (first_level_of s e.atom) (Some e.level)) cut
    ∙ ap (λ o. option_eq eqb o (Some e.level)) (first_level_of-at above rest e)
    ∙ by_before (value_of rest e.atom) refl level
    ∙ ap (λ w. adds_choice w (value_of rest e.atom)) (sym why)
  where
    by_before : (before : Option Value) → value_of rest e.atom ≡ before → e.level ≡ level_of rest + 1 → eqb
        (first_level (e ∷ rest) e.atom) e.level ≡ adds_choice Chosen before
    by_before None is level = eq-eqb (first_level (e ∷ rest) e.atom) e.level
        (first_level-at rest e None is ∙ ap (λ w. level_of rest + opened w) why ∙ sym level)
    by_before (Some v) is level =
        let lower : first_level (e ∷ rest) e.atom ≤ level_of rest = subst (λ n. n ≤ level_of rest) (sym (first_level-at rest e (Some v) is))
        (first_le rest e.atom) in
        elim (eqb_tells (first_level (e ∷ rest) e.atom) e.level) [
          | inl c ↦ absurd (let same = c.1 in omega arith)
          | inr c ↦ c.0
        ]

-- an entry whose level isn't that of its atom's first value stands above one that made the atom must-be-true
pub older_up : (atoms : ℕ) (stack above rest : List Entry) (e : Entry) → IsStackOf atoms stack → stack ≡ above ++ e ∷ rest → option_eq eqb
    (first_level_of stack e.atom) (Some e.level) ≡ false
    → (w : Value) × (value_of rest e.atom ≡ Some w) × (is_up w ≡ true)
older_up atoms stack above rest e are cut other = by_before (value_of rest e.atom) refl
  where
    below : IsStackOf atoms (e ∷ rest)
    below = stack_below atoms above (e ∷ rest) (subst (λ s. IsStackOf atoms s) cut are)

    differs : eqb (first_level (e ∷ rest) e.atom) e.level ≡ false
    differs = sym (ap (λ s. option_eq eqb (first_level_of s e.atom) (Some e.level)) cut ∙ ap (λ o. option_eq eqb o (Some e.level))
        (first_level_of-at above rest e)) ∙ other

    by_before : (before : Option Value) → value_of rest e.atom ≡ before → (w : Value) × (value_of rest e.atom ≡ Some w) × (is_up w ≡ true)
    by_before None is = absurd (true≢false (sym (eq-eqb (first_level (e ∷ rest) e.atom) e.level (first_level-at rest e None is
        ∙ sym below.0.level_told)) ∙ differs))
    by_before (Some v) is = elim below.0.may [ inl none ↦ absurd (none-some v (sym none ∙ is)) | inr may ↦ (MustBe, may.0, refl) ]

-- ---- going down the stack

-- an entry that adds a choice adds its literal
choice_yes : (w : Why) (before : Option Value) (l : Lit) (ls : List Lit) → adds_choice w before ≡ true → chosen_with w before l ls ≡ l ∷ ls
choice_yes Chosen None l ls h = refl
choice_yes Chosen (Some v) l ls h = cc
choice_yes (Given n) before l ls h = cc
choice_yes (Closed reason) before l ls h = cc

-- another entry adds none
choice_no : (w : Why) (before : Option Value) (l : Lit) (ls : List Lit) → adds_choice w before ≡ false → chosen_with w before l ls ≡ ls
choice_no Chosen None l ls h = cc
choice_no Chosen (Some v) l ls h = refl
choice_no (Given n) before l ls h = refl
choice_no (Closed reason) before l ls h = refl

-- at an entry on the way down
module _ (atoms : ℕ) (stack entries : List Entry) (turned : entries ≡ reverse stack) (are : IsStackOf atoms stack) (left j : ℕ) (e : Entry)
    (low : left ≤ length entries) (next : j + 1 ≡ left)
    (here : e ≡ get_or entries j e) (result : Bool) (is : (above rest : List Entry) → stack ≡ above ++ e ∷ rest → result ≡ adds_choice e.why
    (value_of rest e.atom)) where
  -- the entry stands at its place
  at : EntryAt entries j e
  at = entry_at entries j e (omega arith) here

  -- it is the newest of those that are left
  first : reverse (take left entries) ≡ e ∷ reverse (take j entries)
  first = ap (λ n. reverse (take n entries)) (sym next) ∙ at.first

  -- above and below it are the other entries of the stack
  whole : stack ≡ reverse (drop (j + 1) entries) ++ e ∷ reverse (take j entries)
  whole = sym (ap reverse turned ∙ reverse-reverse stack) ∙ at.cut

  -- the test says whether it adds a choice
  adds : result ≡ adds_choice e.why (value_of (reverse (take j entries)) e.atom)
  adds = is (reverse (drop (j + 1) entries)) (reverse (take j entries)) whole

  -- the entry adds its literal to those chosen
  pub chosen_step : (lits new total : List Lit) → result ≡ true → new ≡ lits ++ lit e.atom (is_up e.value) ∷ [] → lits ++ chosen
      (reverse (take left entries)) ≡ total
      → new ++ chosen (reverse (take j entries)) ≡ total
  chosen_step lits new total t more old =
      ap (λ ls. ls ++ chosen (reverse (take j entries))) more ∙ append_assoc lits (lit e.atom (is_up e.value) ∷ [])
      (chosen (reverse (take j entries)))
      ∙ ap (λ ls. lits ++ ls) (sym (ap chosen first ∙ choice_yes e.why (value_of (reverse (take j entries)) e.atom) (lit e.atom
      (is_up e.value)) (chosen (reverse (take j entries))) (sym adds ∙ t))) ∙ old

  -- the entry adds no literal
  pub chosen_skip : (lits total : List Lit) → result ≡ false → lits ++ chosen (reverse (take left entries)) ≡ total → lits ++ chosen
      (reverse (take j entries)) ≡ total
  chosen_skip lits total f old =
      ap (λ ls. lits ++ ls) (sym (ap chosen first ∙ choice_no e.why (value_of (reverse (take j entries)) e.atom) (lit e.atom
      (is_up e.value)) (chosen (reverse (take j entries))) (sym adds ∙ f))) ∙ old
