-- The literals chosen on a stack, and levels.
use Rattle.std.proofs.Common.{◌≡◌, ℕ, ◌+◌, ◌<◌, ◌≤◌, ◌⊎◌, Bool, true, false, cond, List, [], ◌∷◌, ◌++◌, map, refl, sym, ◌∙◌, ap, subst, inl, inr, arith}
use Rattle.std.specs.Prelude.{Option, Some, None, nat_eq, nat_le}
use Rattle.lists.specs.Lists.{◌∈◌}
use Rattle.alpha_outside.specs.declared.literal.Value.{Value}
use Rattle.alpha_outside.specs.declared.literal.Lit.{Lit}
use Rattle.search_values.specs.declared.entry.Why.{Why}
use Rattle.search_values.specs.declared.entry.Why.TheVariants.{Given, Chosen, Closed}
use Rattle.search_values.specs.declared.entry.Entry.{Entry}
use Rattle.search_values.specs.Values.{is_up, lit, value_of, opened, level_of, back_to, first_level, all_at_0, chosen_with, chosen}
use Rattle.search_values.proofs.Basics.{value_cases, nat_eq-same}
use Rattle.lists.proofs.ListLemmas.{∈-append_cases}
use Rattle.search_values.specs.Nogoods.{Nogood}
use Rattle.journal_theory.specs.Laws.{NoneEmpty}
use Rattle.nogood_store.specs.Stored.{HasNoAtomTwice, atom_of}
use Rattle.search_journals.specs.Settling.{learnt}

-- each literal chosen is of an entry
pub chosen_entry : (stack : List Entry) (l : Lit) → l ∈ chosen stack → (e : Entry) × (e ∈ stack) × (e.atom ≡ l.atom)
chosen_entry [] l i = absurd i
chosen_entry (e ∷ rest) l i = go e.why (value_of rest e.atom) (λ j. let w = chosen_entry rest l j in (w.0, inr w.1, w.2)) i
  where
    go : (w : Why) (v : Option Value) → (l ∈ chosen rest → (x : Entry) × (x ∈ (e ∷ rest)) × (x.atom ≡ l.atom))
        → l ∈ chosen_with w v (lit e.atom (is_up e.value)) (chosen rest) → (x : Entry) × (x ∈ (e ∷ rest)) × (x.atom ≡ l.atom)
    go (Given n) v older j = older j
    go Chosen None older (inl q) = (e, inl refl, sym (ap (λ (k : Lit). k.atom) q))
    go Chosen None older (inr j) = older j
    go Chosen (Some v) older j = older j
    go (Closed reason) v older j = older j

-- an atom with an entry has a value
pub has_value : (stack : List Entry) (e : Entry) → e ∈ stack → ¬ (value_of stack e.atom ≡ None)
has_value [] e i none = absurd i
has_value (x ∷ rest) e (inl q) none = let w : value_of (x ∷ rest) x.atom ≡ None =
    subst (λ (z : Entry). value_of (x ∷ rest) z.atom ≡ None) q none in
    let here : value_of (x ∷ rest) x.atom ≡ Some x.value = ap (λ b. cond b (Some x.value) (value_of rest x.atom)) (nat_eq-same x.atom) in
    let bad : Some x.value ≡ None = sym here ∙ w in cc
has_value (x ∷ rest) e (inr i) none = elim (value_cases x rest e.atom) [
  | inl c ↦ (let bad : Some x.value ≡ None = sym c.1 ∙ none in cc)
  | inr c ↦ has_value rest e i (sym c.1 ∙ none)
]

-- the atom of a list of atoms is that of a literal
atoms_chosen : (ls : List Lit) (a : ℕ) → a ∈ map atom_of ls → (l : Lit) × (l ∈ ls) × (l.atom ≡ a)
atoms_chosen [] a i = absurd i
atoms_chosen (l ∷ ls) a (inl e) = (l, inl refl, sym e)
atoms_chosen (l ∷ ls) a (inr i) = let w = atoms_chosen ls a i in (w.0, inr w.1, w.2)

-- no atom is chosen twice
pub chosen_once : (stack : List Entry) → HasNoAtomTwice (chosen stack)
chosen_once [] = tt
chosen_once (e ∷ rest) = go e.why (value_of rest e.atom) refl (chosen_once rest)
  where
    go : (w : Why) (v : Option Value) → value_of rest e.atom ≡ v → HasNoAtomTwice (chosen rest)
        → HasNoAtomTwice (chosen_with w v (lit e.atom (is_up e.value)) (chosen rest))
    go (Given n) v q h = h
    go Chosen None q h = (
      (λ i.
          let w = atoms_chosen (chosen rest) e.atom i in
          let x = chosen_entry rest w.0 w.1 in
          has_value rest x.0 x.1 (ap (value_of rest) (x.2 ∙ w.2) ∙ q)),
      h,
    )
    go Chosen (Some v) q h = h
    go (Closed reason) v q h = h

-- what is in one of two lists is in either
back_pick : (b : Bool) (stack other : List Entry) (x : Entry) → x ∈ cond b stack other → (x ∈ stack) ⊎ (x ∈ other)
back_pick true stack other x i = inl i
back_pick false stack other x i = inr i

-- going back takes entries away
pub back_among : (level : ℕ) (stack : List Entry) (x : Entry) → x ∈ back_to level stack → x ∈ stack
back_among level [] x i = absurd i
back_among level (e ∷ rest) x i =
    elim (back_pick (nat_le (level_of rest + opened e.why) level) (e ∷ rest) (back_to level rest) x i) [
      | inl j ↦ j
      | inr j ↦ inr (back_among level rest x j)
    ]

-- the level of a first value is at most the level of the stack
first_low : (stack : List Entry) (a : ℕ) → first_level stack a ≤ level_of stack
first_low [] a = omega arith
first_low (e ∷ rest) a = go (Rattle.std.specs.Prelude.◌&&◌ (nat_eq e.atom a) (Rattle.std.specs.Prelude.is_none (value_of rest a)))
    (first_low rest a)
  where
    go : (b : Bool) → first_level rest a ≤ level_of rest → cond b (level_of rest + opened e.why)
        (first_level rest a) ≤ level_of rest + opened e.why
    go true h = omega arith
    go false h = omega (arith, h)

-- at level 0 all literals stand at level 0
pub all_low : (stack : List Entry) (ls : List Lit) → level_of stack ≡ 0 → all_at_0 stack ls ≡ true
all_low stack [] z = refl
all_low stack (l ∷ ls) z =
    let low = first_low stack l.atom in
    let same : first_level stack l.atom ≡ 0 = omega (arith, low, z) in
    ap (λ n. Rattle.std.specs.Prelude.◌&&◌ (nat_eq n 0) (all_at_0 stack ls)) same ∙ all_low stack ls z

-- the literals chosen have ids, where the entries have
pub chosen_below : (stack : List Entry) (n : ℕ) → ((e : Entry) → e ∈ stack → e.atom < n) → (l : Lit) → l ∈ chosen stack → l.atom < n
chosen_below stack n placed l i = let w = chosen_entry stack l i in subst (λ z. z < n) w.2 (placed w.0 w.1)

-- no nogood is empty where one comes that isn't
pub none_empty_more : (ngs : List Nogood) (ls : List Lit) → ¬ (ls ≡ []) → NoneEmpty ngs → NoneEmpty (ngs ++ learnt ls ∷ [])
none_empty_more ngs ls some none ng i e = elim (∈-append_cases ng ngs (learnt ls ∷ []) i) [
  | inl old ↦ none ng old e
  | inr last ↦ elim last [
    | inl is ↦ some (sym (ap (λ (z : Nogood). z.lits) is) ∙ e)
    | inr n ↦ absurd n
  ]
]
