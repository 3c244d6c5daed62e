-- The noted instance that is looked at, and those that were looked at before it.
use Rattle.std.proofs.Common.{◌≡◌, ℕ, zero, suc, ◌+◌, ◌<◌, List, [], ◌∷◌, length, take, get_or, slice_get, Some, inl, inr, refl, sym, ap, subst, ◌∙◌, arith}
use Rattle.std.proofs.lemmas.List.{take_more}
use Rattle.std.proofs.lemmas.Option.{same_Some}
use Rattle.lists.specs.Lists.{◌∈◌, Each}
use Rattle.lists.proofs.ListLemmas.{∈-append_cases}
use Rattle.search_values.specs.declared.entry.Entry.{Entry}
use Rattle.search_values.proofs.Basics.{get_in}
use Rattle.atom_pool.specs.declared.instances.Made.{Made}
use Rattle.choice_manager.specs.Active.{IsActiveBody, ArePlaced, NoneActiveIn}

get_or-in : (xs : List ℕ) (i d : ℕ) → i < length xs → get_or xs i d ∈ xs
get_or-in [] i d h = absurd (omega arith)
get_or-in (x ∷ xs) zero d h = inl refl
get_or-in (x ∷ xs) (suc i) d h = inr (get_or-in xs i d (omega arith))

-- what is looked at is noted
pub is_noted : (items noted : List ℕ) (i x : ℕ) → items ≡ noted → i < length items → x ≡ get_or items i x → x ∈ noted
is_noted items noted i x same low here = subst (λ xs. x ∈ xs) same (subst (λ y. y ∈ items) (sym here) (get_or-in items i x low))

-- the atoms of an instance that is there
pub body_below : (atoms : ℕ) (made : List Made) (x : ℕ) (k : Made) → ArePlaced atoms made → slice_get made x ≡ Some k → (b : ℕ) → k.body ≡ Some b → b < atoms
body_below atoms made x k placed at = (placed k (get_in made x k at)).0

pub pos_below : (atoms : ℕ) (made : List Made) (x : ℕ) (k : Made) → ArePlaced atoms made → slice_get made x ≡ Some k → Each (λ p. p < atoms) k.pos
pos_below atoms made x k placed at = (placed k (get_in made x k at)).1

pub neg_below : (atoms : ℕ) (made : List Made) (x : ℕ) (k : Made) → ArePlaced atoms made → slice_get made x ≡ Some k → Each (λ n. n < atoms) k.neg
neg_below atoms made x k placed at = (placed k (get_in made x k at)).2

-- one more was looked at, and has no active body
pub none_more : (stack : List Entry) (made : List Made) (items : List ℕ) (i x : ℕ) (k : Made) → i < length items → x ≡ get_or items i x → slice_get made x ≡ Some k
    → NoneActiveIn stack made (take i items) → ((b : ℕ) → ¬ IsActiveBody stack k b) → NoneActiveIn stack made (take (i + 1) items)
none_more stack made items i x k low here at before idle j among l there b active =
    elim (∈-append_cases j (take i items) (get_or items i x ∷ []) (subst (λ xs. j ∈ xs) (take_more items i x low) among)) [
      | inl old ↦ before j old l there b active
      | inr last ↦ elim last [
        | inl is ↦
            let same : k ≡ l = same_Some k l (sym at ∙ ap (slice_get made) (here ∙ sym is) ∙ there) in
            idle b (subst (λ m. IsActiveBody stack m b) (sym same) active)
        | inr none ↦ none
      ]
    ]
