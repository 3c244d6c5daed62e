-- The oldest entries of a stack.
use Rattle.std.proofs.Common.{◌≡◌, ℕ, zero, suc, ◌+◌, ◌<◌, ◌≤◌, Bool, true, false, ◌&&◌, cond, List, [], ◌∷◌, ◌++◌, length, take, reverse, refl, sym, ◌∙◌, ap, subst, inl, inr, arith}
use Rattle.std.specs.Prelude.{min, slice_get, nat_le}
use Rattle.std.proofs.lemmas.List.{take-append-le, length-reverse, reverse-append}
use Rattle.lists.specs.Lists.{◌∈◌}
use Rattle.search_values.specs.declared.entry.Entry.{Entry}
use Rattle.search_values.specs.Values.{back_to, level_of, opened, is_up}
use Rattle.term_pool.proofs.PlaceLemmas.{get-before}
use Rattle.atom_pool.specs.declared.atom.AtomNode.{AtomNode}
use Rattle.atom_pool.specs.Pools.{Pool}
use Rattle.search_state.specs.Searching.{oldest, rises, is_named_node}
use Rattle.search_fronts.proofs.Walking.{in_stack}
use Rattle.search_state.proofs.Going.{∈-take}

-- entries that come don't change the oldest
pub oldest_over : (above stack : List Entry) (n : ℕ) → n ≤ length stack → oldest n (above ++ stack) ≡ oldest n stack
oldest_over above stack n low =
    ap (take n) (reverse-append above stack) ∙ take-append-le n (reverse stack) (reverse above)
    (let k = length-reverse stack in omega (arith, k, low))

-- fewer are among more
pub take_less : (n m : ℕ) (xs : List Entry) → n ≤ m → (x : Entry) → x ∈ take n xs → x ∈ take m xs
take_less zero m xs low x among = absurd among
take_less (suc n) zero xs low x among = absurd (omega (arith, low))
take_less (suc n) (suc m) [] low x among = among
take_less (suc n) (suc m) (y ∷ xs) low x (inl e) = inl e
take_less (suc n) (suc m) (y ∷ xs) low x (inr later) = inr (take_less n m xs (omega (arith, low)) x later)

-- one of the oldest entries is on the stack
pub oldest_in : (n : ℕ) (stack : List Entry) (e : Entry) → e ∈ oldest n stack → e ∈ stack
oldest_in n stack e among = in_stack stack (reverse stack) e refl (∈-take n (reverse stack) e among)

-- what stays below a level is the lower part of the stack
pub back_below : (level : ℕ) (stack : List Entry) → (above : List Entry) × (stack ≡ above ++ back_to level stack)
back_below level [] = ([], refl)
back_below level (e ∷ rest) = go (nat_le (level_of rest + opened e.why) level) (back_below level rest)
  where
    go : (b : Bool) → (above : List Entry) × (rest ≡ above ++ back_to level rest) → (above : List Entry) ×
        (e ∷ rest ≡ above ++ cond b (e ∷ rest) (back_to level rest))
    go true under = ([], refl)
    go false under = (e ∷ under.0, ap (λ es. e ∷ es) under.1)

-- so the oldest of what stays are among the oldest
pub oldest_back : (level n : ℕ) (stack : List Entry) (e : Entry) → e ∈ oldest (min n (length (back_to level stack))) (back_to level stack)
    → e ∈ oldest n stack
oldest_back level n stack e among =
    let under = back_below level stack in
    let cut : ℕ = min n (length (back_to level stack)) in
    let same : oldest cut stack ≡ oldest cut (back_to level stack) = ap (oldest cut) under.1 ∙ oldest_over under.0 (back_to level stack) cut
    (min_right n (length (back_to level stack))) in
    take_less cut n (reverse stack) (min_left n (length (back_to level stack))) e (subst (λ es. e ∈ es) (sym same) among)
  where
    min_right : (a b : ℕ) → min a b ≤ b
    min_right a b = omega arith

    min_left : (a b : ℕ) → min a b ≤ a
    min_left a b = omega arith

-- an entry of an atom that was there rises where it did before
pub rises_same : (old new : Pool) (more : List AtomNode) → new.atoms ≡ old.atoms ++ more → (e : Entry) → e.atom < length old.atoms
    → rises new e ≡ rises old e
rises_same old new more is e low = ap (λ o. is_up e.value && is_named_node o)
    (ap (λ ns. slice_get ns e.atom) is ∙ get-before old.atoms more e.atom low)

-- so do the oldest entries of a stack
pub rises_still : (old new : Pool) (more : List AtomNode) → new.atoms ≡ old.atoms ++ more → (stack : List Entry) →
    ((e : Entry) → e ∈ stack → e.atom < length old.atoms) → (n : ℕ) (e : Entry) → e ∈ oldest n stack
    → rises new e ≡ true → rises old e ≡ true
rises_still old new more is stack placed n e among up = sym (rises_same old new more is e (placed e (oldest_in n stack e among))) ∙ up
