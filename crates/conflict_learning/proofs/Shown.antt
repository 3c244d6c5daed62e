-- What a store shows of a nogood, in the words of the theory.
use Rattle.std.proofs.Common.{◌≡◌, ℕ, ◌<◌, List, map, length, sym, ◌∙◌, ap, subst}
use Rattle.std.specs.Prelude.{Some, slice_get, option_map}
use Rattle.std.proofs.lemmas.List.{length-map}
use Rattle.std.proofs.lemmas.Option.{slice_get-map}
use Rattle.search_values.specs.Values.{Lit}
use Rattle.search_values.specs.Nogoods.{Nogood}
use Rattle.nogood_store.specs.Stored.{Stored, nogood_of}
use Rattle.journal_theory.specs.Events.{lits_in, lits_at}

-- the literals that are shown are those of a nogood of the theory
pub shown_nogood : (store : List Stored) (n : ℕ) (lits : List Lit) → (s : Stored) × (slice_get store n ≡ Some s) × (lits ≡ s.lits)
    → (ng : Nogood) × (slice_get (map nogood_of store) n ≡ Some ng) × (lits ≡ ng.lits)
shown_nogood store n lits h = (nogood_of h.0, slice_get-map nogood_of store n ∙ ap (option_map nogood_of) h.1, h.2)

-- an id is that of a stored nogood just where it is that of one of the theory
pub there_to : (store : List Stored) (n : ℕ) → n < length store → n < length (map nogood_of store)
there_to store n h = subst (λ k. n < k) (sym (length-map store nogood_of)) h

-- and back
pub there_from : (store : List Stored) (n : ℕ) → n < length (map nogood_of store) → n < length store
there_from store n h = subst (λ k. n < k) (length-map store nogood_of) h

-- the literals that are shown are those at the id
pub shown_at : (store : List Stored) (n : ℕ) (lits : List Lit) → (s : Stored) × (slice_get store n ≡ Some s) × (lits ≡ s.lits)
    → lits ≡ lits_at (map nogood_of store) n
shown_at store n lits h = let g = shown_nogood store n lits h in g.2 ∙ sym (ap lits_in g.1)

-- there are as many nogoods of the theory as are stored
pub as_many : (store : List Stored) → length (map nogood_of store) ≡ length store
as_many store = length-map store nogood_of
