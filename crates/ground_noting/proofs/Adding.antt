-- What came into a store and into the choices, whatever the answer.
use Rattle.std.proofs.Common.{◌≡◌, ◌⊎◌, inl, inr, ℕ, suc, zero, ◌<◌, List, [], ◌∷◌, ◌++◌, length, map, take, subst, sym}
use Rattle.std.specs.Prelude.{Option, Some, None, Result, Ok, Err, OnOk, OnErr}
use Rattle.lists.specs.Lists.{◌∈◌, Each}
use Rattle.lists.proofs.ListLemmas.{Each-at, ∈-append_cases}
use Rattle.search_values.proofs.Basics.{in_single}
use Rattle.nogood_store.specs.Stored.{Stored, LitsAreBelow}
use Rattle.choice_manager.specs.Active.{with_noted}
use Rattle.atom_pool.specs.declared.ground.Ground.{Ground}
use Rattle.ground_noting.specs.declared.drafting.Draft.{Draft}
use Rattle.ground_noting.specs.Drafts.{IsDraft, stored_of}
use Rattle.ground_noting.specs.Notings.{Adds}
use Rattle.ground_noting.proofs.StoringLemmas.{stored_placed}

-- nothing came
pub adds_none : (g : Ground) (s : List Stored) (c : List ℕ) → Adds g s s c c
adds_none g s c = record { placed = λ k among. inl among; there = λ i among. inl among }

-- one part came, and then the next
pub adds_on : (g : Ground) (s s' s'' : List Stored) (c c' c'' : List ℕ) → Adds g s s' c c' → Adds g s' s'' c' c'' → Adds g s s'' c c''
adds_on g s s' s'' c c' c'' p q = record {
  placed = λ k among. elim (q.placed k among) [ inl old ↦ p.placed k old | inr new ↦ inr new ];
  there = λ i among. elim (q.there i among) [ inl old ↦ p.there i old | inr new ↦ inr new ];
}

-- the first few drafts are some of them
take_some : (n : ℕ) (ds : List Draft) (s : Stored) → s ∈ map stored_of (take n ds) → s ∈ map stored_of ds
take_some zero ds s among = absurd among
take_some (suc n) [] s among = absurd among
take_some (suc n) (d ∷ ds) s (inl e) = inl e
take_some (suc n) (d ∷ ds) s (inr later) = inr (take_some n ds s later)

-- what came into the store is one of the drafts
pub some_drafts : (old new : List Stored) (n : ℕ) (ds : List Draft) → new ≡ old ++ map stored_of (take n ds) → (s : Stored) → s ∈ new
    → (s ∈ old) ⊎ (s ∈ map stored_of ds)
some_drafts old new n ds is s among = elim (∈-append_cases s old (map stored_of (take n ds)) (subst (λ l. s ∈ l) is among)) [
  | inl before ↦ inl before
  | inr came ↦ inr (take_some n ds s came)
]

-- drafts of an instance came
pub adds_drafts : (g : Ground) (ds : List Draft) (old new : List Stored) (c : List ℕ) → Each (IsDraft (length g.atoms.atoms)) ds
    → ((s : Stored) → s ∈ new → (s ∈ old) ⊎ (s ∈ map stored_of ds)) → Adds g old new c c
adds_drafts g ds old new c each some = record {
  placed = λ s among. elim (some s among) [
    | inl before ↦ inl before
    | inr came ↦ inr (Each-at (λ (k : Stored). LitsAreBelow (length g.atoms.atoms) k.lits) (map stored_of ds) s
        (stored_placed (length g.atoms.atoms) ds each) came)
  ];
  there = λ i among. inl among;
}

-- an instance was noted as a choice
pub adds_choice : (g : Ground) (i : ℕ) (body : Option ℕ) (old new : List Stored) (c c' : List ℕ) → i < length g.instances
    → c' ≡ with_noted c i body → Adds g old new c c → Adds g old new c c'
adds_choice g i None old new c c' low is a = record { placed = a.placed; there = λ j among. inl (subst (λ l. j ∈ l) is among) }
adds_choice g i (Some b) old new c c' low is a = record {
  placed = a.placed;
  there = λ j among. elim (∈-append_cases j c (i ∷ []) (subst (λ l. j ∈ l) is among)) [
    | inl before ↦ inl before
    | inr came ↦ inr (subst (λ n. n < length g.instances) (sym (in_single came)) low)
  ];
}

-- or there was no memory for it
pub adds_either : {A E P : Type 0} (r : Result A E) (g : Ground) (i : ℕ) (body : Option ℕ) (old new : List Stored) (c c' : List ℕ)
    → i < length g.instances → OnOk r P → (P → c' ≡ with_noted c i body) → OnErr r (c' ≡ c) → Adds g old new c c → Adds g old new c c'
adds_either (Ok a) g i body old new c c' low p f e adds = adds_choice g i body old new c c' low (f p) adds
adds_either (Err x) g i body old new c c' low p f e adds = subst (λ l. Adds g old new c l) (sym e) adds
