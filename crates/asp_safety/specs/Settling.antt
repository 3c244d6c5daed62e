-- What holds while the consequences of clauses are followed: each clause waits for one of its needs that isn't bound.
use Rattle.std.specs.Prelude.{◌≡◌, ◌⊎◌, ◌↔◌, ◌+◌, ℕ, List, [], ◌∷◌, ◌++◌, length, Some}
use Rattle.std.specs.Map.{lookup}
use Rattle.lists.specs.Lists.{◌∈◌, ◌⊆◌}
use Rattle.asp_meaning.specs.Terms.{Variable}
use Rattle.asp_safety.specs.declared.clause.Clause.{Clause}
use Rattle.asp_safety.specs.Keys.{variable_eq}
use Rattle.asp_safety.specs.Clauses.{Derives}

-- v is given or was found
abbrev pub IsMet : List Variable → List Variable → Variable → Type 0
IsMet given found v = (v ∈ given) ⊎ (v ∈ found)

-- all needs of the clause are met
abbrev pub IsReady : List Variable → List Variable → Clause → Type 0
IsReady given found c = (w : Variable) → w ∈ c.needs → IsMet given found w

-- what is derived holds what the clause gives, if it holds these
abbrev pub Follows : List Variable → List Clause → List Variable → Variable → Type 0
Follows given all needs v = ((w : Variable) → w ∈ needs → Derives given all w) → Derives given all v

-- ---- clauses that wait

-- the clause waits for v
abbrev pub Waits : List (Variable × List Clause) → Variable → Clause → Type 0
Waits rows v c = (row : List Clause) × (lookup (variable_eq v) rows ≡ Some row) × (c ∈ row)

-- how many clauses wait
abbrev pub waiting_count : List (Variable × List Clause) → ℕ
waiting_count [] = 0
waiting_count (row ∷ rows) = length row.1 + waiting_count rows

-- d is what is left of the clause c after some of its needs were met
pub record IsPartOf (c d : Clause) : Type 0 where
  pub gives : d.gives ≡ c.gives
  pub needs : d.needs ⊆ c.needs

-- needs were taken off a list up to v, which isn't met
pub record IsUnmet (given found old new : List Variable) (v : Variable) : Type 0 where
  pub there : v ∈ old
  pub unmet : ¬ IsMet given found v
  pub less : new ⊆ old
  pub kept : (w : Variable) → w ∈ old → (w ≡ v) ⊎ ((w ∈ new) ⊎ IsMet given found w)

-- where the clause is ready, what it gives is fresh; else what is left of it waits for a need that isn't met
pub data Placed (given found : List Variable) (old new : List Variable) (rows more : List (Variable × List Clause)) (c : Clause) : Type 0 where
  fired : IsReady given found c → new ≡ old ++ c.gives ∷ [] → more ≡ rows → Placed given found old new rows more c
  filed : (v : Variable) (d : Clause) → d.gives ≡ c.gives → IsUnmet given found c.needs d.needs v → new ≡ old
      → ((u : Variable) (e : Clause) → Waits more u e ↔ (Waits rows u e ⊎ ((u ≡ v) × (e ≡ d)))) → Placed given found old new rows more c

-- `rest` are still to be placed, what is fresh is still to be passed on, and all other clauses wait or have given what they give
pub record IsSettling (given found fresh : List Variable) (rows : List (Variable × List Clause)) (all rest : List Clause) : Type 0 where
  pub sound_found : (v : Variable) → v ∈ found → Derives given all v
  pub sound_fresh : (v : Variable) → v ∈ fresh → Derives given all v
  pub sound_rest : (c : Clause) → c ∈ rest → Follows given all c.needs c.gives
  pub sound_rows : (v : Variable) (c : Clause) → Waits rows v c → Follows given all (v ∷ c.needs) c.gives
  pub unmet : (v : Variable) (c : Clause) → Waits rows v c → ¬ IsMet given found v
  pub there : (c : Clause) → c ∈ all → (IsMet given found c.gives ⊎ (c.gives ∈ fresh))
      ⊎ (((d : Clause) × IsPartOf c d × (d ∈ rest)) ⊎ ((v : Variable) × (d : Clause) × IsPartOf c d × (v ∈ c.needs) × Waits rows v d))
