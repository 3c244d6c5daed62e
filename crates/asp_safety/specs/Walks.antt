-- What a walk over occurrences of variables finds.
use Rattle.std.specs.Prelude.{◌≡◌, ◌⊎◌, ◌↔◌, ℕ, List, Option, Some, None}
use Rattle.lists.specs.Lists.{◌∈◌, Each}
use Rattle.asp_syntax.specs.declared.tree.Statement.{Statement}
use Rattle.asp_meaning.specs.Terms.{Variable}
use Rattle.asp_meaning.specs.Variables.{global_variables}
use Rattle.asp_safety.specs.Keys.{spelled}
use Rattle.asp_safety.specs.Binding.{Occurrence, IsBound, IsBoundThere}
use Rattle.asp_strata.specs.Firsts.{IsFirstBad}

-- these are the global variables of the statement, and those of them that are bound
pub record IsScope (s : Statement) (globals bound : List Variable) : Type 0 where
  pub globals_are : (v : Variable) → (v ∈ globals) ↔ (v ∈ global_variables s)
  pub bound_are : (v : Variable) → (v ∈ bound) ↔ IsBound s v

-- none of the variables is missing from both lists, or the first that is, is spelled so
abbrev pub Misses : List Variable → List Variable → List Variable → Option (List ℕ) → Type 0
Misses given bound vs None = Each (λ v. (v ∈ given) ⊎ (v ∈ bound)) vs
Misses given bound vs (Some name) = (v : Variable) × IsFirstBad (λ w. (w ∈ given) ⊎ (w ∈ bound)) vs v × (name ≡ spelled v)

-- all variables are bound where they occur, or the first that isn't is spelled so
abbrev pub Finds : Statement → List Occurrence → Option (List ℕ) → Type 0
Finds s os None = Each (IsBoundThere s) os
Finds s os (Some name) = (o : Occurrence) × IsFirstBad (IsBoundThere s) os o × (name ≡ spelled o.variable)
