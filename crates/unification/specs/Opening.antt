-- Terms of a rule as terms of a pattern, in which variables are holes and so is each operation that stands in no other.
use Rattle.std.specs.Prelude.{◌≡◌, ◌⊎◌, ℕ, ◌<◌, ◌≤◌, List, map, length, Some, slice_get}
use Rattle.lists.specs.Lists.{◌∈◌, Each}
use Rattle.alpha_outside.specs.declared.node.Node.{Node}
use Rattle.alpha_outside.specs.declared.pattern.PatternTerm.{PatternTerm}
use Rattle.alpha_outside.specs.declared.pattern.PatternTerm.TheVariants as pattern
use Rattle.core_rules.specs.declared.rules.CoreTerm.{CoreTerm}
use Rattle.core_rules.specs.Variables.{variables}
use Rattle.asp_meaning.specs.declared.value.Value.{Value}
use Rattle.core_meaning.specs.Terms.{Partly}
use Rattle.unification.specs.Patterns.{Holes, fill, IsPatternTerm}
use Rattle.unification.specs.Solving.{HolesBelow}
use Rattle.unification.specs.Unifiers.{MayBe, MayAllBe}

-- values for holes as values for variables
abbrev pub as_values : Holes → Partly
as_values h x = Some (h x)

-- all variables are below n
abbrev pub VariablesBelow : ℕ → CoreTerm → Type 0
VariablesBelow n t = (v : ℕ) → v ∈ variables t → v < n

-- the holes from one number on and below another are new: values for the others make the term what it may be, for some values of these
pub record IsOpened (nodes : List Node) (from to : ℕ) (t : CoreTerm) (p : PatternTerm) : Type 0 where
  pub ordered : from ≤ to
  pub formed : IsPatternTerm (length nodes) p
  pub below : HolesBelow to p
  pub sound : (h : Holes) → MayBe (as_values h) t (fill nodes h p)
  pub reached : (h : Holes) (v : Value) → MayBe (as_values h) t v → (k : Holes) × ((y : ℕ) → (y < from) ⊎ (to ≤ y) → k y ≡ h y) × (fill nodes k p ≡ v)

-- the same of terms, one by one
pub record AreOpened (nodes : List Node) (from to : ℕ) (ts : List CoreTerm) (ps : List PatternTerm) : Type 0 where
  pub ordered : from ≤ to
  pub formed : Each (IsPatternTerm (length nodes)) ps
  pub below : Each (HolesBelow to) ps
  pub sound : (h : Holes) → MayAllBe (as_values h) ts (map (fill nodes h) ps)
  pub reached : (h : Holes) (vs : List Value) → MayAllBe (as_values h) ts vs → (k : Holes) × ((y : ℕ) → (y < from) ⊎ (to ≤ y) → k y ≡ h y) × (map (fill nodes k) ps ≡ vs)

-- so many holes, each its own term
pub record AreOwn (n : ℕ) (ts : List PatternTerm) : Type 0 where
  pub many : length ts ≡ n
  pub own : (x : ℕ) (t : PatternTerm) → slice_get ts x ≡ Some t → t ≡ pattern.Hole x
