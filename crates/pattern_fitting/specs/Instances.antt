-- When terms with holes become nothing that others don't become.
use Rattle.std.specs.Prelude.{◌≡◌, ℕ, List}
use Rattle.lists.specs.Lists.{Each, HasNoRepeats}
use Rattle.alpha_outside.specs.declared.node.Node.{Node}
use Rattle.alpha_outside.specs.declared.pattern.PatternTerm.{PatternTerm}
use Rattle.alpha_outside.specs.declared.pattern.PatternTerm.TheVariants as pattern
use Rattle.asp_meaning.specs.declared.value.Value.{Value}
use Rattle.unification.specs.Patterns.{Become}

-- all that the first terms become the others become too
abbrev pub AreInstances : List Node → List PatternTerm → List PatternTerm → Type 0
AreInstances nodes terms others = (vs : List Value) → Become nodes terms vs → Become nodes others vs

-- the term is a hole
abbrev pub IsHole : PatternTerm → Type 0
IsHole t = (x : ℕ) × (t ≡ pattern.Hole x)

-- the terms are holes, no two of them the same
abbrev pub AreApart : List PatternTerm → Type 0
AreApart terms = Each IsHole terms × HasNoRepeats terms
