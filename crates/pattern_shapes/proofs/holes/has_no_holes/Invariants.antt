use Rattle.std.proofs.Common.{ℕ, take}
use Rattle.lists.specs.Lists.{◌∈◌}
use Rattle.alpha_outside.specs.declared.pattern.PatternTerm.{PatternTerm}
use Rattle.unification.specs.Patterns.{HasHole}
use Rattle.pattern_shapes.proofs.holes.has_no_holes.Given as goal

abbrev pub invariant-loop-term : goal.invariant-loop-term
invariant-loop-term l = (u : PatternTerm) → u ∈ take l.term-index l.terms → (x : ℕ) → ¬ HasHole u x
