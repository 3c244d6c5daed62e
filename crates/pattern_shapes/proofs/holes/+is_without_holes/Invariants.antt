use Rattle.std.proofs.Common.{ℕ, take}
use Rattle.lists.specs.Lists.{◌∈◌}
use Rattle.alpha_outside.specs.declared.pattern.PatternTerm.{PatternTerm}
use Rattle.unification.specs.Patterns.{HasHole}
use Rattle.pattern_shapes.proofs.holes.+is_without_holes.Given as goal

abbrev pub invariant-loop-arg : goal.invariant-loop-arg
invariant-loop-arg l = (u : PatternTerm) → u ∈ take l.arg-index l.arg-items → (x : ℕ) → ¬ HasHole u x
