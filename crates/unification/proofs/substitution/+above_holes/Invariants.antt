use Rattle.std.proofs.Common.{ℕ, ◌⊎◌, ◌<◌, drop}
use Rattle.lists.specs.Lists.{◌∈◌}
use Rattle.alpha_outside.specs.declared.pattern.PatternTerm.{PatternTerm}
use Rattle.unification.specs.Patterns.{HasHole}
use Rattle.unification.proofs.substitution.+above_holes.Given as goal

-- a hole of an argument is below the number so far, or the argument is one of those that are left
abbrev pub invariant-loop-arg : goal.invariant-loop-arg
invariant-loop-arg l = (u : PatternTerm) → u ∈ l.arg-items → (x : ℕ) → HasHole u x → (x < l.most) ⊎ (u ∈ drop l.arg-index l.arg-items)
