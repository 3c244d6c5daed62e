use Rattle.std.proofs.Common.{ℕ, drop}
use Rattle.lists.specs.Lists.{◌∈◌}
use Rattle.alpha_outside.specs.declared.pattern.PatternTerm.{PatternTerm}
use Rattle.unification.specs.Patterns.{HasHole}
use Rattle.unification.proofs.substitution.+has_hole.Given as goal

-- an argument with the hole is one of those that are left
abbrev pub invariant-loop-arg : goal.invariant-loop-arg
invariant-loop-arg l = (u : PatternTerm) → u ∈ l.arg-items → HasHole u l.hole → u ∈ drop l.arg-index l.arg-items
