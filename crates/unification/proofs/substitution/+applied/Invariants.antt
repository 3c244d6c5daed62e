use Rattle.std.proofs.Common.{◌≡◌, ◌++◌, map, drop}
use Rattle.unification.specs.Patterns.{put, at_places}
use Rattle.unification.proofs.substitution.+applied.Given as goal

-- the parts so far and those that are left become all parts
abbrev pub invariant-loop-arg : goal.invariant-loop-arg
invariant-loop-arg l = l.parts ++ map (put (at_places l.terms.items)) (drop l.arg-index l.arg-items) ≡ map (put (at_places l.terms.items)) l.arg-items
