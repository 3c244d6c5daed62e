use Rattle.std.proofs.Common.{◌≡◌, ◌++◌, map, drop}
use Rattle.unification.specs.Patterns.{put, later_by}
use Rattle.unification.proofs.substitution.+moved.Given as goal

-- the parts so far and those that are left become all parts
abbrev pub invariant-loop-arg : goal.invariant-loop-arg
invariant-loop-arg l = l.parts ++ map (put (later_by l.by)) (drop l.arg-index l.arg-items) ≡ map (put (later_by l.by)) l.arg-items
