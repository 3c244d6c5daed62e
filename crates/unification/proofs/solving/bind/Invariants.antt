use Rattle.std.proofs.Common.{◌≡◌, ◌++◌, map, drop}
use Rattle.unification.specs.Patterns.{put, only}
use Rattle.unification.proofs.solving.bind.Given as goal

-- the terms so far and those that are left become all terms
abbrev pub invariant-loop-term : goal.invariant-loop-term
invariant-loop-term l = l.next.items ++ map (put (only l.hole l.by)) (drop l.term-index l.term-items) ≡ map (put (only l.hole l.by)) l.term-items
