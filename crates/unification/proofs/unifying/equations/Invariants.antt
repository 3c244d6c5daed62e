use Rattle.std.proofs.Common.{◌≡◌, ◌++◌, map, drop}
use Rattle.unification.specs.Patterns.{put, later_by}
use Rattle.unification.specs.Solving.{equations_of}
use Rattle.unification.proofs.unifying.equations.Given as goal

-- what was asked and what is left to ask
abbrev pub invariant-loop-i : goal.invariant-loop-i
invariant-loop-i l = l.todo.items ++ equations_of (drop l.i l.left) (map (put (later_by l.by)) (drop l.i l.right)) ≡ equations_of l.left (map (put (later_by l.by)) l.right)
