use Rattle.std.proofs.Common.{◌≡◌, ◌++◌, map, drop}
use Rattle.unification.specs.Patterns.{put, later_by}
use Rattle.unification.specs.Solving.{equations_of}
use Rattle.pattern_fitting.proofs.instances.equations.Given as goal

-- what was asked and what is left to ask
abbrev pub invariant-loop-i : goal.invariant-loop-i
invariant-loop-i l = l.todo.items ++ equations_of (drop l.i l.terms) (map (put (later_by l.first)) (drop l.i l.others))
    ≡ equations_of l.terms (map (put (later_by l.first)) l.others)
