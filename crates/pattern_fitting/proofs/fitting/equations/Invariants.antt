use Rattle.std.proofs.Common.{◌≡◌, ◌++◌, map, drop}
use Rattle.alpha_outside.specs.declared.pattern.PatternTerm.TheVariants.{Known}
use Rattle.unification.specs.Solving.{equations_of}
use Rattle.pattern_fitting.proofs.fitting.equations.Given as goal

-- what was asked and what is left to ask
abbrev pub invariant-loop-i : goal.invariant-loop-i
invariant-loop-i l = l.todo.items ++ equations_of (drop l.i l.terms) (map Known (drop l.i l.ids)) ≡ equations_of l.terms (map Known l.ids)
