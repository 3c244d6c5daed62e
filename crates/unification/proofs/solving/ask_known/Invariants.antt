use Rattle.std.proofs.Common.{◌≡◌, ◌++◌, map, drop}
use Rattle.alpha_outside.specs.declared.pattern.PatternTerm.TheVariants.{Known}
use Rattle.unification.specs.Solving.{equations_of}
use Rattle.unification.proofs.solving.ask_known.Given as goal

-- what was asked and what is left to ask
abbrev pub invariant-loop-i : goal.invariant-loop-i
invariant-loop-i l = l.todo.items ++ equations_of (drop l.i l.left) (map Known (drop l.i l.right)) ≡ l.fn.todo.items ++ equations_of l.left (map Known l.right)
