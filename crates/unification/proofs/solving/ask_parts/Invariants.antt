use Rattle.std.proofs.Common.{◌≡◌, ◌++◌, drop}
use Rattle.unification.specs.Solving.{equations_of}
use Rattle.unification.proofs.solving.ask_parts.Given as goal

-- what was asked and what is left to ask
abbrev pub invariant-loop-i : goal.invariant-loop-i
invariant-loop-i l = l.todo.items ++ equations_of (drop l.i l.left) (drop l.i l.right) ≡ l.fn.todo.items ++ equations_of l.left l.right
