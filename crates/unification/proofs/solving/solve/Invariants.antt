use Rattle.unification.proofs.Applying.{IsOnTheWay}
use Rattle.unification.proofs.solving.solve.Given as goal

abbrev pub invariant-loop : goal.invariant-loop
invariant-loop l = IsOnTheWay l.pool l.fn.terms.items l.fn.todo.items l.terms.items l.todo.items
