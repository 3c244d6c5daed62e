use Rattle.unification.specs.Opening.{AreOwn}
use Rattle.unification.proofs.unifying.own_terms.Given as goal

abbrev pub invariant-loop-x : goal.invariant-loop-x
invariant-loop-x l = AreOwn l.x l.terms.items
