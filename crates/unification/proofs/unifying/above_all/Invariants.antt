use Rattle.std.proofs.Common.{drop}
use Rattle.unification.proofs.HoleLemmas.{AreBelow}
use Rattle.unification.proofs.unifying.above_all.Given as goal

abbrev pub invariant-loop-term : goal.invariant-loop-term
invariant-loop-term l = AreBelow l.most l.terms (drop l.term-index l.terms)
