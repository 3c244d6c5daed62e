use Rattle.std.proofs.Common.{drop}
use Rattle.rewriting.specs.Lifting.{lift_term, lift_each}
use Rattle.aggregate_rewrite.proofs.LiftLemmas.{IsLifting}
use Rattle.aggregate_rewrite.proofs.lifting.Lifter.lift_terms.Given as goal

abbrev pub invariant-loop-term : goal.invariant-loop-term
invariant-loop-term l = IsLifting lift_term (drop l.term-index l.terms) l.self.next l.lifted l.self.equations (lift_each lift_term l.terms l.initial.self.next) l.initial.self.equations
