use Rattle.std.proofs.Common.{drop}
use Rattle.rewriting.specs.Lifting.{lift_term, lift_each}
use Rattle.aggregate_rewrite.proofs.LiftLemmas.{IsLifting}
use Rattle.aggregate_rewrite.proofs.lifting.Lifter.+lift_term.Given as goal

abbrev pub invariant-loop-arg : goal.invariant-loop-arg
invariant-loop-arg l = IsLifting lift_term (drop l.arg-index l.arg-items) l.self.next l.lifted l.self.equations (lift_each lift_term l.arg-items l.initial.self.next) l.initial.self.equations
