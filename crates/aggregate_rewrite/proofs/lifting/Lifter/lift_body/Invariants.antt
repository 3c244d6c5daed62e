use Rattle.std.proofs.Common.{drop}
use Rattle.rewriting.specs.Parts.{positives}
use Rattle.rewriting.specs.Lifting.{lift_atom, lift_each}
use Rattle.aggregate_rewrite.proofs.LiftLemmas.{IsLifting}
use Rattle.aggregate_rewrite.proofs.lifting.Lifter.lift_body.Given as goal

abbrev pub invariant-loop-item : goal.invariant-loop-item
invariant-loop-item l = IsLifting lift_atom (positives (drop l.item-index l.body)) l.self.next l.atoms l.self.equations (lift_each lift_atom (positives l.body) l.initial.self.next) l.initial.self.equations
