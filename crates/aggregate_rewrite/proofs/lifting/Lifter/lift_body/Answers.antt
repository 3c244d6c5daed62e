use Rattle.std.proofs.Common.{ap}
use Rattle.std.proofs.Math.ListN.{drop_of_length-le}
use Rattle.asp_strata.proofs.Loops.{drop-at}
use Rattle.rewriting.specs.Parts.{of_item, literal_positives, positives}
use Rattle.rewriting.specs.Lifting.{lift_atom}
use Rattle.aggregate_rewrite.proofs.LiftLemmas.{lift_front, lift_none}
use Rattle.aggregate_rewrite.proofs.lifting.Lifter.lift_body.Goals as goal

pub loop-item-preserved : goal.loop-item-preserved
loop-item-preserved c =
    let at = ap positives (drop-at c.args.body.now c.loop-item.item-index c.item-item.result c.loop-item-test.true c.item-item.is) in
    lift_front lift_atom _ (of_item literal_positives c.item-item.result) _ c.loop-item.self.next c.lift_item.new.self.next c.loop-item.atoms c.lift_item.new.into c.loop-item.self.equations
    c.lift_item.new.self.equations _ c.args.self.now.equations at c.in_ok-lift_item.ensures.lifted c.in_ok-lift_item.ensures.equations c.in_ok-lift_item.ensures.next c.loop-item.invariant

pub returns : goal.returns
returns c =
    let none = ap positives (drop_of_length-le c.args.body.now c.loop-item-test.false) in
    let done = lift_none lift_atom _ c.loop-item.self.next c.loop-item.atoms c.loop-item.self.equations _ c.args.self.now.equations none c.loop-item.invariant in
    record { lifted = done.0; equations = done.1 }
