use Rattle.asp_strata.proofs.Loops.{moved, all_moved}
use Rattle.asp_safety.proofs.bound.set_of.Goals as goal

pub moving-preserved : goal.moving-preserved
moving-preserved c = moved c.args.keys c.moving.keys c.pop.new.self c.moving.set.keys c.add.new.set.keys c.in-Some.key c.in-Some.ensures c.in_ok-add.ensures c.moving.invariant

pub returns : goal.returns
returns c = all_moved c.args.keys c.moving.keys c.moving.set.keys c.in_default.ensures.0 c.moving.invariant
