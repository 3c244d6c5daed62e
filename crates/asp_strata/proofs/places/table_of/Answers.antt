use Rattle.asp_strata.proofs.Loops.{moved, all_moved}
use Rattle.asp_strata.proofs.places.table_of.Goals as goal

pub moving-preserved : goal.moving-preserved
moving-preserved c = moved c.args.predicates c.moving.predicates c.pop.new.self c.moving.table c.add.new.self c.in-Some.predicate c.in-Some.ensures c.in_ok-add.ensures c.moving.invariant

pub returns : goal.returns
returns c = all_moved c.args.predicates c.moving.predicates c.moving.table c.in_default.ensures.0 c.moving.invariant
