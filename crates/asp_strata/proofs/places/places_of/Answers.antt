use Rattle.std.proofs.Math.ListN.{drop_of_length-le}
use Rattle.asp_strata.proofs.Loops.{drop-at}
use Rattle.asp_strata.proofs.TableLemmas.{places_on, places_done}
use Rattle.asp_strata.proofs.places.places_of.Goals as goal

pub loop-predicate-preserved : goal.loop-predicate-preserved
loop-predicate-preserved c =
    let at = drop-at c.args.predicates.now c.loop-predicate.predicate-index c.predicate-item.result c.loop-predicate-test.true c.predicate-item.is in
    places_on c.args.table.now c.args.predicates.now _ _ c.predicate-item.result c.loop-predicate.places c.add_place.new.into at c.in_ok-add_place.ensures c.loop-predicate.invariant

pub returns : goal.returns
returns c = places_done c.args.table.now c.args.predicates.now _ c.loop-predicate.places (drop_of_length-le c.args.predicates.now c.loop-predicate-test.false) c.loop-predicate.invariant
