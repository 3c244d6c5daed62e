use Rattle.asp_strata.proofs.Loops.{on_ok}
use Rattle.asp_strata.proofs.Members.{at_place}
use Rattle.asp_strata.proofs.TableLemmas.{place_added, place_left_out}
use Rattle.asp_strata.proofs.places.add_place.Goals as goal

pub returns-in-None : goal.returns-in-None
returns-in-None c = place_left_out c.args.table.now c.args.predicate.now c.args.into.now (c.place_of.ensures.none c.in-None.is) (at_place c.args.predicate.now c.args.table.now)

pub returns-in-Some : goal.returns-in-Some
returns-in-Some c = on_ok c.add.result _ _ (place_added c.args.table.now c.args.predicate.now c.args.into.now c.add.new.self c.in-Some.place c.in-Some.ensures.there) c.add.ensures
