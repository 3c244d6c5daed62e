use Rattle.asp_strata.proofs.TableLemmas.{has}
use Rattle.asp_strata.proofs.place_set.PlaceSet.has.Goals as goal

pub returns : goal.returns
returns c = has c.self.inside.places.keys c.args.self.now c.args.place c.contains.result c.self.view_is c.contains.ensures
