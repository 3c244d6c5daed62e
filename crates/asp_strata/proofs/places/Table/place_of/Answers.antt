use Rattle.asp_strata.proofs.TableLemmas.{found_place, no_place}
use Rattle.asp_strata.proofs.places.Table.place_of.Goals as goal

pub returns-clause-there : goal.returns-clause-there
returns-clause-there c = found_place c.self.inside.predicates.keys c.args.self.now c.args.predicate.now c.get_index_of.result c.self.view_is c.self.invariant c.get_index_of.ensures.index

pub returns-clause-none : goal.returns-clause-none
returns-clause-none c = λ none. no_place c.self.inside.predicates.keys c.args.self.now c.args.predicate.now c.get_index_of.result c.self.view_is c.get_index_of.ensures.found none
