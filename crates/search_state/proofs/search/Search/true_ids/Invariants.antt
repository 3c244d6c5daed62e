use Rattle.search_state.specs.Moves.{AreTrueNames}
use Rattle.search_state.proofs.search.Search.true_ids.Given as goal

abbrev pub invariant-loop-x : goal.invariant-loop-x
invariant-loop-x l = AreTrueNames l.self l.x l.atoms.items
