use Rattle.std.proofs.Common.{◌≡◌, ◌≤◌, ◌++◌, length, take, reverse}
use Rattle.search_values.specs.Values.{chosen}
use Rattle.search_state.proofs.search.Search.chosen.Given as goal

abbrev pub invariant-loop-left : goal.invariant-loop-left
invariant-loop-left l = record {
  within : l.left ≤ length l.entries;
  rest : l.lits.items ++ chosen (reverse (take l.left l.entries)) ≡ chosen l.self.stack;
}

abbrev pub decreases-loop-left : goal.decreases-loop-left
decreases-loop-left l = l.left
