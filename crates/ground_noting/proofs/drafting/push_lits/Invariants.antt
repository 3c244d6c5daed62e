use Rattle.std.proofs.Common.{◌≡◌, ◌++◌, drop}
use Rattle.search_values.specs.Tables.{lits_of}
use Rattle.ground_noting.proofs.drafting.push_lits.Given as goal

abbrev pub invariant-loop-atom : goal.invariant-loop-atom
invariant-loop-atom l = l.lits.items ++ lits_of l.positive (drop l.atom-index l.atoms) ≡ l.initial.lits.items ++ lits_of l.positive l.atoms
