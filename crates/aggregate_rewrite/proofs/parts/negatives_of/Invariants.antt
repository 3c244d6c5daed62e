use Rattle.std.proofs.Common.{◌≡◌, ◌++◌, drop}
use Rattle.rewriting.specs.Parts.{negatives}
use Rattle.aggregate_rewrite.proofs.parts.negatives_of.Given as goal

abbrev pub invariant-loop-item : goal.invariant-loop-item
invariant-loop-item l = l.atoms ++ negatives (drop l.item-index l.body) ≡ negatives l.body
