use Rattle.std.proofs.Common.{◌≡◌, ◌++◌, drop}
use Rattle.rewriting.specs.Parts.{comparisons}
use Rattle.aggregate_rewrite.proofs.parts.comparisons_of.Given as goal

abbrev pub invariant-loop-item : goal.invariant-loop-item
invariant-loop-item l = l.found ++ comparisons (drop l.item-index l.body) ≡ comparisons l.body
