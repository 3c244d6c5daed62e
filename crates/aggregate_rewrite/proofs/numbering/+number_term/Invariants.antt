use Rattle.std.proofs.Common.{◌≡◌, ◌++◌, map, drop}
use Rattle.rewriting.specs.Numbering.{numbered}
use Rattle.aggregate_rewrite.proofs.numbering.+number_term.Given as goal

abbrev pub invariant-loop-arg : goal.invariant-loop-arg
invariant-loop-arg l = l.parts ++ map (numbered l.table) (drop l.arg-index l.arg-items) ≡ map (numbered l.table) l.arg-items
