use Rattle.std.proofs.Common.{◌≡◌, ◌++◌, map, drop}
use Rattle.rewriting.specs.Numbering.{numbered}
use Rattle.aggregate_rewrite.proofs.numbering.number_terms.Given as goal

abbrev pub invariant-loop-term : goal.invariant-loop-term
invariant-loop-term l = l.done ++ map (numbered l.table) (drop l.term-index l.terms) ≡ map (numbered l.table) l.terms
