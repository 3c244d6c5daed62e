use Rattle.std.proofs.Common.{◌≡◌, max, map, drop}
use Rattle.lists.specs.Lists.{concat}
use Rattle.asp_meaning.specs.Variables.{variables}
use Rattle.rewriting.specs.Lifting.{free_above}
use Rattle.aggregate_rewrite.proofs.free.above_terms.Given as goal

abbrev pub invariant-loop-term : goal.invariant-loop-term
invariant-loop-term l = max l.free (free_above (concat (map variables (drop l.term-index l.terms)))) ≡ free_above (concat (map variables l.terms))
