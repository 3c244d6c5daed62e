use Rattle.std.proofs.Common.{◌≡◌, max, map, drop}
use Rattle.lists.specs.Lists.{concat}
use Rattle.asp_meaning.specs.Variables.{variables}
use Rattle.rewriting.specs.Lifting.{free_above}
use Rattle.aggregate_rewrite.proofs.free.+above_term.Given as goal

abbrev pub invariant-loop-arg : goal.invariant-loop-arg
invariant-loop-arg l = max l.free (free_above (concat (map variables (drop l.arg-index l.arg-items)))) ≡ free_above (concat (map variables l.arg-items))
