use Rattle.std.proofs.Common.{◌≡◌, max, map, drop}
use Rattle.lists.specs.Lists.{concat}
use Rattle.asp_meaning.specs.Variables.{variables}
use Rattle.single_rules.specs.Renaming.{numbers_above}
use Rattle.choice_rewrite.proofs.above.+numbers_in_term.Given as goal

abbrev pub invariant-loop-arg : goal.invariant-loop-arg
invariant-loop-arg l = max l.above (numbers_above (concat (map variables (drop l.arg-index l.arg-items)))) ≡ numbers_above (concat (map variables l.arg-items))
