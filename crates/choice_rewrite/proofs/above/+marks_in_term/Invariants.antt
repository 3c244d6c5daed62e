use Rattle.std.proofs.Common.{◌≡◌, max, map, drop}
use Rattle.lists.specs.Lists.{concat}
use Rattle.asp_meaning.specs.Variables.{variables}
use Rattle.single_rules.specs.Renaming.{marks_above}
use Rattle.choice_rewrite.proofs.above.+marks_in_term.Given as goal

abbrev pub invariant-loop-arg : goal.invariant-loop-arg
invariant-loop-arg l = max l.above (marks_above (concat (map variables (drop l.arg-index l.arg-items)))) ≡ marks_above (concat (map variables l.arg-items))
