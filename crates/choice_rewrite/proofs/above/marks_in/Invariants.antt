use Rattle.std.proofs.Common.{◌≡◌, max, map, drop}
use Rattle.lists.specs.Lists.{concat}
use Rattle.asp_meaning.specs.Variables.{variables}
use Rattle.single_rules.specs.Renaming.{marks_above}
use Rattle.choice_rewrite.proofs.above.marks_in.Given as goal

abbrev pub invariant-loop-term : goal.invariant-loop-term
invariant-loop-term l = max l.above (marks_above (concat (map variables (drop l.term-index l.terms)))) ≡ marks_above (concat (map variables l.terms))
