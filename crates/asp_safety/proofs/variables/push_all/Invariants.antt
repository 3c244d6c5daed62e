use Rattle.std.proofs.Common.{◌≡◌, ◌++◌, map, drop}
use Rattle.lists.specs.Lists.{concat}
use Rattle.asp_meaning.specs.Variables.{variables}
use Rattle.asp_safety.proofs.variables.push_all.Given as goal

abbrev pub invariant-loop-term : goal.invariant-loop-term
invariant-loop-term l = l.into ++ concat (map variables (drop l.term-index l.terms)) ≡ l.initial.into ++ concat (map variables l.terms)
