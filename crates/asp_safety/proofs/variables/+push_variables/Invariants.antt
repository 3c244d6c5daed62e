use Rattle.std.proofs.Common.{◌≡◌, ◌++◌, map, drop}
use Rattle.lists.specs.Lists.{concat}
use Rattle.asp_meaning.specs.Variables.{variables}
use Rattle.asp_safety.proofs.variables.+push_variables.Given as goal

abbrev pub invariant-loop-arg : goal.invariant-loop-arg
invariant-loop-arg l = l.into ++ concat (map variables (drop l.arg-index l.arg-items)) ≡ l.initial.into ++ concat (map variables l.arg-items)
