use Rattle.std.proofs.Common.{◌≡◌, ◌++◌, map, drop}
use Rattle.lists.specs.Lists.{concat}
use Rattle.asp_safety.specs.Binding.{literal_variables}
use Rattle.asp_safety.proofs.variables.push_condition.Given as goal

abbrev pub invariant-loop-literal : goal.invariant-loop-literal
invariant-loop-literal l = l.into ++ concat (map literal_variables (drop l.literal-index l.condition)) ≡ l.initial.into ++ concat (map literal_variables l.condition)
