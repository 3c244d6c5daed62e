use Rattle.std.proofs.Common.{◌≡◌, ◌++◌, map, drop}
use Rattle.lists.specs.Lists.{concat}
use Rattle.asp_safety.specs.Binding.{element_variables}
use Rattle.asp_safety.proofs.variables.push_elements.Given as goal

abbrev pub invariant-loop-element : goal.invariant-loop-element
invariant-loop-element l = l.into ++ concat (map element_variables (drop l.element-index l.element-items)) ≡ l.initial.into ++ concat (map element_variables l.element-items)
