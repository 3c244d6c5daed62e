use Rattle.std.proofs.Common.{◌≡◌, ◌++◌, map, drop}
use Rattle.lists.specs.Lists.{concat}
use Rattle.asp_safety.specs.Binding.{outside_arithmetic}
use Rattle.asp_safety.proofs.variables.+push_outside.Given as goal

abbrev pub invariant-loop-arg : goal.invariant-loop-arg
invariant-loop-arg l = l.into ++ concat (map outside_arithmetic (drop l.arg-index l.arg-items)) ≡ l.initial.into ++ concat (map outside_arithmetic l.arg-items)
