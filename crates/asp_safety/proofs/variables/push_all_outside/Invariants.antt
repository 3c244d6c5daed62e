use Rattle.std.proofs.Common.{◌≡◌, ◌++◌, map, drop}
use Rattle.lists.specs.Lists.{concat}
use Rattle.asp_safety.specs.Binding.{outside_arithmetic}
use Rattle.asp_safety.proofs.variables.push_all_outside.Given as goal

abbrev pub invariant-loop-term : goal.invariant-loop-term
invariant-loop-term l = l.into ++ concat (map outside_arithmetic (drop l.term-index l.terms)) ≡ l.initial.into ++ concat (map outside_arithmetic l.terms)
