use Rattle.std.proofs.Common.{◌≡◌, ◌++◌, map, drop}
use Rattle.single_rules.specs.Splitting.{counted}
use Rattle.choice_rewrite.proofs.elements.all_counted.Given as goal

abbrev pub invariant-loop-element : goal.invariant-loop-element
invariant-loop-element l = l.done ++ map counted (drop l.element-index l.elements) ≡ map counted l.elements
