use Rattle.std.proofs.Common.{◌≡◌, ◌++◌, map, drop}
use Rattle.lists.specs.Lists.{concat}
use Rattle.asp_strata.specs.Recursion.{element_of}
use Rattle.asp_strata.proofs.predicates.push_elements.Given as goal

abbrev pub invariant-loop-element : goal.invariant-loop-element
invariant-loop-element l = l.into ++ concat (map element_of (drop l.element-index l.elements)) ≡ l.initial.into ++ concat (map element_of l.elements)
