use Rattle.std.proofs.Common.{◌≡◌, ◌++◌, map, drop}
use Rattle.single_rules.specs.Splitting.{element_rule}
use Rattle.choice_rewrite.proofs.elements.push_elements.Given as goal

abbrev pub invariant-loop-element : goal.invariant-loop-element
invariant-loop-element l = l.into ++ map (element_rule l.statement) (drop l.element-index l.elements) ≡ l.initial.into ++ map (element_rule l.statement) l.elements
