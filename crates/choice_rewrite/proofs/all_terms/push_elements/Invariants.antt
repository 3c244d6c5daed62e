use Rattle.std.proofs.Common.{◌≡◌, ◌++◌, map, drop}
use Rattle.lists.specs.Lists.{concat}
use Rattle.single_rules.specs.Renaming.{element_terms}
use Rattle.choice_rewrite.proofs.all_terms.push_elements.Given as goal

abbrev pub invariant-loop-element : goal.invariant-loop-element
invariant-loop-element l = l.into ++ concat (map element_terms (drop l.element-index l.elements)) ≡ l.initial.into ++ concat (map element_terms l.elements)
