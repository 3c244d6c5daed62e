use Rattle.std.proofs.Common.{◌≡◌, ◌++◌, map, drop}
use Rattle.lists.specs.Lists.{concat}
use Rattle.single_rules.specs.Renaming.{choice_terms}
use Rattle.choice_rewrite.proofs.all_terms.push_choices.Given as goal

abbrev pub invariant-loop-element : goal.invariant-loop-element
invariant-loop-element l = l.into ++ concat (map choice_terms (drop l.element-index l.elements)) ≡ l.initial.into ++ concat (map choice_terms l.elements)
