use Rattle.std.proofs.Common.{◌≡◌, ◌++◌, map, drop}
use Rattle.lists.specs.Lists.{concat}
use Rattle.single_rules.specs.Signs.{choice_in_text}
use Rattle.choice_rewrite.proofs.signs.push_choices.Given as goal

abbrev pub invariant-loop-element : goal.invariant-loop-element
invariant-loop-element l = l.into ++ concat (map choice_in_text (drop l.element-index l.elements)) ≡ l.initial.into ++ concat (map choice_in_text l.elements)
