use Rattle.std.proofs.Common.{◌≡◌, ◌++◌, map, drop}
use Rattle.single_rules.specs.Splitting.{condition_item}
use Rattle.choice_rewrite.proofs.elements.push_condition.Given as goal

abbrev pub invariant-loop-literal : goal.invariant-loop-literal
invariant-loop-literal l = l.into ++ map (condition_item l.statement) (drop l.literal-index l.condition) ≡ l.initial.into ++ map (condition_item l.statement) l.condition
