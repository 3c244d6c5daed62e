use Rattle.std.proofs.Common.{◌≡◌, ◌++◌, map, drop}
use Rattle.single_rules.specs.Signs.{sign_rule}
use Rattle.choice_rewrite.proofs.signs.push_sign_rules.Given as goal

abbrev pub invariant-loop-predicate : goal.invariant-loop-predicate
invariant-loop-predicate l = l.into ++ map sign_rule (drop l.predicate-index l.predicates) ≡ l.initial.into ++ map sign_rule l.predicates
