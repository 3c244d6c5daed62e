use Rattle.std.proofs.Common.{◌≡◌, ◌++◌, map, drop}
use Rattle.rewriting.specs.CoreRules.{core_rule_of}
use Rattle.aggregate_rewrite.proofs.rules.core_rules.Given as goal

abbrev pub invariant-loop-rule : goal.invariant-loop-rule
invariant-loop-rule l = l.done ++ map core_rule_of (drop l.rule-index l.rules) ≡ map core_rule_of l.rules
