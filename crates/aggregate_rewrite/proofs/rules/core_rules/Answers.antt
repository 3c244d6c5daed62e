use Rattle.std.proofs.Common.{ap, ◌∙◌, ◌∷◌, [], ◌++◌}
use Rattle.asp_strata.proofs.Loops.{drop-at}
use Rattle.rewriting.specs.CoreRules.{core_rule_of}
use Rattle.aggregate_rewrite.proofs.Building.{map_on}
use Rattle.aggregate_rewrite.proofs.rules.core_rules.Goals as goal

pub loop-rule-preserved : goal.loop-rule-preserved
loop-rule-preserved c =
    let rules = c.args.rules.now in
    let at = drop-at rules c.loop-rule.rule-index c.rule-item.result c.loop-rule-test.true c.rule-item.is in
    let pushed = c.in_ok-push.ensures.ok ∙ ap (λ r. c.loop-rule.done ++ r ∷ []) c.in_ok-core_rule.ensures in
    map_on core_rule_of _ _ c.rule-item.result c.loop-rule.done c.push.new.self _ at pushed c.loop-rule.invariant
