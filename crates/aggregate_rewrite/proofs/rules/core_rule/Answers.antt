use Rattle.std.proofs.Common.{ap, ◌∙◌}
use Rattle.asp_strata.proofs.Loops.{if_ok}
use Rattle.rewriting.specs.CoreRules.{number_rule}
use Rattle.aggregate_rewrite.proofs.rules.core_rule.Goals as goal

pub returns : goal.returns
returns c = if_ok c.number_rule.result _ _ (λ core h. h ∙ ap number_rule c.in_ok-body.ensures) c.number_rule.ensures
