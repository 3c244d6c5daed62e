use Rattle.std.proofs.Common.{subst}
use Rattle.lists.specs.Lists.{◌∈◌, Each}
use Rattle.lists.proofs.ListLemmas.{Each-at}
use Rattle.core_rules.specs.CoreForm.{IsRuleForm}
use Rattle.term_eval.proofs.Arguments.{read_member}
use Rattle.justification.specs.Heads.{NeverGives}
use Rattle.justification.proofs.HeadLemmas.{none_gives, each_past, each_next}
use Rattle.justification.proofs.heads.is_underivable.Goals as goal

pub loop-rule-preserved : goal.loop-rule-preserved
loop-rule-preserved c =
    let items = c.as_slice-rule-items.result.now in
    let among = subst (λ rules. c.rule-item.result ∈ rules) c.as_slice-rule-items.ensures (read_member items c.loop-rule.rule-index c.rule-item.result c.loop-rule-test.true c.rule-item.is) in
    let form = Each-at (IsRuleForm c.args.core.now.aggregates) c.args.core.now.rules c.rule-item.result c.requires.form.rules among in
    λ rest. c.loop-rule.invariant (each_next (NeverGives c.args.core.now.aggregates c.args.ground.now c.args.atom) items c.loop-rule.rule-index c.rule-item.result c.loop-rule-test.true c.rule-item.is
    (c.in_ok-may_give.ensures c.if-branch.false c.args.core.now.aggregates form c.requires.lawful.built.atoms) rest)

pub returns : goal.returns
returns c = λ ended.
    let P = NeverGives c.args.core.now.aggregates c.args.ground.now c.args.atom in
    none_gives c.args.core.now c.args.ground.now c.args.atom
    (subst (Each P) c.as_slice-rule-items.ensures (c.loop-rule.invariant (each_past P c.as_slice-rule-items.result.now c.loop-rule.rule-index c.loop-rule-test.false)))
