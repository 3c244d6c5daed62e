use Rattle.std.proofs.Common.{◌∙◌}
use Rattle.choice_manager.proofs.Noted.{is_noted, body_below, pos_below, neg_below, none_more}
use Rattle.choice_manager.proofs.choices.Choices.next_active.Goals as goal

pub get-requires : goal.get-requires
get-requires c =
    c.requires.there c.inst-item.result
    (is_noted c.deref-inst-items.result.now c.args.self.now c.loop-inst.inst-index c.inst-item.result (c.deref-inst-items.ensures.value ∙ c.self.view_is) c.loop-inst-test.true c.inst-item.is)

pub active_body-requires-clause-body : goal.active_body-requires-clause-body
active_body-requires-clause-body c = body_below c.args.trail.now.atoms c.args.instances.now c.inst-item.result c.get.result.now c.requires.placed c.get.ensures

pub active_body-requires-clause-pos : goal.active_body-requires-clause-pos
active_body-requires-clause-pos c = pos_below c.args.trail.now.atoms c.args.instances.now c.inst-item.result c.get.result.now c.requires.placed c.get.ensures

pub active_body-requires-clause-neg : goal.active_body-requires-clause-neg
active_body-requires-clause-neg c = neg_below c.args.trail.now.atoms c.args.instances.now c.inst-item.result c.get.result.now c.requires.placed c.get.ensures

pub returns-in-Some-clause-some : goal.returns-in-Some-clause-some
returns-in-Some-clause-some c = (
  c.inst-item.result,
  is_noted c.deref-inst-items.result.now c.args.self.now c.loop-inst.inst-index c.inst-item.result (c.deref-inst-items.ensures.value ∙ c.self.view_is) c.loop-inst-test.true c.inst-item.is,
  (c.get.result.now, c.get.ensures, c.in-Some.ensures.some),
)

pub loop-inst-preserved : goal.loop-inst-preserved
loop-inst-preserved c =
    none_more c.args.trail.now.stack c.args.instances.now c.deref-inst-items.result.now c.loop-inst.inst-index c.inst-item.result c.get.result.now c.loop-inst-test.true c.inst-item.is
    c.get.ensures c.loop-inst.invariant c.in_default.ensures.none
