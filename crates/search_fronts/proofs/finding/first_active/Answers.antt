use Rattle.std.proofs.Common.{arith}
use Rattle.std.proofs.lemmas.Option.{slice_get_within}
use Rattle.search_fronts.proofs.Naming.{body_below, pos_below, neg_below, none_more}
use Rattle.search_fronts.proofs.finding.first_active.Goals as goal

pub active_body-requires-clause-body : goal.active_body-requires-clause-body
active_body-requires-clause-body c = body_below c.args.trail.now.atoms c.args.instances.now c.loop-i.i c.get.result.now c.requires c.get.ensures

pub active_body-requires-clause-pos : goal.active_body-requires-clause-pos
active_body-requires-clause-pos c = pos_below c.args.trail.now.atoms c.args.instances.now c.loop-i.i c.get.result.now c.requires c.get.ensures

pub active_body-requires-clause-neg : goal.active_body-requires-clause-neg
active_body-requires-clause-neg c = neg_below c.args.trail.now.atoms c.args.instances.now c.loop-i.i c.get.result.now c.requires c.get.ensures

pub loop-i-preserved : goal.loop-i-preserved
loop-i-preserved c = none_more c.args.trail.now.stack c.args.instances.now c.args.from c.loop-i.i c.get.result.now c.get.ensures c.loop-i.invariant
    c.in_default.ensures.none

pub returns-clause-none : goal.returns-clause-none
returns-clause-none c = λ j from k at b.
    let low = slice_get_within c.args.instances.now j k at in
    let all = c.len-i-end.ensures.len in
    let past = c.loop-i-test.false in
    c.loop-i.invariant j from (omega (arith, low, all, past)) k at b
