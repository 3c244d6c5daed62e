use Rattle.std.proofs.Common.{◌≡◌, ◌<◌, ◌∙◌, arith}
use Rattle.lists.specs.Lists.{◌∈◌}
use Rattle.lists.proofs.Places.{∈-get_or}
use Rattle.unification.proofs.Openings.{opening_next, opening_all}
use Rattle.unification.proofs.unifying.opened_all.Goals as goal

pub opened-requires-clause-below : goal.opened-requires-clause-below
opened-requires-clause-below c = λ v inside.
    let among : c.arg-item.result ∈ c.args.args.now = ∈-get_or c.args.args.now c.loop-arg.arg-index c.arg-item.result c.loop-arg-test.true c.arg-item.is in
    let low : v < c.args.next.now = c.requires.below c.arg-item.result among v inside in
    let later = c.loop-arg.invariant.later in
    omega (arith, low, later)

pub loop-arg-preserved : goal.loop-arg-preserved
loop-arg-preserved c =
    opening_next c.args.pool.now c.loop-arg.pool c.opened.new.pool c.args.next.now c.loop-arg.next c.opened.new.next c.args.args.now c.loop-arg.terms c.push.new.self c.loop-arg.arg-index c.arg-item.result c.in_ok-opened.field-0
    c.loop-arg.invariant c.requires.below c.loop-arg-test.true c.arg-item.is
    c.in_ok-opened.ensures.grows c.in_ok-opened.ensures.kept c.in_ok-opened.ensures.pool c.in_ok-opened.ensures.later c.in_ok-opened.ensures.opened c.in_ok-push.ensures.ok

pub returns-clause-opened : goal.returns-clause-opened
returns-clause-opened c =
    opening_all c.args.pool.now c.loop-arg.pool c.args.next.now c.loop-arg.next c.args.args.now c.loop-arg.terms c.loop-arg.arg-index c.loop-arg.invariant c.loop-arg-test.false
