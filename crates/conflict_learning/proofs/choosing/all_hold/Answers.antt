use Rattle.std.proofs.Common.{sym, ◌∙◌}
use Rattle.lists.proofs.Places.{∈-get_or}
use Rattle.search_values.specs.Values.{Holds}
use Rattle.nogood_store.proofs.Look.{holds_true, holds_false}
use Rattle.nogood_store.proofs.Finds.{each_more}
use Rattle.conflict_learning.proofs.choosing.all_hold.Goals as goal

pub value-requires : goal.value-requires
value-requires c = c.requires.below c.l-item.result
    (∈-get_or c.args.lits.now c.loop-l.l-index c.l-item.result c.loop-l-test.true c.l-item.is)

pub returns-then-not-holds-clause-no : goal.returns-then-not-holds-clause-no
returns-then-not-holds-clause-no c trivial all =
    holds_false c.args.trail.now.stack c.l-item.result c.value.result (sym c.value.ensures) (sym c.holds.ensures ∙ c.if-not-holds.true)
    (all c.l-item.result (∈-get_or c.args.lits.now c.loop-l.l-index c.l-item.result c.loop-l-test.true c.l-item.is))

pub loop-l-preserved : goal.loop-l-preserved
loop-l-preserved c =
    each_more (Holds c.args.trail.now.stack) c.args.lits.now c.loop-l.l-index c.l-item.result c.loop-l-test.true c.l-item.is
    c.loop-l.invariant
    (holds_true c.args.trail.now.stack c.l-item.result c.value.result (sym c.value.ensures) (sym c.holds.ensures ∙ c.if-not-holds.false))
