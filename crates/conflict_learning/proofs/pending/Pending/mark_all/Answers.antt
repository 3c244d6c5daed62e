use Rattle.std.proofs.Common.{arith}
use Rattle.lists.proofs.Places.{∈-get_or}
use Rattle.conflict_learning.proofs.Calls.{may_placed, marked_next, open_bound}
use Rattle.conflict_learning.proofs.pending.Pending.mark_all.Goals as goal

pub place_of-place-requires-clause-placed : goal.place_of-place-requires-clause-placed
place_of-place-requires-clause-placed c =
    may_placed c.args.trail.now.atoms c.args.trail.now.stack c.entries-entries.ensures.is_stack c.args.left c.args.self.now.marks.items
    c.args.top c.args.lits.now c.requires.may c.l-item.result
    (∈-get_or c.args.lits.now c.loop-l.l-index c.l-item.result c.loop-l-test.true c.l-item.is)

pub mark-requires-clause-few : goal.mark-requires-clause-few
mark-requires-clause-few c =
    let a = open_bound c.args.top c.args.left c.args.trail.now.stack c.entries-entries.result.now c.loop-l.self.marks.items
    c.loop-l.self.count c.entries-entries.ensures.value c.loop-l.invariant.1 in
    let b = c.entries-entries.type_inv.1 in
    omega (arith, a, b)

pub loop-l-preserved : goal.loop-l-preserved
loop-l-preserved c =
    marked_next c.args.trail.now.atoms c.args.trail.now.stack c.entries-entries.result.now c.entries-entries.ensures.value
    c.entries-entries.ensures.is_stack c.args.left c.args.top
    c.args.self.now.marks.items c.loop-l.self.marks.items c.mark.new.self.marks.items c.args.lits.now c.loop-l.l-index c.l-item.result
    c.requires.marks c.requires.may
    c.loop-l.invariant.0 c.loop-l-test.true c.l-item.is c.place_of-place.result c.place_of-place.ensures.value c.place_of-place.ensures.low
    c.index-entries-place.result c.index-entries-place.is
    c.loop-l.self.count c.mark.new.self.count c.loop-l.invariant.1 c.mark.ensures.marks c.mark.ensures.count
