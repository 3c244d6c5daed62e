use Rattle.lists.proofs.Places.{∈-get_or}
use Rattle.conflict_learning.proofs.Calls.{valued_place}
use Rattle.conflict_learning.proofs.choosing.came_last.Goals as goal

pub count_with-requires-clause-placed : goal.count_with-requires-clause-placed
count_with-requires-clause-placed c =
    let h = c.requires.hold c.l-item.result (∈-get_or c.args.lits.now c.loop-l.l-index c.l-item.result c.loop-l-test.true c.l-item.is) in
    valued_place c.args.trail.now.atoms c.args.trail.now.stack c.entries.ensures.is_stack c.l-item.result.atom h.0 h.1
