use Rattle.lists.proofs.Places.{∈-get_or}
use Rattle.conflict_learning.proofs.levels.second_level.Goals as goal

pub level-here-requires : goal.level-here-requires
level-here-requires c =
    let h = c.requires.hold c.l-item.result (∈-get_or c.args.lits.now c.loop-l.l-index c.l-item.result c.loop-l-test.true c.l-item.is) in
    record { holds = (h.0, h.1) }
