use Rattle.conflict_learning.proofs.Highest.{valued_placed}
use Rattle.conflict_learning.proofs.levels.level.Goals as goal

pub level_of-requires : goal.level_of-requires
level_of-requires c = valued_placed c.args.trail.now.atoms c.args.trail.now.stack c.entries.ensures.is_stack c.args.atom c.requires.holds.0
    c.requires.holds.1
