use Rattle.conflict_learning.proofs.Firsts.{not_unit_at_0}
use Rattle.conflict_learning.proofs.choosing.is_unit.Goals as goal

pub returns-then-top-eq0-clause-no : goal.returns-then-top-eq0-clause-no
returns-then-top-eq0-clause-no c trivial =
    not_unit_at_0 c.args.trail.now.stack c.args.lits.now c.highest_level-top.result c.highest_level-top.ensures c.if-top-eq0.true
