use Rattle.std.proofs.Common.{◌<◌, sym, subst, arith}
use Rattle.conflict_learning.specs.Analysing.{IsSecondLevel}
use Rattle.conflict_learning.proofs.Highest.{highest_le, second_is}
use Rattle.conflict_learning.proofs.levels.unit_level.Goals as goal

pub returns : goal.returns
returns c =
    let one = c.requires.one in
    let low = highest_le c.args.trail.now.stack c.args.lits.now one.left one.among in
    let above = one.above in
    let top = c.highest_level-top.ensures in
    subst (IsSecondLevel c.args.trail.now.stack c.args.lits.now) (sym c.second_level.ensures)
    (second_is c.args.trail.now.stack c.args.lits.now c.highest_level-top.result top (omega (arith, low, above, top)))
