use Rattle.std.proofs.Common.{map, refl}
use Rattle.nogood_store.specs.Stored.{nogood_of}
use Rattle.conflict_learning.proofs.Shown.{shown_nogood}
use Rattle.conflict_learning.proofs.Turns.{at_root, unit_and_second, has_to}
use Rattle.conflict_learning.proofs.analysis.analyse.Goals as goal

pub returns-then-top-eq0 : goal.returns-then-top-eq0
returns-then-top-eq0 c = record {
  analysis =
      at_root (map nogood_of c.args.store.now) c.args.trail.now.stack c.args.struck c.lits-lits.result.now
      (shown_nogood c.args.store.now c.args.struck c.lits-lits.result.now c.lits-lits.ensures.value) c.highest_level-top.result
      c.highest_level-top.ensures c.if-top-eq0.true;
}

pub returns-then-is_unit_below : goal.returns-then-is_unit_below
returns-then-is_unit_below c =
    let h = unit_and_second (map nogood_of c.args.store.now) c.args.trail.now.stack c.args.struck c.lits-lits.result.now
    (shown_nogood c.args.store.now c.args.struck c.lits-lits.result.now c.lits-lits.ensures.value) c.highest_level-top.result
    c.highest_level-top.ensures c.if-top-eq0.false
    (c.is_unit_below.ensures.yes c.if-is_unit_below.true) c.second_level.result c.second_level.ensures in
    record { analysis = (refl, h.0, h.1) }

pub resolve-requires-clause-to_do : goal.resolve-requires-clause-to_do
resolve-requires-clause-to_do c =
    has_to (map nogood_of c.args.store.now) c.args.trail.now.stack c.args.struck c.lits-lits.result.now
    (shown_nogood c.args.store.now c.args.struck c.lits-lits.result.now c.lits-lits.ensures.value) c.highest_level-top.result
    c.highest_level-top.ensures c.if-top-eq0.false
    (c.is_unit_below.ensures.no c.if-is_unit_below.false)
