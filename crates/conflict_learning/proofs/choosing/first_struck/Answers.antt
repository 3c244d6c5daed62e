use Rattle.std.proofs.Common.{◌+◌, map, sym, subst, arith}
use Rattle.std.specs.Prelude.{Option}
use Rattle.nogood_store.specs.Stored.{nogood_of}
use Rattle.conflict_learning.specs.Choosing.{IsBest}
use Rattle.conflict_learning.specs.declared.choosing.Conflict.{Conflict}
use Rattle.conflict_learning.proofs.Shown.{as_many}
use Rattle.conflict_learning.proofs.Firsts.{best_step, none_chosen, one_chosen}
use Rattle.conflict_learning.proofs.choosing.first_struck.Goals as goal

pub loop-next-preserved : goal.loop-next-preserved
loop-next-preserved c = (
  subst (λ (o : Option Conflict). IsBest (map nogood_of c.args.store.now) c.args.trail.now.stack (c.loop-next.next + 1) o)
      (sym c.choose_first-best.ensures)
      (best_step (map nogood_of c.args.store.now) c.args.trail.now.stack c.loop-next.next c.loop-next.best c.conflict_at.result
      c.loop-next.invariant.0 c.conflict_at.ensures),
  (let low = c.loop-next-test.true in let len = c.len.ensures in omega (arith, low, len)),
)

pub returns-in-Some : goal.returns-in-Some
returns-in-Some c =
    let many = as_many c.args.store.now in
    record {
      choice = one_chosen (map nogood_of c.args.store.now) c.args.trail.now.stack c.loop-next.next
          (let within = c.loop-next.invariant.1 in omega (arith, within, many))
          (let over = c.loop-next-test.false in let len = c.len.ensures in omega (arith, over, len, many)) c.in-Some.best
          (subst (λ (o : Option Conflict). IsBest (map nogood_of c.args.store.now) c.args.trail.now.stack c.loop-next.next o) c.in-Some.is
          c.loop-next.invariant.0);
    }

pub returns : goal.returns
returns c =
    let many = as_many c.args.store.now in
    record {
      choice = none_chosen (map nogood_of c.args.store.now) c.args.trail.now.stack c.loop-next.next
          (let over = c.loop-next-test.false in let len = c.len.ensures in omega (arith, over, len, many))
          (subst (λ (o : Option Conflict). IsBest (map nogood_of c.args.store.now) c.args.trail.now.stack c.loop-next.next o) c.in-None.is
          c.loop-next.invariant.0);
    }
