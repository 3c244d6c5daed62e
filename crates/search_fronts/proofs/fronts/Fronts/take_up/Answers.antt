use Rattle.std.proofs.Common.{reverse, take, sym, subst, arith}
use Rattle.search_fronts.specs.Fronts.{AreFronts}
use Rattle.search_fronts.proofs.Walking.{entry_at, count, stack_at}
use Rattle.search_fronts.proofs.fronts.Fronts.take_up.Goals as goal

pub loop-i-preserved : goal.loop-i-preserved
loop-i-preserved c = λ atoms made above rest cut counts old.
    let low = c.loop-i-test.true in
    let at = stack_at c.args.trail.now.atoms c.args.trail.now.stack c.entries-entries.result.now c.entries-entries.ensures.value
    c.entries-entries.ensures.is_stack c.loop-i.i c.index-entries-i.result low c.index-entries-i.is in
    let many = count c.entries-entries.result.now c.loop-i.i (omega (arith, low)) in
    subst (λ s. AreFronts atoms made s c.add.new.self)
    (sym (entry_at c.entries-entries.result.now c.loop-i.i c.index-entries-i.result low c.index-entries-i.is).first)
    (c.add.ensures atoms made c.args.trail.now.atoms (reverse (take c.loop-i.i c.entries-entries.result.now))
    (omega (arith, many)) at (c.loop-i.invariant atoms made above rest cut counts old))
