use Rattle.std.proofs.Common.{◌-◌, reverse, take, ap, sym, subst, ◌∙◌, arith}
use Rattle.search_values.specs.Values.{back_to}
use Rattle.search_fronts.specs.Fronts.{AreFronts}
use Rattle.search_fronts.proofs.Walking.{entry_in, newest, count, stack_at, stays, goes}
use Rattle.search_fronts.proofs.fronts.Fronts.take_back.Goals as goal

pub returns-then-entry-level : goal.returns-then-entry-level
returns-then-entry-level c = λ made bodies old.
    let low = c.loop-left.invariant.within in
    let some = c.loop-left-test.true in
    let j = c.loop-left.left - 1 in
    let first = newest c.entries-entries.result.now c.loop-left.left c.index-entries-left.result some low c.index-entries-left.is in
    let at = stack_at c.args.trail.now.atoms c.args.trail.now.stack c.entries-entries.result.now c.entries-entries.ensures.value
    c.entries-entries.ensures.is_stack j c.index-entries-left.result (omega (arith, low, some)) c.index-entries-left.is in
    subst (λ s. AreFronts c.args.atoms.now.atoms made s c.loop-left.self)
    (first ∙ sym (stays c.args.trail.now.atoms c.args.level c.index-entries-left.result
    (reverse (take j c.entries-entries.result.now)) at.0 c.if-entry-level.true)
    ∙ ap (back_to c.args.level) (sym first) ∙ c.loop-left.invariant.same)
    (c.loop-left.invariant.are made bodies old)

pub fall-requires : goal.fall-requires
fall-requires c =
    let low = c.loop-left.invariant.within in
    let some = c.loop-left-test.true in
    record {
      placed = c.requires c.index-entries-left.result
          (entry_in c.args.trail.now.stack c.entries-entries.result.now c.entries-entries.ensures.value (c.loop-left.left - 1)
          c.index-entries-left.result (omega (arith, low, some)) c.index-entries-left.is);
    }

pub loop-left-preserved : goal.loop-left-preserved
loop-left-preserved c =
    let low = c.loop-left.invariant.within in
    let some = c.loop-left-test.true in
    let j = c.loop-left.left - 1 in
    let rest = reverse (take j c.entries-entries.result.now) in
    let first = newest c.entries-entries.result.now c.loop-left.left c.index-entries-left.result some low c.index-entries-left.is in
    let at = stack_at c.args.trail.now.atoms c.args.trail.now.stack c.entries-entries.result.now c.entries-entries.ensures.value
    c.entries-entries.ensures.is_stack j c.index-entries-left.result (omega (arith, low, some)) c.index-entries-left.is in
    record {
      within = omega (arith, low, some);
      same = sym (goes c.args.trail.now.atoms c.args.level c.index-entries-left.result rest at.0 (λ stays. let high = c.if-entry-level.false in omega (arith, high, stays)))
          ∙ ap (back_to c.args.level) (sym first) ∙ c.loop-left.invariant.same;
      are = λ made bodies old. c.fall.ensures made c.args.trail.now.atoms rest bodies
          (count c.entries-entries.result.now j (omega (arith, low, some))) at
          (subst (λ s. AreFronts c.args.atoms.now.atoms made s c.loop-left.self) first (c.loop-left.invariant.are made bodies old));
    }
