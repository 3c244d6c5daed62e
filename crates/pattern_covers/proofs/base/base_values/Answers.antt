use Rattle.std.proofs.Common.{arith}
use Rattle.pattern_covers.proofs.BaseLemmas.{entry_at, entry_below, closed_by, open_by, next_read, at_closed, all_read}
use Rattle.pattern_covers.proofs.base.base_values.Goals as goal

pub returns-in-Closed : goal.returns-in-Closed
returns-in-Closed c =
    let t = c.args.trail.now in
    let e = c.entry-item.result in
    let at = entry_at c.entries-entry-items.result.now t.stack c.loop-entry.entry-index e c.entries-entry-items.ensures.value c.loop-entry-test.true c.entry-item.is in
    at_closed t.atoms t.stack c.loop-entry.entry-index c.loop-entry.values.items e c.loop-entry.invariant at (closed_by e.why c.in-Closed.field-0 c.in-Closed.is)

pub index_mut-requires : goal.index_mut-requires
index_mut-requires c =
    let t = c.args.trail.now in
    let e = c.entry-item.result in
    let at = entry_at c.entries-entry-items.result.now t.stack c.loop-entry.entry-index e c.entries-entry-items.ensures.value c.loop-entry-test.true c.entry-item.is in
    let low = entry_below t.atoms t.stack c.loop-entry.entry-index c.loop-entry.values.items e c.place.result c.loop-entry.invariant at c.entries-entry-items.ensures.is_stack c.place.ensures in
    let many = c.loop-entry.values.ok.0 in
    omega (arith, low, many)

pub loop-entry-preserved : goal.loop-entry-preserved
loop-entry-preserved c =
    let t = c.args.trail.now in
    let e = c.entry-item.result in
    let at = entry_at c.entries-entry-items.result.now t.stack c.loop-entry.entry-index e c.entries-entry-items.ensures.value c.loop-entry-test.true c.entry-item.is in
    next_read t.atoms t.stack c.loop-entry.entry-index c.loop-entry.values.items e c.place.result c.loop-entry.invariant at (open_by e.why c.in_default.not-Closed) c.place.ensures

pub returns : goal.returns
returns c =
    let t = c.args.trail.now in
    all_read t.atoms t.stack c.loop-entry.entry-index c.loop-entry.values.items c.entries-entry-items.result.now c.loop-entry.invariant c.entries-entry-items.ensures.value c.loop-entry-test.false
