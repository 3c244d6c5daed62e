use Rattle.std.proofs.Common.{◌-◌, arith, length, map, reverse, take, sym, ◌∙◌, ap, refl}
use Rattle.nogood_store.specs.Stored.{nogood_of}
use Rattle.conflict_learning.specs.Pending.{open_at, pending}
use Rattle.conflict_learning.proofs.Ends.{none_counted}
use Rattle.conflict_learning.proofs.Turns.{entry_here, begin_may, begin_way, turn_skip, turn_keep, reason_there, reason_may, turn_resolve, turn_missing, end_way}
use Rattle.conflict_learning.proofs.Shown.{shown_nogood, there_to, there_from}
use Rattle.conflict_learning.proofs.analysis.resolve.Goals as goal

pub mark_all-requires-clause-may : goal.mark_all-requires-clause-may
mark_all-requires-clause-may c =
    begin_may (map nogood_of c.args.store.now) c.args.trail.now.stack c.entries-entries.result.now c.entries-entries.ensures.value
    c.args.trail.now.atoms c.entries-entries.ensures.is_stack c.args.struck c.args.top
    c.requires.rests c.requires.top_is c.requires.to_do c.requires.holds
    (length c.entries-entries.result.now) refl c.in_ok-pending.pending.marks.items c.lits.result.now
    (shown_nogood c.args.store.now c.args.struck c.lits.result.now c.lits.ensures.value)

pub mark_all-requires-clause-count : goal.mark_all-requires-clause-count
mark_all-requires-clause-count c =
    c.in_ok-pending.ensures.count ∙ none_counted c.args.top (length c.entries-entries.result.now)
    (reverse (take (length c.entries-entries.result.now) (reverse c.args.trail.now.stack)))
    ∙ ap (λ ms. open_at c.args.top (pending ms (reverse (take (length c.entries-entries.result.now) (reverse c.args.trail.now.stack)))))
    (sym c.in_ok-pending.ensures.marks)

pub loop-left-init : goal.loop-left-init
loop-left-init c =
    begin_way (map nogood_of c.args.store.now) c.args.trail.now.stack c.entries-entries.result.now c.entries-entries.ensures.value
    c.args.trail.now.atoms c.entries-entries.ensures.is_stack c.args.struck c.args.top
    c.requires.rests c.requires.top_is c.requires.to_do c.requires.holds c.requires.open_highest
    (length c.entries-entries.result.now) refl c.in_ok-pending.pending.marks.items c.mark_all.new.self.marks.items
    c.in_ok-pending.ensures.marks c.lits.result.now (shown_nogood c.args.store.now c.args.struck c.lits.result.now c.lits.ensures.value)
    c.mark_all.ensures.marked c.mark_all.new.self.count c.mark_all.ensures.count c.new-lits.result c.new-lits.ensures

pub loop-left-preserved : goal.loop-left-preserved
loop-left-preserved c =
    turn_skip (map nogood_of c.args.store.now) c.args.trail.now.stack c.entries-entries.result.now c.entries-entries.ensures.value
    c.args.trail.now.atoms c.entries-entries.ensures.is_stack c.args.struck c.args.top
    c.requires.rests c.requires.top_is c.requires.to_do c.requires.holds c.loop-left.pending.marks.items c.loop-left.pending.count
    c.loop-left.lits c.loop-left.back_to c.loop-left.left c.loop-left.invariant.0
    c.loop-left.invariant.1 c.loop-left-test.true (entry_here c.entries-entries.result.now (c.loop-left.left - 1)
    (let r = c.loop-left.invariant.1 in let s = c.loop-left-test.true in omega (arith, r, s))).0
    (entry_here c.entries-entries.result.now (c.loop-left.left - 1)
    (let r = c.loop-left.invariant.1 in let s = c.loop-left-test.true in omega (arith, r, s))).1
    c.index.result.now c.index.ensures c.if-index.false

pub loop-left-preserved-in-Keep : goal.loop-left-preserved-in-Keep
loop-left-preserved-in-Keep c =
    turn_keep (map nogood_of c.args.store.now) c.args.trail.now.stack c.entries-entries.result.now c.entries-entries.ensures.value
    c.args.trail.now.atoms c.entries-entries.ensures.is_stack c.args.struck c.args.top
    c.requires.rests c.requires.top_is c.requires.to_do c.requires.holds c.loop-left.pending.marks.items c.loop-left.pending.count
    c.loop-left.lits c.loop-left.back_to c.loop-left.left c.loop-left.invariant.0
    c.loop-left.invariant.1 c.loop-left-test.true c.index-entries-left.result c.index-entries-left.is c.index.result.now c.index.ensures
    c.if-index.true
    c.treat.result c.treat.ensures c.in-Keep.is c.pass.new.self.marks.items c.pass.ensures.marks c.pass.new.self.count c.pass.ensures.count
    c.literal.result c.literal.ensures c.push.new.self c.in_ok-push-in-Keep.ensures.ok
    c.back_with-back_to.result c.back_with-back_to.ensures

pub lits-requires-in-Resolve : goal.lits-requires-in-Resolve
lits-requires-in-Resolve c =
    there_from c.args.store.now c.in-Resolve.by (reason_there
    (map nogood_of c.args.store.now) c.args.trail.now.stack c.entries-entries.result.now c.entries-entries.ensures.value
    c.args.trail.now.atoms c.entries-entries.ensures.is_stack c.args.struck c.args.top
    c.requires.rests c.requires.top_is c.requires.to_do c.requires.holds c.loop-left.pending.marks.items c.loop-left.pending.count
    c.loop-left.lits c.loop-left.back_to c.loop-left.left c.loop-left.invariant.0
    c.loop-left.invariant.1 c.loop-left-test.true c.index-entries-left.result c.index-entries-left.is c.index.result.now c.index.ensures
    c.if-index.true
    c.in-Resolve.by c.treat.result c.treat.ensures c.in-Resolve.is)

pub mark_all-requires-in-Resolve-clause-may : goal.mark_all-requires-in-Resolve-clause-may
mark_all-requires-in-Resolve-clause-may c =
    reason_may (map nogood_of c.args.store.now) c.args.trail.now.stack c.entries-entries.result.now c.entries-entries.ensures.value
    c.args.trail.now.atoms c.entries-entries.ensures.is_stack c.args.struck c.args.top
    c.requires.rests c.requires.top_is c.requires.to_do c.requires.holds c.loop-left.pending.marks.items c.loop-left.pending.count
    c.loop-left.lits c.loop-left.back_to c.loop-left.left c.loop-left.invariant.0
    c.loop-left.invariant.1 c.loop-left-test.true c.index-entries-left.result c.index-entries-left.is c.index.result.now c.index.ensures
    c.if-index.true
    c.in-Resolve.by c.treat.result c.treat.ensures c.in-Resolve.is c.lits-in-Resolve.result.now
    (shown_nogood c.args.store.now c.in-Resolve.by c.lits-in-Resolve.result.now c.lits-in-Resolve.ensures.value) c.pass.new.self.marks.items
    c.pass.ensures.marks

pub loop-left-preserved-in-Resolve : goal.loop-left-preserved-in-Resolve
loop-left-preserved-in-Resolve c =
    turn_resolve (map nogood_of c.args.store.now) c.args.trail.now.stack c.entries-entries.result.now c.entries-entries.ensures.value
    c.args.trail.now.atoms c.entries-entries.ensures.is_stack c.args.struck c.args.top
    c.requires.rests c.requires.top_is c.requires.to_do c.requires.holds c.loop-left.pending.marks.items c.loop-left.pending.count
    c.loop-left.lits c.loop-left.back_to c.loop-left.left c.loop-left.invariant.0
    c.loop-left.invariant.1 c.loop-left-test.true c.index-entries-left.result c.index-entries-left.is c.index.result.now c.index.ensures
    c.if-index.true
    c.in-Resolve.by c.treat.result c.treat.ensures c.in-Resolve.is c.lits-in-Resolve.result.now
    (shown_nogood c.args.store.now c.in-Resolve.by c.lits-in-Resolve.result.now c.lits-in-Resolve.ensures.value)
    c.pass.new.self.marks.items c.mark_all-in-Resolve.new.self.marks.items c.pass.ensures.marks c.mark_all-in-Resolve.ensures.marked
    c.mark_all-in-Resolve.new.self.count c.mark_all-in-Resolve.ensures.count

pub returns-in-Missing : goal.returns-in-Missing
returns-in-Missing c =
    turn_missing (map nogood_of c.args.store.now) c.args.trail.now.stack c.entries-entries.result.now c.entries-entries.ensures.value
    c.args.trail.now.atoms c.entries-entries.ensures.is_stack c.args.struck c.args.top
    c.requires.rests c.requires.top_is c.requires.to_do c.requires.holds c.loop-left.pending.marks.items c.loop-left.pending.count
    c.loop-left.lits c.loop-left.back_to c.loop-left.left c.loop-left.invariant.0
    c.loop-left.invariant.1 c.loop-left-test.true c.index-entries-left.result c.index-entries-left.is c.index.result.now c.index.ensures
    c.if-index.true
    c.treat.result c.treat.ensures c.in-Missing.is

pub returns : goal.returns
returns c =
    end_way (map nogood_of c.args.store.now) c.args.trail.now.stack c.entries-entries.result.now c.entries-entries.ensures.value
    c.args.trail.now.atoms c.entries-entries.ensures.is_stack c.args.struck c.args.top
    c.requires.rests c.requires.top_is c.requires.to_do c.requires.holds
    (there_to c.args.store.now c.args.struck c.requires.there) c.requires.first c.requires.preferred c.loop-left.pending.marks.items
    c.loop-left.pending.count
    c.loop-left.lits c.loop-left.back_to c.loop-left.left c.loop-left.invariant.0 (let h = c.loop-left-test.false in omega (arith, h))
