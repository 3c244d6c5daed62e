use Rattle.std.proofs.Common.{◌<◌, arith, sym, ◌∙◌, ap, subst}
use Rattle.search_values.specs.declared.entry.Entry.{Entry}
use Rattle.conflict_learning.proofs.Calls.{entry_placed, table_ends}
use Rattle.conflict_learning.proofs.places.first_places.Goals as goal

pub index-requires : goal.index-requires
index-requires c =
    let a = entry_placed c.args.trail.now.atoms c.args.trail.now.stack c.entries-entries.result.now c.entries-entries.ensures.value
    c.entries-entries.ensures.is_stack c.loop-next.next c.index-entries-next.result
    c.loop-next-test.true c.index-entries-next.is in
    let b = c.loop-next.invariant.0 in
    let d = c.loop-next.places.ok.0 in
    let low : c.place-place.result < c.args.trail.now.atoms = subst (λ n. n < c.args.trail.now.atoms)
    (sym (c.place-place.ensures ∙ ap (λ (x : Entry). x.atom) (sym c.index-entries-next.is))) a in
    omega (arith, low, b, d)

pub index_mut-requires : goal.index_mut-requires
index_mut-requires c =
    let a = entry_placed c.args.trail.now.atoms c.args.trail.now.stack c.entries-entries.result.now c.entries-entries.ensures.value
    c.entries-entries.ensures.is_stack c.loop-next.next c.index-entries-next.result
    c.loop-next-test.true c.index-entries-next.is in
    let b = c.loop-next.invariant.0 in
    let d = c.loop-next.places.ok.0 in
    let low : c.place-place.result < c.args.trail.now.atoms = subst (λ n. n < c.args.trail.now.atoms)
    (sym (c.place-place.ensures ∙ ap (λ (x : Entry). x.atom) (sym c.index-entries-next.is))) a in
    omega (arith, low, b, d)

pub returns : goal.returns
returns c =
    table_ends c.args.trail.now.atoms c.args.trail.now.stack c.entries-entries.result.now c.entries-entries.ensures.value
    c.entries-entries.ensures.is_stack c.loop-next.places.items c.loop-next.next
    c.loop-next.invariant.0 (let h = c.loop-next-test.false in omega (arith, h)) c.loop-next.invariant.2
