use Rattle.std.proofs.Common.{◌≡◌, ◌-◌, ◌<◌, length, refl, sym, ◌∙◌, ap, arith}
use Rattle.std.specs.Prelude.{true}
use Rattle.search_values.specs.declared.entry.Entry.{Entry}
use Rattle.search_values.specs.declared.entry.Why.TheVariants.{Closed}
use Rattle.std.specs.Prelude.{Some}
use Rattle.trail.specs.Assigning.{is_unexplained_entry}
use Rattle.trail.proofs.Explaining.{explain_here, read_same}
use Rattle.trail.proofs.stack.unexplained_place.Goals as goal

pub returns-then-is_unexplained-clause-some : goal.returns-then-is_unexplained-clause-some
returns-then-is_unexplained-clause-some c =
    let within = c.loop-left.invariant.0 in
    let some = c.loop-left-test.true in
    let low : c.loop-left.left - 1 < length c.args.entries.now.items = omega (arith, within, some) in (
      low,
      λ e here n. (
          let same = read_same c.args.entries.now.items (c.loop-left.left - 1) e c.index.result.now low here c.index.ensures in
          let on : is_unexplained_entry e c.args.a ≡ true = ap (λ (x : Entry). is_unexplained_entry x c.args.a) same ∙ sym c.is_unexplained.ensures ∙ c.if-is_unexplained.true in
          explain_here c.args.a n c.args.entries.now.items c.loop-left.left within some e here (c.loop-left.invariant.1 n) on (record e { why = Closed (Some n) }) refl),
    )
