use Rattle.std.proofs.Common.{◌≡◌, ◌∙◌}
use Rattle.std.specs.Prelude.{Some}
use Rattle.search_values.specs.declared.entry.Entry.{Entry}
use Rattle.search_values.specs.Values.{MustBe, value_of}
use Rattle.closing.specs.Closable.{IsNamed}
use Rattle.closing.proofs.Values.{each_more}
use Rattle.closing.proofs.stuck.stuck_among.Goals as goal
use Rattle.closing.proofs.stuck.stuck_among.Goals.{else-must_be-via-then-must_be+else-is_named, else-must_be-via-else-must_be}

pub loop-entry-preserved : goal.loop-entry-preserved
loop-entry-preserved c = each_more (λ (e : Entry). IsNamed c.args.ground.now e.atom → ¬ (value_of c.args.trail.now.stack e.atom ≡ Some MustBe)) c.args.entries.now c.loop-entry.entry-index
    c.entry-item.result c.loop-entry-test.true c.entry-item.is c.loop-entry.invariant (elim c.else-must_be.branch [
      | else-must_be-via-then-must_be+else-is_named w ↦ (λ named must. w.is_named.ensures.no w.if-is_named.false named)
      | else-must_be-via-else-must_be w ↦ (λ named must. c.must_be.ensures.no w.if-must_be.false (c.value.ensures ∙ must))
    ])
