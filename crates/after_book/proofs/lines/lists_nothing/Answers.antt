use Rattle.std.proofs.Common.{sym, ◌∙◌}
use Rattle.after_book.proofs.NothingLemmas.{through, told}
use Rattle.after_book.proofs.lines.lists_nothing.Goals as goal

pub loop-byte-preserved : goal.loop-byte-preserved
loop-byte-preserved c =
    through c.args.line.now c.loop-byte.byte-index c.loop-byte-test.true (sym c.is_blank.ensures ∙ c.if-not-is_blank.false) c.loop-byte.invariant

pub returns-then-not-is_blank : goal.returns-then-not-is_blank
returns-then-not-is_blank c =
    told c.args.line.now c.loop-byte.byte-index c.loop-byte-test.true (sym c.is_blank.ensures ∙ c.if-not-is_blank.true) c.loop-byte.invariant
