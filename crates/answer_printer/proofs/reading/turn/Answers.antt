use Rattle.std.proofs.Common.{◌∙◌, sym}
use Rattle.answer_printer.proofs.TurnLemmas.{blank_turns}
use Rattle.answer_printer.proofs.reading.turn.Goals as goal

pub returns-then-is_set_blank : goal.returns-then-is_set_blank
returns-then-is_set_blank c = λ s h. blank_turns c.args.bytes.now s c.args.reader.now c.requires.some (sym c.is_set_blank.ensures ∙ c.if-is_set_blank.true) h
