use Rattle.std.proofs.Common.{◌∙◌, sym}
use Rattle.answer_printer.proofs.TurnLemmas.{nothing_turns, word_turns, fault_turns}
use Rattle.answer_printer.proofs.reading.take_word.Goals as goal

pub returns-in-Nothing : goal.returns-in-Nothing
returns-in-Nothing c = λ s h. nothing_turns c.args.bytes.now s c.requires.some c.requires.no_blank (sym c.in-Ok.ensures ∙ c.in-Nothing.is)

pub returns-in-Ok-take : goal.returns-in-Ok-take
returns-in-Ok-take c = λ s h.
    word_turns c.args.bytes.now s c.take.new.self c.in-Word.word c.in-Word.len c.requires.some c.requires.no_blank (sym c.in-Ok.ensures ∙ c.in-Word.is) (c.in-Ok-take.ensures s h)

pub returns-in-Err-take : goal.returns-in-Err-take
returns-in-Err-take c = λ s h.
    fault_turns c.args.bytes.now s c.take.new.self c.in-Word.word c.in-Word.len c.in-Err-take.fault c.requires.some c.requires.no_blank (sym c.in-Ok.ensures ∙ c.in-Word.is) (c.in-Err-take.ensures s h)
