use Rattle.std.proofs.Common.{◌∙◌, sym}
use Rattle.answer_printer.specs.Machine.{settled}
use Rattle.answer_printer.proofs.ReaderSteps.{comma_comes}
use Rattle.answer_printer.proofs.reader.Reader.on_comma.Goals as goal

pub returns : goal.returns
returns c = λ s h. comma_comes c.settle.new.self (settled s) (sym c.is_whole.ensures ∙ c.if-not-is_whole.false) (c.in-Ok.ensures s h)
