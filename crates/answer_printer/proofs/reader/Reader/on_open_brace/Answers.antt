use Rattle.std.proofs.Common.{◌∙◌, sym}
use Rattle.answer_printer.proofs.ReaderSteps.{open_brace_comes}
use Rattle.answer_printer.proofs.reader.Reader.on_open_brace.Goals as goal

pub returns : goal.returns
returns c = λ s h. open_brace_comes c.args.self.now s (sym c.is_start.ensures ∙ c.if-not-is_start.false) h
