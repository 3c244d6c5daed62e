use Rattle.std.proofs.Common.{◌∙◌, sym}
use Rattle.answer_printer.proofs.ReaderSteps.{name_comes}
use Rattle.answer_printer.proofs.reader.Reader.on_name.Goals as goal

pub returns : goal.returns
returns c = λ s h. name_comes c.args.self.now s c.args.name (sym c.takes_name.ensures ∙ c.if-not-takes_name.false) h
