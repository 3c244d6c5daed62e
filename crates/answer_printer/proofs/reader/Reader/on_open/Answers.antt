use Rattle.std.proofs.Common.{◌∙◌, sym, ap, [], ◌∷◌, ◌++◌}
use Rattle.answer_printer.proofs.ReaderSteps.{open_comes}
use Rattle.answer_printer.proofs.reader.Reader.on_open.Goals as goal

pub returns-in-Ok : goal.returns-in-Ok
returns-in-Ok c = λ s h.
    open_comes c.args.self.now s c.in-Named.name c.push.new.self c.replace.new.dest (sym c.replace.ensures.value ∙ c.in-Named.is) c.replace.ensures.after
    (c.in-Ok.ensures.ok ∙ ap (λ xs. c.args.self.now.calls ++ record { name = c.in-Named.name; args = xs } ∷ []) c.new.ensures) h
