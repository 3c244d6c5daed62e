use Rattle.std.proofs.Common.{◌∙◌, sym, []}
use Rattle.answer_printer.specs.Machine.{settled}
use Rattle.answer_printer.specs.Readers.{calls_onto}
use Rattle.answer_printer.proofs.ReaderSteps.{close_comes, without_last, last_below}
use Rattle.answer_printer.proofs.reader.Reader.on_close.Goals as goal

pub end_call-requires : goal.end_call-requires
end_call-requires c = last_below c.settle.new.self (settled c.requires.0) c.in-Some.call c.pop.new.self c.in-Some.ensures (c.in-Ok.ensures c.requires.0 c.requires.1)

pub returns-in-Ok-end_call : goal.returns-in-Ok-end_call
returns-in-Ok-end_call c = λ s h.
    close_comes c.settle.new.self c.end_call.new.self (settled s) c.in-Some.call c.pop.new.self (sym c.is_whole.ensures ∙ c.if-not-is_whole.false) c.in-Some.ensures (c.in-Ok.ensures s h)
    (c.in-Ok-end_call.ensures (record { atoms = (settled s).atoms; negated = (settled s).negated; calls = calls_onto c.settle.new.self.terms c.pop.new.self []; phase = (settled s).phase })
    (without_last c.settle.new.self (settled s) c.in-Some.call c.pop.new.self c.in-Some.ensures (c.in-Ok.ensures s h)))
