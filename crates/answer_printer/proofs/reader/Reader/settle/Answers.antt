use Rattle.std.proofs.Common.{◌∙◌, sym, subst, map}
use Rattle.term_pool.specs.Nodes.{value_at}
use Rattle.answer_printer.specs.Machine.{at_phase, ended}
use Rattle.answer_printer.specs.Readers.{StandsIn}
use Rattle.answer_printer.proofs.WriteLemmas.{on_ok}
use Rattle.answer_printer.proofs.ReaderLemmas.{phase_set}
use Rattle.answer_printer.proofs.ReaderSteps.{settled_name}
use Rattle.answer_printer.proofs.reader.Reader.settle.Goals as goal

pub returns-in-Named : goal.returns-in-Named
returns-in-Named c = λ s h.
    on_ok c.end_call.result
    (λ k. settled_name c.args.self.now c.end_call.new.self s c.in-Named.name c.replace.new.dest (sym c.replace.ensures.value ∙ c.in-Named.is) h
    (subst (λ xs. StandsIn c.end_call.new.self (ended c.in-Named.name (map (value_at c.args.self.now.terms) xs) s.calls (at_phase s c.replace.new.dest))) c.new.ensures k))
    (c.end_call.ensures (at_phase s c.replace.new.dest) (phase_set c.args.self.now s c.replace.new.dest h))
