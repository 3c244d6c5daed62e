use Rattle.std.proofs.Common.{◌∙◌, sym, true≢false}
use Rattle.term_pool.specs.Nodes.{value_from, values}
use Rattle.answer_printer.proofs.ReaderSteps.{value_comes}
use Rattle.answer_printer.proofs.reader.Reader.on_value.Goals as goal

pub returns-in-Ok : goal.returns-in-Ok
returns-in-Ok c = λ s h.
    value_comes c.args.self.now c.end_value.new.self s (value_from (values c.args.self.now.terms) c.args.node) (sym c.is_due.ensures ∙ c.if-not-is_due.false)
    (λ e. true≢false (sym (c.is_empty.ensures.1 e) ∙ c.if-is_empty.false)) h (c.in-Ok.ensures s h)
