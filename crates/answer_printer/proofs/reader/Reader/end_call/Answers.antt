use Rattle.std.proofs.Common.{◌∙◌, sym, ap, subst, length, map, true≢false}
use Rattle.std.specs.Prelude.{OnOk}
use Rattle.term_pool.specs.Nodes.{value_at, values}
use Rattle.answer_printer.specs.Machine.{with_value}
use Rattle.answer_printer.specs.Readers.{StandsIn}
use Rattle.answer_printer.proofs.ReaderSteps.{within_ends}
use Rattle.answer_printer.proofs.reader.Reader.end_call.Goals as goal

pub end_value-requires-clause-parts : goal.end_value-requires-clause-parts
end_value-requires-clause-parts c = c.node_of.ensures.parts (length c.args.self.now.terms) c.requires

pub returns : goal.returns
returns c = λ s h.
    subst (λ t. OnOk c.end_value.result (StandsIn c.end_value.new.self t))
    (ap (λ v. with_value v s.calls s) (c.node_of.ensures.value (values c.args.self.now.terms))
    ∙ within_ends c.args.self.now s c.args.name (map (value_at c.args.self.now.terms) c.args.args) h (λ e. true≢false (sym (c.is_empty.ensures.1 e) ∙ c.if-is_empty.false)))
    (c.end_value.ensures s h)
