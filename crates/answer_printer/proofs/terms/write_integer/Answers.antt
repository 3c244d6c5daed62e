use Rattle.std.proofs.Common.{ap, ◌++◌, ◌∙◌}
use Rattle.term_pool.proofs.IntegerLemmas.{integer_written}
use Rattle.answer_printer.proofs.terms.write_integer.Goals as goal

pub returns : goal.returns
returns c =
    c.in_ok-extend_from_slice.ensures.items
    ∙ ap (λ l. c.args.text.now.items ++ l) (c.as_bytes.ensures.value ∙ c.format.ensures.text ∙ integer_written c.args.number c.ranges.number)
