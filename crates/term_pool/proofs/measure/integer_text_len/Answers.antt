use Rattle.std.proofs.Common.{ap, length, ◌∙◌}
use Rattle.term_pool.proofs.IntegerLemmas.{integer_written}
use Rattle.term_pool.proofs.measure.integer_text_len.Goals as goal

pub returns : goal.returns
returns c = ap length (c.format.ensures.text ∙ integer_written c.args.number c.ranges.number)
