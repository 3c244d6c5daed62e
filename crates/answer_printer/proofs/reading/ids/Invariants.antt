use Rattle.std.proofs.Common.{◌≡◌}
use Rattle.answer_printer.specs.Readers.{below}
use Rattle.answer_printer.proofs.reading.ids.Given as goal

abbrev pub invariant-loop-id : goal.invariant-loop-id
invariant-loop-id l = l.all.items ≡ below l.id
