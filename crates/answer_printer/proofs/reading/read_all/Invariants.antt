use Rattle.std.proofs.Common.{◌-◌, length}
use Rattle.answer_printer.proofs.TurnLemmas.{IsOnTheWay}
use Rattle.answer_printer.proofs.reading.read_all.Given as goal

abbrev pub invariant-turns : goal.invariant-turns
invariant-turns l = IsOnTheWay l.line l.at l.reader

abbrev pub decreases-turns : goal.decreases-turns
decreases-turns l = length l.line - l.at
