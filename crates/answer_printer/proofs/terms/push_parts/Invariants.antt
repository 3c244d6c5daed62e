use Rattle.std.proofs.Common.{◌≡◌, ◌+◌, ◌<◌, ◌++◌, drop, length}
use Rattle.answer_printer.specs.Pieces.{nexts}
use Rattle.answer_printer.proofs.terms.push_parts.Given as goal

abbrev pub invariant-loop-place : goal.invariant-loop-place
invariant-loop-place l = (l.place < length l.args) × (l.stack.items ≡ l.initial.stack.items ++ nexts (drop (l.place + 1) l.args))

abbrev pub decreases-loop-place : goal.decreases-loop-place
decreases-loop-place l = l.place
