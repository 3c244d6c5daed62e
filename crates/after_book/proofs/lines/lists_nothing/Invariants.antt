use Rattle.std.proofs.Common.{◌↔◌, drop}
use Rattle.after_book.proofs.NothingLemmas.{ListsNothing}
use Rattle.after_book.proofs.lines.lists_nothing.Given as goal

abbrev pub invariant-loop-byte : goal.invariant-loop-byte
invariant-loop-byte l = ListsNothing (drop l.byte-index l.line) ↔ ListsNothing l.line
