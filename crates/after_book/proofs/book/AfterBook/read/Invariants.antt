use Rattle.std.proofs.Common.{length}
use Rattle.after_book.proofs.ReadLemmas.{IsReading}
use Rattle.after_book.proofs.book.AfterBook.read.Given as goal

abbrev pub invariant-lines : goal.invariant-lines
invariant-lines l = IsReading l.bytes l.rest l.number l.book

abbrev pub decreases-lines : goal.decreases-lines
decreases-lines l = length l.rest
