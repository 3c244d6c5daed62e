use Rattle.std.proofs.Common.{sym}
use Rattle.after_book.proofs.PartsLemmas.{at_feed, no_feed}
use Rattle.after_book.proofs.lines.split_line.Goals as goal

pub returns-in_err-end-clause-parts : goal.returns-in_err-end-clause-parts
returns-in_err-end-clause-parts c = rw c.from_residual.ensures (no_feed c.args.bytes.now (sym c.in_err-end.ensures))

pub returns-clause-parts : goal.returns-clause-parts
returns-clause-parts c = at_feed c.args.bytes.now c.in_ok-end.end (sym c.in_ok-end.ensures)
