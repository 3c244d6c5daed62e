use Rattle.std.proofs.Common.{sym, subst}
use Rattle.after_book.specs.Listed.{IsCanonical}
use Rattle.after_book.proofs.BookLemmas.{canonical_line}
use Rattle.after_book.proofs.tests.added_twice.Goals as goal

pub new_twice-requires : goal.new_twice-requires
new_twice-requires c = subst IsCanonical (sym c.as_slice.ensures) (canonical_line c.args.text.now c.in-Ok.line c.in-Ok.ensures.answer)
