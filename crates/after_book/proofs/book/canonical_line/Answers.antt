use Rattle.after_book.proofs.BookLemmas.{canonical_read}
use Rattle.after_book.proofs.book.canonical_line.Goals as goal

pub returns-clause-canonical : goal.returns-clause-canonical
returns-clause-canonical c = canonical_read c.args.text.now c.read_set_line.result c.read_set_line.ensures.answer
