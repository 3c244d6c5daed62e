use Rattle.after_book.proofs.BookLemmas.{has_line}
use Rattle.after_book.proofs.book.AfterBook.has.Goals as goal

pub returns-clause-there : goal.returns-clause-there
returns-clause-there c =
    has_line (λ k. k.items) c.self.inside.lines.keys c.args.self.now c.args.line.now c.contains.result c.self.view_is c.contains.ensures
