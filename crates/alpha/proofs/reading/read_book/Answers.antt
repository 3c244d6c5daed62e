use Rattle.std.proofs.Common.{[], subst, sym}
use Rattle.alpha.specs.Outcomes.{IsBookOf}
use Rattle.alpha.proofs.ReadLemmas.{none_there, one_there}
use Rattle.alpha.proofs.Books.{book_is, empty_book}
use Rattle.alpha.proofs.reading.read_book.Goals as goal

pub returns-in_default-clause-book : goal.returns-in_default-clause-book
returns-in_default-clause-book g c =
    ([], none_there _ c.args.request.now.after c.in_default.is, subst (IsBookOf []) (sym c.new.ensures) empty_book)

pub returns-in-Ok-read-clause-book : goal.returns-in-Ok-read-clause-book
returns-in-Ok-read-clause-book g c = (
  c.deref.result.now,
  one_there _ c.args.request.now.after c.in-Some.name c.as_bytes.result.now c.deref.result.now c.in-Ok.bytes.items c.in-Some.is c.as_bytes.ensures
      c.in-Ok.ensures.bytes c.in-Ok.ensures.length c.deref.ensures.value c.in-Ok-read.ensures.fine,
  book_is c.deref.result.now c.in-Ok-read.book c.in-Ok-read.ensures.listed c.in-Ok-read.ensures.only,
)
