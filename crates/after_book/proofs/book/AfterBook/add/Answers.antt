use Rattle.std.proofs.Common.{ap, sym, subst, map, true≢false}
use Rattle.lists.specs.Lists.{◌∈◌}
use Rattle.after_book.proofs.BookLemmas.{IsBook, book_with, line_inserted}
use Rattle.after_book.proofs.book.AfterBook.add.Goals as goal
use Rattle.after_book.proofs.book.AfterBook.add.Goals.{in-Ok, in-Err}

-- the line is not there
none : (c : goal.Joined-insert-2) → ¬ (c.args.line.now ∈ c.args.self.now)
none c = λ there. true≢false (sym (c.if-has.ensures.there.1 there))

-- the book is one after the insertion too
book : (c : goal.Joined-insert-2) → IsBook (map (λ k. k.items) c.insert.new.self.keys)
book c = elim c.match-insert.branch [
  | in-Ok w ↦ book_with c.args.self.now (map (λ k. k.items) c.insert.new.self.keys) c.args.line.now (subst IsBook c.self.view_is c.self.invariant) c.requires (none c)
      (line_inserted (λ k. k.items) c.self.inside.lines.keys c.insert.new.self.keys c.in_ok-line.line c.args.self.now c.args.line.now c.self.view_is
      c.in_ok-line.ensures.items (none c) w.in-Ok.ensures.keys)
  | in-Err w ↦ subst IsBook (sym (ap (map (λ k. k.items)) w.in-Err.ensures.err)) c.self.invariant
]

pub invariant_of-self : goal.invariant_of-self
invariant_of-self c = book c

pub returns-clause-added : goal.returns-clause-added
returns-clause-added c = elim c.match-insert.branch [
  | in-Ok w ↦ rw w.result-is (
    none c,
    line_inserted (λ k. k.items) c.self.inside.lines.keys c.insert.new.self.keys c.in_ok-line.line c.args.self.now c.args.line.now c.self.view_is
        c.in_ok-line.ensures.items (none c) w.in-Ok.ensures.keys,
  )
  | in-Err w ↦ rw w.result-is tt
]

pub returns-clause-canonical : goal.returns-clause-canonical
returns-clause-canonical c = (book c).0

pub returns-clause-once : goal.returns-clause-once
returns-clause-once c = (book c).1
