use Rattle.after_book.proofs.ReadLemmas.{read_on, due_fault, whole, all_listed, only_listed, exactly_listed}
use Rattle.after_book.proofs.book.AfterBook.read.Goals as goal

pub lines-preserved : goal.lines-preserved
lines-preserved c =
    read_on c.args.bytes.now c.lines.rest.now c.in-Some.line.now c.in-Some.behind.now c.lines.number c.lines.book c.read_line.new.self c.lines.invariant
    c.in-Some.ensures.parts c.in-Some.ensures.shorter c.in-Ok.ensures.0 c.in-Ok.ensures.1

pub returns-in-Err-clause-refused : goal.returns-in-Err-clause-refused
returns-in-Err-clause-refused c =
    due_fault c.args.bytes.now c.lines.rest.now c.in-Some.line.now c.in-Some.behind.now c.lines.number c.lines.book c.read_line.new.self c.in-Err.fault
    c.lines.invariant c.in-Some.ensures.parts c.in-Err.ensures

pub returns-in-Ok-take_up-clause-fine : goal.returns-in-Ok-take_up-clause-fine
returns-in-Ok-take_up-clause-fine c =
    (whole c.args.bytes.now c.lines.rest.now c.lines.number c.lines.book c.take_up.new.self c.lines.invariant c.in_default.ensures.parts c.in-Ok-take_up.ensures.taken).fine

pub returns-in-Ok-take_up-clause-listed : goal.returns-in-Ok-take_up-clause-listed
returns-in-Ok-take_up-clause-listed c =
    all_listed c.args.bytes.now c.take_up.new.self
    (whole c.args.bytes.now c.lines.rest.now c.lines.number c.lines.book c.take_up.new.self c.lines.invariant c.in_default.ensures.parts c.in-Ok-take_up.ensures.taken)

pub returns-in-Ok-take_up-clause-only : goal.returns-in-Ok-take_up-clause-only
returns-in-Ok-take_up-clause-only c =
    only_listed c.args.bytes.now c.take_up.new.self
    (whole c.args.bytes.now c.lines.rest.now c.lines.number c.lines.book c.take_up.new.self c.lines.invariant c.in_default.ensures.parts c.in-Ok-take_up.ensures.taken)

pub returns-in-Ok-take_up-clause-exact : goal.returns-in-Ok-take_up-clause-exact
returns-in-Ok-take_up-clause-exact c =
    exactly_listed c.args.bytes.now c.take_up.new.self
    (whole c.args.bytes.now c.lines.rest.now c.lines.number c.lines.book c.take_up.new.self c.lines.invariant c.in_default.ensures.parts c.in-Ok-take_up.ensures.taken)
