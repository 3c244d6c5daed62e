use Rattle.std.proofs.Common.{subst}
use Rattle.std.proofs.KnownBytes.{Keeps-refl}
use Rattle.alpha.specs.Promises.{IsListOf}
use Rattle.alpha.proofs.ReadLemmas.{still, list_stop_later, without_core, without_book, without_name, with_search}
use Rattle.alpha.proofs.run.answer.Goals as goal

pub returns-in-Err-clause-outcome : goal.returns-in-Err-clause-outcome
returns-in-Err-clause-outcome g c = without_core _ _ _ _ c.args.request.now c.in-Err.status c.in-Err.ensures.stop (still _ _ _ _)

pub returns-in-Err-read_book-clause-outcome : goal.returns-in-Err-read_book-clause-outcome
returns-in-Err-read_book-clause-outcome g c =
    let found = c.in-Ok.ensures.core in
    without_book _ _ _ _ c.args.request.now found.0 found.1 c.in-Err-read_book.status
    (list_stop_later _ _ c.read_core.ensures.kept _ _ _ _ _ _ _ c.read_core.ensures.faults_later c.read_core.ensures.taken_later
    c.in-Err-read_book.status c.in-Err-read_book.ensures.stop)
    (still _ _ _ _)

pub returns-in-Err-begin-clause-outcome : goal.returns-in-Err-begin-clause-outcome
returns-in-Err-begin-clause-outcome g c =
    let found = c.in-Ok.ensures.core in
    let listed = c.in-Ok-read_book.ensures.book in
    let list = subst (λ told. IsListOf told c.args.request.now.after listed.0) c.read_core.ensures.kept listed.1 in
    without_name _ _ _ _ c.args.request.now found.0 found.1 listed.0 list c.in-Err-begin.status c.in-Err-begin.ensures.stop
    (record { bytes = Keeps-refl _; events = c.in-Err-begin.ensures.kept })

pub returns-clause-outcome : goal.returns-clause-outcome
returns-clause-outcome g c =
    let found = c.in-Ok.ensures.core in
    let listed = c.in-Ok-read_book.ensures.book in
    let list = subst (λ told. IsListOf told c.args.request.now.after listed.0) c.read_core.ensures.kept listed.1 in
    with_search _ _ _ _ c.args.request.now found.0 found.1 listed.0 list c.in-Ok.core found.2 c.in-Ok-read_book.book listed.2 c.solve.result
    (g.T.Trace.journal c.begin.new.trace) c.in_default.ensures.ok (g.T.Trace.faults c.begin.new.trace) c.begin.ensures.later
    c.solve.ensures.searched
