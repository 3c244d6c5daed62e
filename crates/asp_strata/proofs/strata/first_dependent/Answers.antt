use Rattle.std.proofs.Common.{Some}
use Rattle.asp_strata.proofs.Loops.{drop-at}
use Rattle.asp_strata.proofs.Layering.{finds_here, finds_later, found_depends, depends_found}
use Rattle.asp_strata.proofs.strata.first_dependent.Goals as goal

pub returns-then-is_found : goal.returns-then-is_found
returns-then-is_found c =
    let P = c.args.graph.now.statements.now in
    let s = c.args.statement.now in
    let p = c.predicate-item.result in
    let at = drop-at c.args.predicates.now c.loop-predicate.predicate-index p c.loop-predicate-test.true c.predicate-item.is in
    c.loop-predicate.invariant (Some c.in_ok-name.name) (finds_here P s p _ _ c.in_ok-name.name at
    (found_depends P c.args.graph.now.table s c.args.found.now p c.requires.found (c.is_found.ensures.0 c.if-is_found.true)) c.in_ok-name.ensures)

pub loop-predicate-preserved : goal.loop-predicate-preserved
loop-predicate-preserved c = λ o h.
    let P = c.args.graph.now.statements.now in
    let s = c.args.statement.now in
    let p = c.predicate-item.result in
    let at = drop-at c.args.predicates.now c.loop-predicate.predicate-index p c.loop-predicate-test.true c.predicate-item.is in
    c.loop-predicate.invariant o (finds_later P s p _ _ o at
    (λ d. absurd (cc (c.is_found.ensures.1 (depends_found P c.args.graph.now.table c.args.graph.now.rows.items s c.args.found.now p c.requires.graph c.requires.there c.requires.found d), c.if-is_found.false))) h)
