use Rattle.std.proofs.Common.{subst}
use Rattle.asp_safety.specs.Binding.{item_occurrences}
use Rattle.asp_safety.specs.Walks.{Finds}
use Rattle.asp_strata.proofs.Loops.{drop-at}
use Rattle.asp_safety.proofs.Finding.{answers_some, answers_on}
use Rattle.asp_safety.proofs.scope.first_in_body.Goals as goal

pub returns-in-Some : goal.returns-in-Some
returns-in-Some c =
    let s = c.args.scope.now.statement.now in
    let at = drop-at c.args.body.now c.loop-item.item-index c.item-item.result c.loop-item-test.true c.item-item.is in
    answers_some s item_occurrences _ _ c.args.body.now c.item-item.result c.in-Some.name at c.loop-item.invariant
    (subst (λ o. Finds s (item_occurrences c.item-item.result) o) c.in-Some.is c.in_ok-name.ensures)

pub loop-item-preserved : goal.loop-item-preserved
loop-item-preserved c =
    let s = c.args.scope.now.statement.now in
    let at = drop-at c.args.body.now c.loop-item.item-index c.item-item.result c.loop-item-test.true c.item-item.is in
    answers_on s item_occurrences _ _ c.args.body.now c.item-item.result at c.loop-item.invariant
    (subst (λ o. Finds s (item_occurrences c.item-item.result) o) c.in_default.is c.in_ok-name.ensures)
