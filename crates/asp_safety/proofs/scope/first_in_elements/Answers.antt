use Rattle.std.proofs.Common.{subst}
use Rattle.asp_safety.specs.Binding.{element_occurrences}
use Rattle.asp_safety.specs.Walks.{Finds}
use Rattle.asp_strata.proofs.Loops.{drop-at}
use Rattle.asp_safety.proofs.Finding.{answers_some, answers_on}
use Rattle.asp_safety.proofs.scope.first_in_elements.Goals as goal

pub returns-in-Some : goal.returns-in-Some
returns-in-Some c =
    let s = c.args.scope.now.statement.now in
    let at = drop-at c.args.elements.now c.loop-element.element-index c.element-item.result c.loop-element-test.true c.element-item.is in
    answers_some s element_occurrences _ _ c.args.elements.now c.element-item.result c.in-Some.name at c.loop-element.invariant
    (subst (λ o. Finds s (element_occurrences c.element-item.result) o) c.in-Some.is c.in_ok-name.ensures)

pub loop-element-preserved : goal.loop-element-preserved
loop-element-preserved c =
    let s = c.args.scope.now.statement.now in
    let at = drop-at c.args.elements.now c.loop-element.element-index c.element-item.result c.loop-element-test.true c.element-item.is in
    answers_on s element_occurrences _ _ c.args.elements.now c.element-item.result at c.loop-element.invariant
    (subst (λ o. Finds s (element_occurrences c.element-item.result) o) c.in_default.is c.in_ok-name.ensures)
