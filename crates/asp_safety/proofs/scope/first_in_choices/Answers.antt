use Rattle.std.proofs.Common.{subst}
use Rattle.asp_safety.specs.Binding.{choice_occurrences}
use Rattle.asp_safety.specs.Walks.{Finds}
use Rattle.asp_strata.proofs.Loops.{drop-at}
use Rattle.asp_safety.proofs.Finding.{answers_some, answers_on}
use Rattle.asp_safety.proofs.scope.first_in_choices.Goals as goal

pub returns-in-Some : goal.returns-in-Some
returns-in-Some c =
    let s = c.args.scope.now.statement.now in
    let at = drop-at c.args.choices.now c.loop-choice.choice-index c.choice-item.result c.loop-choice-test.true c.choice-item.is in
    answers_some s choice_occurrences _ _ c.args.choices.now c.choice-item.result c.in-Some.name at c.loop-choice.invariant
    (subst (λ o. Finds s (choice_occurrences c.choice-item.result) o) c.in-Some.is c.in_ok-name.ensures)

pub loop-choice-preserved : goal.loop-choice-preserved
loop-choice-preserved c =
    let s = c.args.scope.now.statement.now in
    let at = drop-at c.args.choices.now c.loop-choice.choice-index c.choice-item.result c.loop-choice-test.true c.choice-item.is in
    answers_on s choice_occurrences _ _ c.args.choices.now c.choice-item.result at c.loop-choice.invariant
    (subst (λ o. Finds s (choice_occurrences c.choice-item.result) o) c.in_default.is c.in_ok-name.ensures)
