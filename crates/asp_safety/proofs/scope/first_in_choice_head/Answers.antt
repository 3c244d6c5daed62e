use Rattle.std.proofs.Common.{◌++◌, map, subst, Some}
use Rattle.lists.specs.Lists.{concat}
use Rattle.asp_safety.specs.Binding.{guard_occurrences, choice_occurrences}
use Rattle.asp_safety.specs.Walks.{Finds}
use Rattle.asp_strata.proofs.Loops.{if_ok}
use Rattle.asp_safety.proofs.Finding.{finds_left, finds_right}
use Rattle.asp_safety.proofs.scope.first_in_choice_head.Goals as goal

pub returns-in-Some-2 : goal.returns-in-Some-2
returns-in-Some-2 c =
    let s = c.args.scope.now.statement.now in
    let left = guard_occurrences c.args.left.now in
    let middle = concat (map choice_occurrences c.args.elements.now) in
    let right = guard_occurrences c.args.right.now in
    finds_right s left (middle ++ right) (Some c.in-Some-2.name) (subst (λ o. Finds s left o) c.in_default.is c.in_ok-name.ensures)
    (finds_left s middle right c.in-Some-2.name (subst (λ o. Finds s middle o) c.in-Some-2.is c.in_ok-name-2.ensures))

pub returns : goal.returns
returns c =
    let s = c.args.scope.now.statement.now in
    let left = guard_occurrences c.args.left.now in
    let middle = concat (map choice_occurrences c.args.elements.now) in
    let right = guard_occurrences c.args.right.now in
    if_ok c.first_in_guard-2.result _ _ (λ o h. finds_right s left (middle ++ right) o (subst (λ o. Finds s left o) c.in_default.is c.in_ok-name.ensures)
    (finds_right s middle right o (subst (λ o. Finds s middle o) c.in_default-2.is c.in_ok-name-2.ensures) h)) c.first_in_guard-2.ensures
