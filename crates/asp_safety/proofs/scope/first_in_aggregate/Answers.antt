use Rattle.std.proofs.Common.{◌++◌, map, subst, Some}
use Rattle.lists.specs.Lists.{concat}
use Rattle.asp_safety.specs.Binding.{guard_occurrences, element_occurrences}
use Rattle.asp_safety.specs.Walks.{Finds}
use Rattle.asp_strata.proofs.Loops.{if_ok}
use Rattle.asp_safety.proofs.Finding.{finds_left, finds_right}
use Rattle.asp_safety.proofs.scope.first_in_aggregate.Goals as goal

pub returns-in-Some-2 : goal.returns-in-Some-2
returns-in-Some-2 c =
    let s = c.args.scope.now.statement.now in
    let g = c.args.aggregate.now in
    let left = guard_occurrences g.left in
    let middle = concat (map element_occurrences g.elements) in
    let right = guard_occurrences g.right in
    let found = subst (λ es. Finds s (concat (map element_occurrences es)) c.in_ok-name-2.field-0) c.as_slice.ensures c.in_ok-name-2.ensures in
    finds_right s left (middle ++ right) (Some c.in-Some-2.name) (subst (λ o. Finds s left o) c.in_default.is c.in_ok-name.ensures)
    (finds_left s middle right c.in-Some-2.name (subst (λ o. Finds s middle o) c.in-Some-2.is found))

pub returns : goal.returns
returns c =
    let s = c.args.scope.now.statement.now in
    let g = c.args.aggregate.now in
    let left = guard_occurrences g.left in
    let middle = concat (map element_occurrences g.elements) in
    let right = guard_occurrences g.right in
    let found = subst (λ es. Finds s (concat (map element_occurrences es)) c.in_ok-name-2.field-0) c.as_slice.ensures c.in_ok-name-2.ensures in
    if_ok c.first_in_guard-2.result _ _ (λ o h. finds_right s left (middle ++ right) o (subst (λ o. Finds s left o) c.in_default.is c.in_ok-name.ensures)
    (finds_right s middle right o (subst (λ o. Finds s middle o) c.in_default-2.is found) h)) c.first_in_guard-2.ensures
