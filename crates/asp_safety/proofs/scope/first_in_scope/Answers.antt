use Rattle.std.proofs.Common.{map, subst}
use Rattle.lists.specs.Lists.{concat}
use Rattle.asp_safety.specs.Binding.{head_occurrences, item_occurrences}
use Rattle.asp_safety.specs.Walks.{Finds}
use Rattle.asp_strata.proofs.Loops.{if_ok}
use Rattle.asp_safety.proofs.Finding.{finds_right}
use Rattle.asp_safety.proofs.scope.first_in_scope.Goals as goal

pub returns : goal.returns
returns c =
    let s = c.args.scope.now.statement.now in
    let front = head_occurrences s.head in
    if_ok c.first_in_body.result _ _ (λ o h. finds_right s front (concat (map item_occurrences s.body)) o (subst (λ o. Finds s front o) c.in_default.is c.in_ok-name.ensures)
    (subst (λ is. Finds s (concat (map item_occurrences is)) o) c.as_slice.ensures h)) c.first_in_body.ensures
