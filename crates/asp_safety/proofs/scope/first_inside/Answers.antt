use Rattle.std.proofs.Common.{Some}
use Rattle.asp_strata.proofs.Loops.{if_ok}
use Rattle.asp_safety.proofs.Finding.{found}
use Rattle.asp_safety.proofs.scope.first_inside.Goals as goal

pub returns : goal.returns
returns c =
    let scope = c.args.scope.now in
    if_ok c.first_missing.result _ _ (λ o h. found scope.statement.now (Some c.args.condition.now) scope.bound.keys c.in_ok-inside.inside.keys c.in_ok-inside.ensures c.args.keys.now o h) c.first_missing.ensures
