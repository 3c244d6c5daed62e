use Rattle.std.proofs.Common.{None}
use Rattle.asp_strata.proofs.Loops.{if_ok}
use Rattle.asp_safety.proofs.Finding.{found, twice}
use Rattle.asp_safety.proofs.scope.first_outside.Goals as goal

pub returns : goal.returns
returns c =
    let scope = c.args.scope.now in
    if_ok c.first_missing.result _ _ (λ o h. found scope.statement.now None scope.bound.keys scope.bound.keys (twice scope.statement.now scope.bound.keys c.requires.bound_are) c.args.keys.now o h) c.first_missing.ensures
