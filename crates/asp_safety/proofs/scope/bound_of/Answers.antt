use Rattle.std.proofs.Common.{◌≡◌, [], rules}
use Rattle.asp_safety.specs.ClauseLists.{body_clauses}
use Rattle.asp_strata.proofs.Loops.{if_ok}
use Rattle.asp_safety.proofs.Bridge.{bound_set}
use Rattle.asp_safety.proofs.scope.bound_of.Goals as goal

pub returns : goal.returns
returns c =
    let made : c.push_body_clauses.new.into ≡ body_clauses c.args.globals.now.keys c.args.statement.now.body = search rules in
    let none : c.new-none.result.keys ≡ [] = search rules in
    if_ok c.settle.result _ _ (λ set h. bound_set c.args.statement.now c.args.globals.now.keys c.requires c.new-none.result.keys set.keys c.push_body_clauses.new.into none made h) c.settle.ensures
