use Rattle.std.proofs.Common.{◌≡◌, rules}
use Rattle.asp_meaning.specs.Variables.{global_variables}
use Rattle.asp_safety.proofs.scope.globals_of.Goals as goal

pub returns : goal.returns
returns c =
    let e : c.push_globals.new.into ≡ global_variables c.args.statement.now = search rules in
    rw e at c.set_of.ensures
