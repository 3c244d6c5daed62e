use Rattle.asp_safety.proofs.Locals.{kept_on, all_kept}
use Rattle.asp_safety.proofs.clauses.keep_local.Goals as goal

pub moving-preserved : goal.moving-preserved
moving-preserved c = kept_on c.args.globals.now.keys c.args.clauses c.moving.clauses c.pop.new.self c.moving.kept c.keep_one.new.kept c.in-Some.clause c.in-Some.ensures c.in_ok-keep_one.ensures c.moving.invariant

pub returns : goal.returns
returns c = all_kept c.args.globals.now.keys c.args.clauses c.moving.clauses c.moving.kept c.in_default.ensures.0 c.moving.invariant
