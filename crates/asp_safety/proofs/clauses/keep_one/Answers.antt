use Rattle.asp_strata.proofs.Loops.{on_ok}
use Rattle.asp_safety.proofs.Locals.{push_local}
use Rattle.asp_safety.proofs.clauses.keep_one.Goals as goal

pub returns-else-is_in : goal.returns-else-is_in
returns-else-is_in c = on_ok c.push_clause.result _ _ (λ e. push_local c.args.globals.now.keys c.args.kept.now c.push_clause.new.into c.args.clause e (λ g. absurd (cc (c.is_in.ensures.member.1 g, c.if-is_in.false)))) c.push_clause.ensures
