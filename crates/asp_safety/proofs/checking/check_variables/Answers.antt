use Rattle.std.proofs.Common.{subst, sym}
use Rattle.lists.specs.Lists.{Each}
use Rattle.asp_safety.specs.Binding.{IsSafe}
use Rattle.asp_strata.proofs.Loops.{drop-at}
use Rattle.asp_safety.proofs.Finding.{unsafe_on}
use Rattle.asp_safety.proofs.checking.check_variables.Goals as goal

pub loop-statement-preserved : goal.loop-statement-preserved
loop-statement-preserved c =
    let at = drop-at c.args.statements.now c.loop-statement.statement-index c.statement-item.result c.loop-statement-test.true c.statement-item.is in
    let safe = c.in_ok-check_statement.ensures.safe in
    record {
      all = λ h. c.loop-statement.invariant.all (subst (Each IsSafe) (sym at) (safe, h));
      first = unsafe_on c.statement-item.result _ _ c.args.statements.now at safe c.loop-statement.invariant.first;
    }
