use Rattle.std.proofs.Common.{subst, sym, ◌∙◌}
use Rattle.lists.specs.Lists.{Each}
use Rattle.asp_strata.specs.Recursion.{HasNoRecursion}
use Rattle.asp_strata.specs.Graphs.{IsLayered}
use Rattle.asp_strata.proofs.Loops.{drop-at, passed, stands, seen_on, all_seen}
use Rattle.asp_strata.proofs.Layering.{recursive_on, seen_up}
use Rattle.asp_strata.proofs.strata.layer_all.Goals as goal

pub layer_or_refuse-requires-clause-there : goal.layer_or_refuse-requires-clause-there
layer_or_refuse-requires-clause-there c =
    let P = c.args.graph.now.statements.now in
    let at = drop-at P c.loop-statement.statement-index c.statement-item.result c.loop-statement-test.true c.statement-item.is in
    stands P _ _ c.statement-item.result at c.loop-statement.invariant.inside

pub loop-statement-preserved : goal.loop-statement-preserved
loop-statement-preserved c =
    let P = c.args.graph.now.statements.now in
    let table = c.args.graph.now.table in
    let s = c.statement-item.result in
    let before = c.loop-statement.invariant in
    let now = c.in_ok-layer_or_refuse.ensures in
    let new = c.layer_or_refuse.new.strata in
    let at = drop-at P c.loop-statement.statement-index s c.loop-statement-test.true c.statement-item.is in
    record {
      count = now.climbs.size ∙ before.count;
      keeps_up = now.climbs.keeps_up before.keeps_up;
      inside = passed P _ _ s at before.inside;
      layered = seen_on (IsLayered table new) P _ _ s at (now.layered before.keeps_up) (seen_up (IsLayered table c.loop-statement.strata) (IsLayered table new) P _ now.climbs.layered before.layered);
      all = λ h. before.all (subst (Each (HasNoRecursion P)) (sym at) (now.no_recursion, h));
      first = recursive_on P s _ _ P at now.no_recursion before.first;
    }

pub returns-clause-layered : goal.returns-clause-layered
returns-clause-layered c =
    all_seen (IsLayered c.args.graph.now.table c.loop-statement.strata) c.args.graph.now.statements.now c.loop-statement.statement-index c.loop-statement-test.false c.loop-statement.invariant.layered
