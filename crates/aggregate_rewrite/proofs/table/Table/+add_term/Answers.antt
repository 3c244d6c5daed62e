use Rattle.std.proofs.Common.{ap, ◌∙◌}
use Rattle.asp_strata.proofs.Loops.{drop-at, on_ok}
use Rattle.asp_meaning.specs.Variables.{variables}
use Rattle.rewriting.specs.Numbering.{with_variables}
use Rattle.aggregate_rewrite.proofs.TableLemmas.{with_on, with_Arith}
use Rattle.aggregate_rewrite.proofs.table.Table.+add_term.Goals as goal

pub loop-arg-preserved : goal.loop-arg-preserved
loop-arg-preserved t c =
    let args = c.as_slice-arg-items.result.now in
    let at = drop-at args c.loop-arg.arg-index c.arg-item.result c.loop-arg-test.true c.arg-item.is in
    with_on variables _ _ c.arg-item.result c.loop-arg.self _ _ at c.in_ok-add_term-in-Fun.ensures c.loop-arg.invariant

pub returns-in_ok-add_term-in-Arith : goal.returns-in_ok-add_term-in-Arith
returns-in_ok-add_term-in-Arith t c =
    let first = c.in_ok-add_term-in-Arith.ensures ∙ ap (λ u. with_variables c.args.self.now (variables u)) c.get-in-Arith.ensures in
    on_ok c.add_term-in-Arith-2.result _ _ (λ h.
    with_Arith c.in-Arith.field-0 c.in-Arith.left c.in-Arith.right c.args.term.now c.args.self.now c.add_term-in-Arith.new.self c.add_term-in-Arith-2.new.self c.in-Arith.is first
    (h ∙ ap (λ u. with_variables c.add_term-in-Arith.new.self (variables u)) c.get-in-Arith-2.ensures)) c.add_term-in-Arith-2.ensures
