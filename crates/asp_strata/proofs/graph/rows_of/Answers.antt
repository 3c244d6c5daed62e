use Rattle.std.proofs.Common.{inl, inr, ◌∙◌}
use Rattle.std.proofs.Math.ListN.{drop_of_length-le}
use Rattle.asp_strata.specs.Graphs.{Leads, Linked}
use Rattle.asp_strata.proofs.Loops.{drop-at}
use Rattle.asp_strata.proofs.GraphLemmas.{turn, turned, LinkedBy, linked_split, none_linked, none_leads}
use Rattle.asp_strata.proofs.graph.rows_of.Goals as goal

pub loop-statement-init : goal.loop-statement-init
loop-statement-init c = record {
  rows = λ j i. (λ k. elim k [ inl k ↦ absurd (none_leads c.in_ok-rows.rows.items c.in_ok-rows.ensures.empty j i k) | inr k ↦ k ], λ k. inr k);
  count = c.in_ok-rows.ensures.count ∙ c.len.ensures;
}

pub loop-statement-preserved : goal.loop-statement-preserved
loop-statement-preserved c =
    let table = c.args.table.now in
    let whole = c.args.statements.now in
    let at = drop-at whole c.loop-statement.statement-index c.statement-item.result c.loop-statement-test.true c.statement-item.is in
    record {
      rows = turn (Leads c.loop-statement.rows.items) (Leads c.link.new.rows.items) (LinkedBy table c.statement-item.result) _ _ (Linked table whole)
          c.in_ok-link.ensures.rows (linked_split table _ _ c.statement-item.result at) c.loop-statement.invariant.rows;
      count = c.in_ok-link.ensures.count ∙ c.loop-statement.invariant.count;
    }

pub returns-clause-rows : goal.returns-clause-rows
returns-clause-rows c =
    let table = c.args.table.now in
    let whole = c.args.statements.now in
    let over = drop_of_length-le whole c.loop-statement-test.false in
    turned (Leads c.loop-statement.rows.items) _ (Linked table whole) (none_linked table _ over) c.loop-statement.invariant.rows
