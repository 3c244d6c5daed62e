use Rattle.std.proofs.Common.{length}
use Rattle.std.proofs.lemmas.Option.{slice_get_read}
use Rattle.asp_strata.proofs.Loops.{on_ok}
use Rattle.asp_strata.proofs.GraphLemmas.{row_extended}
use Rattle.asp_strata.proofs.graph.extend_row.Goals as goal

pub returns-clause-rows : goal.returns-clause-rows
returns-clause-rows c =
    let rows = c.args.rows.now.items in
    let here = slice_get_read rows (length rows) c.args.place c.index_mut.result.now (λ i. length rows) c.requires c.index_mut.ensures.value in
    on_ok c.add_all.result _ _ (row_extended rows c.args.place c.index_mut.result.now c.add_all.new.self c.args.heads.now c.requires here) c.add_all.ensures.members
