use Rattle.std.proofs.Common.{subst, sym, ◌<◌}
use Rattle.std.proofs.lemmas.Option.{slice_get_within}
use Rattle.lists.specs.Lists.{◌∈◌}
use Rattle.asp_strata.proofs.Loops.{on_ok}
use Rattle.asp_strata.proofs.GraphLemmas.{linked_rows}
use Rattle.asp_strata.proofs.graph.link.Goals as goal

pub extend_rows-requires : goal.extend_rows-requires
extend_rows-requires c = λ j k.
    let at = (c.in_ok-needed.ensures j).0 (subst (λ xs. j ∈ xs) c.as_slice.ensures.places k) in
    subst (λ n. j < n) (sym c.requires) (slice_get_within c.args.table.now j at.0 at.2)

pub returns-clause-rows : goal.returns-clause-rows
returns-clause-rows c =
    on_ok c.extend_rows.result _ _ (linked_rows c.args.table.now c.args.statement.now c.args.rows.now.items c.extend_rows.new.rows.items _ _ _ _
    c.as_slice.ensures.places c.as_slice-2.ensures.places c.in_ok-needed.ensures c.in_ok-heads.ensures) c.extend_rows.ensures.rows
