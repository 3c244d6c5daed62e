use Rattle.std.proofs.Common.{subst, sym, ◌<◌}
use Rattle.std.proofs.lemmas.Option.{slice_get_within}
use Rattle.asp_strata.proofs.Loops.{if_ok}
use Rattle.asp_strata.proofs.Searching.{dependents_found}
use Rattle.asp_strata.proofs.dependents.dependents_of.Goals as goal

pub reach-requires-clause-roots : goal.reach-requires-clause-roots
reach-requires-clause-roots c = λ i k.
    let table = c.args.graph.now.table in
    let at = (c.in_ok-roots.ensures i).0 k in
    subst (λ n. i < n) (sym c.requires.graph.beside) (slice_get_within table i at.0 at.2)

pub reach-requires-clause-rows : goal.reach-requires-clause-rows
reach-requires-clause-rows c = λ j i l.
    let table = c.args.graph.now.table in
    let at = ((c.requires.graph.rows_are j i).0 l).2 in
    subst (λ n. i < n) (sym c.requires.graph.beside) (slice_get_within table i at.0 at.2)

pub returns : goal.returns
returns c = if_ok c.reach.result _ _ (λ found h. dependents_found c.args.graph.now.statements.now c.args.graph.now.table c.args.graph.now.rows.items c.args.statement.now c.in_ok-roots.roots found c.requires.graph c.in_ok-roots.ensures h) c.reach.ensures
