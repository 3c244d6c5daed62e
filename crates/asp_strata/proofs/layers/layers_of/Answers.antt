use Rattle.std.proofs.Common.{subst, sym}
use Rattle.asp_strata.proofs.Stratified.{stratified}
use Rattle.lists.specs.Lists.{◌∈◌}
use Rattle.asp_strata.proofs.layers.layers_of.Goals as goal

pub returns-in_ok-strata-in-Ok-clause-strata : goal.returns-in_ok-strata-in-Ok-clause-strata
returns-in_ok-strata-in-Ok-clause-strata c =
    let graph = c.in-Ok.graph in
    let strata = c.in_ok-strata-in-Ok.strata in
    let found = c.in_ok-strata-in-Ok.ensures in
    stratified c.args.statements.now graph.table graph.rows.items strata c.in-Ok.ensures.graph found.count found.keeps_up
    (λ s k. found.layered s (subst (λ P. s ∈ P) (sym c.in-Ok.ensures.same) k))
