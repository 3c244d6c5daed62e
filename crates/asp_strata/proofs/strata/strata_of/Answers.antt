use Rattle.std.proofs.Common.{◌∙◌}
use Rattle.asp_strata.proofs.Layering.{zeros_level}
use Rattle.asp_strata.proofs.strata.strata_of.Goals as goal

pub layer_all-requires-clause-level : goal.layer_all-requires-clause-level
layer_all-requires-clause-level c =
    let graph = c.args.graph.now in
    zeros_level graph.statements.now graph.table graph.rows.items c.in-Ok.strata c.requires (c.in-Ok.ensures.count ∙ c.len.ensures) c.in-Ok.ensures.zero
