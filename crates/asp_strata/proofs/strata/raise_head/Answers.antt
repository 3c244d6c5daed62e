use Rattle.std.proofs.Common.{[], None, subst}
use Rattle.asp_strata.specs.Graphs.{FindsDependent, Raised}
use Rattle.asp_strata.proofs.Layering.{climbs, lifted_above}
use Rattle.asp_strata.proofs.strata.raise_head.Goals as goal

pub returns-clause-layered : goal.returns-clause-layered
returns-clause-layered c = λ none level.
    let graph = c.args.graph.now in
    let P = graph.statements.now in
    let s = c.args.statement.now in
    let found = c.in_ok-found.found in
    let finds = subst (λ ps. FindsDependent P s ps None) c.requires.elements (subst (λ o. FindsDependent P s c.args.elements.now o) c.in_default.is c.in_ok-name.ensures) in
    let raised = subst (λ xs. Raised c.args.strata.now c.raise.new.strata xs []) c.as_slice.ensures.places c.in_ok-raise.ensures in
    lifted_above P graph.table graph.rows.items c.requires.graph s found c.args.strata.now c.raise.new.strata c.requires.there c.in_ok-found.ensures raised finds level

pub returns-clause-climbs : goal.returns-clause-climbs
returns-clause-climbs c = λ none.
    let graph = c.args.graph.now in
    let raised = subst (λ xs. Raised c.args.strata.now c.raise.new.strata xs []) c.as_slice.ensures.places c.in_ok-raise.ensures in
    climbs graph.statements.now graph.table graph.rows.items c.requires.graph c.args.statement.now c.in_ok-found.found c.args.strata.now c.raise.new.strata c.requires.there c.in_ok-found.ensures raised
