use Rattle.std.proofs.Common.{refl, subst}
use Rattle.asp_strata.specs.Recursion.{element_predicates}
use Rattle.asp_strata.specs.Firsts.{FirstDependent}
use Rattle.asp_strata.specs.Graphs.{FindsDependent}
use Rattle.asp_strata.proofs.Layering.{is_recursive}
use Rattle.asp_strata.proofs.strata.layer_or_refuse.Goals as goal

pub returns-in-Ok-Some-clause-fault : goal.returns-in-Ok-Some-clause-fault
returns-in-Ok-Some-clause-fault c =
    let P = c.args.graph.now.statements.now in
    let s = c.args.statement.now in
    let first : FirstDependent P s c.in-Ok-Some.name = subst (λ o. FindsDependent P s (element_predicates s) o) c.in-Ok-Some.field-0-is c.in-Ok-Some.ensures.found in
    (is_recursive P s c.in-Ok-Some.name first, refl, first)
