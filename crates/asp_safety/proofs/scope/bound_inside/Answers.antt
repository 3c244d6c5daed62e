use Rattle.std.proofs.Common.{◌≡◌, ◌↔◌, map, subst, rules}
use Rattle.lists.specs.Lists.{◌∈◌, concat}
use Rattle.asp_safety.specs.declared.clause.Clause.{Clause}
use Rattle.asp_safety.specs.ClauseLists.{literal_clauses}
use Rattle.asp_strata.proofs.Loops.{if_ok}
use Rattle.asp_safety.proofs.Bridge.{inside_set}
use Rattle.asp_safety.proofs.scope.bound_inside.Goals as goal

pub returns : goal.returns
returns c =
    let made : c.push_condition_clauses.new.into ≡ concat (map literal_clauses c.args.condition.now) = search rules in
    let scope = c.args.scope.now in
    let local : (d : Clause) → (d ∈ c.in_ok-clauses.clauses) ↔ ((d ∈ concat (map literal_clauses c.args.condition.now)) × (¬ (d.gives ∈ scope.globals.keys))) =
    λ d. subst (λ ds. (d ∈ c.in_ok-clauses.clauses) ↔ ((d ∈ ds) × (¬ (d.gives ∈ scope.globals.keys)))) made (c.in_ok-clauses.ensures d) in
    if_ok c.settle.result _ _ (λ set h. inside_set scope.statement.now scope.globals.keys scope.bound.keys c.args.condition.now c.in_ok-clauses.clauses c.requires.globals_are c.requires.bound_are local set.keys h) c.settle.ensures
