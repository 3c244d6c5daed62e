use Rattle.std.proofs.Common.{rules, ◌≡◌, sym, subst}
use Rattle.std.proofs.lemmas.Result.{IfOk-weaker}
use Rattle.lists.specs.Lists.{◌∈◌}
use Rattle.core_rules.specs.declared.rules.CoreTerm.{CoreTerm}
use Rattle.unification.specs.Opening.{VariablesBelow}
use Rattle.unification.proofs.unifying.unify_head.Goals as goal

pub unify_arguments-requires-clause-below : goal.unify_arguments-requires-clause-below
unify_arguments-requires-clause-below c = subst (λ ts. (u : CoreTerm) → u ∈ ts → VariablesBelow c.args.variables u) (sym c.as_slice-args.ensures) c.requires.below

pub returns-clause-found : goal.returns-clause-found
returns-clause-found c =
    let same : c.args.head.now.pred ≡ c.args.pattern.now.pred = search rules in
    IfOk-weaker c.unify_arguments.result _ _ (λ found k. k c.args.head.now c.args.pattern.now (sym c.as_slice-args.ensures) (sym c.as_slice.ensures) same) c.unify_arguments.ensures.found
