use Rattle.std.proofs.Common.{◌≡◌, ap, ◌∙◌, arith}
use Rattle.asp_safety.specs.Binding.{variables_of, body_variables}
use Rattle.rewriting.specs.Lifting.{free_above}
use Rattle.aggregate_rewrite.proofs.FreeLemmas.{free_in_parts}
use Rattle.aggregate_rewrite.proofs.free.free_in.Goals as goal

pub returns : goal.returns
returns c =
    let body : c.above_body-body.result ≡ free_above (body_variables c.args.rule.now.body) =
    c.above_body-body.ensures ∙ ap (λ b. free_above (body_variables b)) c.as_slice.ensures in
    let defined : c.above_terms-defined.result ≡ free_above (variables_of c.args.rule.now.defined) =
    c.above_terms-defined.ensures ∙ ap (λ ts. free_above (variables_of ts)) c.as_slice-2.ensures in
    let parts = free_in_parts c.args.rule.now in
    omega arith
