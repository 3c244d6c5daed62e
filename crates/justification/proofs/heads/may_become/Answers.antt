use Rattle.std.proofs.Common.{true≢false, sym, ap, subst, ◌∙◌, length, None}
use Rattle.std.proofs.lemmas.List.{length-replicate}
use Rattle.std.specs.List.{list_any}
use Rattle.core_rules.specs.Variables.{has_arithmetic}
use Rattle.lazy_grounder.specs.Joining.{CannotMatchAll}
use Rattle.justification.proofs.HeadLemmas.{other_pred, no_match, fits_head, head_known, each_fails, new_bound, so_many}
use Rattle.justification.proofs.heads.may_become.Goals as goal

pub returns-then-not-has_pred : goal.returns-then-not-has_pred
returns-then-not-has_pred c = λ ended aggs form stand.
    other_pred aggs c.args.ground.now c.len-2.ensures.pool stand c.args.head.now (fits_head aggs c.args.rule.now c.args.head.now form c.requires.head) c.args.atom
    (λ has. true≢false (sym (c.has_pred.ensures.1 has) ∙ c.if-not-has_pred.true))

pub match_atom-requires-clause-plain : goal.match_atom-requires-clause-plain
match_atom-requires-clause-plain c = each_fails has_arithmetic c.args.head.now.args (ap (list_any has_arithmetic) (sym c.as_slice.ensures) ∙ (sym c.have_arithmetic.ensures ∙ c.if-have_arithmetic.false))

pub match_atom-requires-clause-known : goal.match_atom-requires-clause-known
match_atom-requires-clause-known c =
    head_known c.requires.form.0 c.args.rule.now c.args.head.now _ c.requires.form.1 c.requires.head (ap length c.in_ok-binding.ensures ∙ length-replicate c.args.rule.now.variables None)

pub match_atom-requires-clause-bound : goal.match_atom-requires-clause-bound
match_atom-requires-clause-bound c = new_bound c.args.rule.now.variables _ c.in_ok-binding.binding c.in_ok-binding.ensures

pub match_atom-requires-clause-candidate : goal.match_atom-requires-clause-candidate
match_atom-requires-clause-candidate c =
    so_many c.requires.form.0 c.args.ground.now c.args.atom c.args.head.now c.len-2.ensures.pool (fits_head c.requires.form.0 c.args.rule.now c.args.head.now c.requires.form.1 c.requires.head)
    (c.has_pred.ensures.0 c.if-not-has_pred.false)

pub returns : goal.returns
returns c = λ ended aggs form stand.
    no_match aggs c.args.ground.now c.len-2.ensures.pool stand c.args.head.now (fits_head aggs c.args.rule.now c.args.head.now form c.requires.head) c.args.atom c.args.rule.now.variables
    (λ p ids there. subst (λ b. CannotMatchAll c.args.ground.now.terms b c.args.head.now.args ids) c.in_ok-binding.ensures (c.match_atom.ensures.no ended p ids there))
