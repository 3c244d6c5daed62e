use Rattle.std.proofs.Common.{◌∙◌, sym, ap, ◌++◌, arith}
use Rattle.journal_file.specs.Terms.{rest_text, weight}
use Rattle.journal_file.proofs.TermLemmas.{rest-push, weight-push}
use Rattle.journal_file.proofs.terms.push_term.Goals as goal

pub loop-call-smaller : goal.loop-call-smaller
loop-call-smaller c = omega (arith, c.in_ok-write_call.ensures.less, ap weight c.in-Some.ensures.items, weight-push c.pop.new.self.items c.in-Some.call)

pub loop-call-preserved : goal.loop-call-preserved
loop-call-preserved c =
    c.in_ok-write_call.ensures.text_is
    ∙ ap (λ l. c.loop-call.text.items ++ l) (sym (ap rest_text c.in-Some.ensures.items ∙ rest-push c.pop.new.self.items c.in-Some.call)) ∙ c.loop-call.invariant
