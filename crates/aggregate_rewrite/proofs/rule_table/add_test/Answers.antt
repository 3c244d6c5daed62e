use Rattle.std.proofs.Common.{ap, ◌∙◌}
use Rattle.asp_strata.proofs.Loops.{on_ok}
use Rattle.rewriting.specs.Parts.{Comparison}
use Rattle.asp_meaning.specs.Variables.{variables}
use Rattle.rewriting.specs.Numbering.{with_variables}
use Rattle.aggregate_rewrite.proofs.TableLemmas.{with_pair}
use Rattle.aggregate_rewrite.proofs.rule_table.add_test.Goals as goal

pub returns : goal.returns
returns c =
    let first = c.in_ok-add_term.ensures ∙ ap (λ (t : Comparison). with_variables c.args.table.now (variables t.left)) c.test.view_is in
    on_ok c.add_term-2.result _ _ (λ h.
    with_pair c.args.test.now.left c.args.test.now.right c.args.table.now c.add_term.new.self c.add_term-2.new.self first
    (h ∙ ap (λ (t : Comparison). with_variables c.add_term.new.self (variables t.right)) c.test.view_is)) c.add_term-2.ensures
