use Rattle.std.proofs.Common.{ap, ◌∙◌}
use Rattle.asp_strata.proofs.Loops.{drop-at}
use Rattle.asp_syntax.specs.declared.tree.Atom.{Atom}
use Rattle.asp_safety.specs.Binding.{variables_of}
use Rattle.rewriting.specs.Numbering.{with_variables}
use Rattle.aggregate_rewrite.proofs.TableLemmas.{with_terms_on}
use Rattle.aggregate_rewrite.proofs.rule_table.add_atoms.Goals as goal

pub loop-atom-preserved : goal.loop-atom-preserved
loop-atom-preserved c =
    let atoms = c.args.atoms.now in
    let at = drop-at atoms c.loop-atom.atom-index c.atom-item.result c.loop-atom-test.true c.atom-item.is in
    let added = c.in_ok-add_terms.ensures ∙ ap (λ ts. with_variables c.loop-atom.table (variables_of ts)) c.as_slice.ensures in
    with_terms_on (λ (a : Atom). a.args) _ _ c.atom-item.result c.loop-atom.table _ _ at added c.loop-atom.invariant
