use Rattle.std.proofs.Common.{ap, ◌∙◌}
use Rattle.asp_safety.specs.Binding.{variables_of}
use Rattle.rewriting.specs.Numbering.{with_variables, atom_terms}
use Rattle.aggregate_rewrite.specs.Lifters.{atoms_terms, tests_terms}
use Rattle.aggregate_rewrite.proofs.TableLemmas.{with_five}
use Rattle.aggregate_rewrite.proofs.rule_table.table_of.Goals as goal

pub returns : goal.returns
returns c =
    let rule = c.args.rule.now in
    let body = c.args.body.now in
    let pos = c.in_ok-add_atoms.ensures ∙ ap (λ atoms. with_variables c.add_head.new.table (variables_of (atoms_terms atoms))) c.as_slice.ensures in
    let neg = c.in_ok-add_atoms-2.ensures ∙ ap (λ atoms. with_variables c.add_atoms.new.table (variables_of (atoms_terms atoms))) c.as_slice-2.ensures in
    let tests = c.in_ok-add_tests.ensures ∙ ap (λ tests. with_variables c.add_atoms-2.new.table (variables_of (tests_terms tests))) c.as_slice-3.ensures in
    let defined = c.in_ok-add_terms.ensures ∙ ap (λ ts. with_variables c.add_tests.new.table (variables_of ts)) c.as_slice-4.ensures in
    let head = c.in_ok-add_head.ensures ∙ ap (λ table. with_variables table (variables_of (atom_terms rule.head))) c.new-table.ensures in
    with_five _ c.add_head.new.table c.add_atoms.new.table c.add_atoms-2.new.table c.add_tests.new.table c.add_terms.new.self (atom_terms rule.head) (atoms_terms body.pos) (atoms_terms body.neg) (tests_terms body.tests) rule.defined head pos neg tests defined
