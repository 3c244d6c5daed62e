use Rattle.std.proofs.Common.{ap, ◌∙◌}
use Rattle.asp_safety.specs.Binding.{variables_of}
use Rattle.single_rules.specs.Renaming.{marks_above, numbers_above}
use Rattle.choice_rewrite.proofs.ListedNames.{found_names}
use Rattle.choice_rewrite.proofs.renaming.names_of.Goals as goal

pub returns : goal.returns
returns c = found_names c.args.statement.now c.args.defined.now c.in_ok-terms.terms c.in_ok-globals.globals.keys _ c.new-keys.result c.marks_in-marks.result c.numbers_in-numbers.result
    c.requires c.new-keys.ensures c.in_ok-push_all.ensures c.in_ok-globals.ensures c.in_ok-terms.ensures (c.marks_in-marks.ensures ∙ ap (λ ts. marks_above (variables_of ts)) c.as_slice.ensures) (c.numbers_in-numbers.ensures ∙ ap (λ ts. numbers_above (variables_of ts)) c.as_slice-2.ensures)
