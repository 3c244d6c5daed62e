use Rattle.std.proofs.Common.{◌∙◌, ap, ◌++◌}
use Rattle.std.specs.Prelude.{codes}
use Rattle.answer_printer.proofs.LineLemmas.{in_braces}
use Rattle.answer_printer.proofs.line.line_in_order.Goals as goal

pub returns : goal.returns
returns c =
    c.from_vec.ensures
    ∙ in_braces c.args.terms.now c.args.pool.now c.args.atoms.now c.extend_from_slice.new.self.items c.push_joined.new.text.items c.extend_from_slice-2.new.self.items
    (c.in_ok-extend_from_slice.ensures.items ∙ ap (λ l. l ++ codes "{") c.new-text.ensures.items) c.in_ok-push_joined.ensures c.in_ok-extend_from_slice-2.ensures.items
