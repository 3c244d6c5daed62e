use Rattle.std.proofs.Common.{◌∙◌, ap, map}
use Rattle.asp_meaning.specs.Lines.{line_of}
use Rattle.atom_pool.specs.Meanings.{atom_at}
use Rattle.answer_printer.proofs.LineLemmas.{sorted_line}
use Rattle.answer_printer.proofs.WriteLemmas.{if_ok}
use Rattle.answer_printer.proofs.line.set_line_of.Goals as goal

pub returns : goal.returns
returns c =
    if_ok c.line_in_order.result (λ line h.
    sorted_line c.args.terms.now c.args.pool.now c.args.atoms.now c.in_ok-sorted.sorted.items line c.in_ok-sorted.ensures.same c.in_ok-sorted.ensures.in_order
    (h ∙ ap (λ l. line_of (map (atom_at c.args.terms.now c.args.pool.now) l)) c.as_slice.ensures.value)) c.line_in_order.ensures
