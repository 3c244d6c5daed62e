use Rattle.std.proofs.Common.{sym, subst, length}
use Rattle.std.specs.Prelude.{OnOk}
use Rattle.answer_printer.specs.Pieces.{IsPrinted, IsWithin}
use Rattle.answer_printer.proofs.WriteLemmas.{on_ok, node_printed, after_comma}
use Rattle.answer_printer.proofs.terms.write_piece.Goals as goal

pub returns-in-Term : goal.returns-in-Term
returns-in-Term c =
    subst (λ p. OnOk c.write_node.result (IsPrinted c.args.terms.now p c.args.text.now.items c.args.stack.now.items c.write_node.new.text.items c.write_node.new.stack.items)) (sym c.in-Term.is)
    (on_ok c.write_node.result (node_printed c.args.terms.now c.in-Term.id c.node_at.result.now c.args.text.now.items c.args.stack.now.items c.write_node.new.text.items c.write_node.new.stack.items
    (subst (IsWithin (length c.args.terms.now)) c.in-Term.is c.requires.piece) c.node_at.ensures.parts c.node_at.ensures.value c.requires.stack) c.write_node.ensures)

pub returns-in_ok-extend_from_slice-in-Next : goal.returns-in_ok-extend_from_slice-in-Next
returns-in_ok-extend_from_slice-in-Next c =
    let w = c.write_node-in-Next in
    subst (λ p. OnOk w.result (IsPrinted c.args.terms.now p c.args.text.now.items c.args.stack.now.items w.new.text.items w.new.stack.items)) (sym c.in-Next.is)
    (on_ok w.result (λ h. after_comma c.args.terms.now c.in-Next.id c.args.text.now.items c.extend_from_slice.new.self.items c.args.stack.now.items w.new.text.items w.new.stack.items
    c.in_ok-extend_from_slice-in-Next.ensures.items
    (node_printed c.args.terms.now c.in-Next.id c.node_at-in-Next.result.now c.extend_from_slice.new.self.items c.args.stack.now.items w.new.text.items w.new.stack.items
    (subst (IsWithin (length c.args.terms.now)) c.in-Next.is c.requires.piece) c.node_at-in-Next.ensures.parts c.node_at-in-Next.ensures.value c.requires.stack h)) w.ensures)
