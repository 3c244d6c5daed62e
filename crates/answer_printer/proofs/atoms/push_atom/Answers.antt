use Rattle.answer_printer.proofs.WriteLemmas.{on_ok}
use Rattle.answer_printer.proofs.AtomLemmas.{atom_written}
use Rattle.answer_printer.proofs.atoms.push_atom.Goals as goal

pub returns : goal.returns
returns c =
    let parts = c.parts_of-negated in
    on_ok c.push_args.result (λ h. atom_written c.args.terms.now c.args.pool.now c.args.id parts.result.negated parts.result.name.now parts.result.args.now
    c.args.text.now.items c.push_sign.new.text.items c.extend_from_slice.new.self.items c.push_args.new.text.items
    (parts.ensures.atom c.args.terms.now) c.in_ok-push_sign.ensures c.in_ok-extend_from_slice.ensures.items h) c.push_args.ensures
