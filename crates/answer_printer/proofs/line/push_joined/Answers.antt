use Rattle.std.proofs.Common.{◌<◌, length}
use Rattle.std.specs.Prelude.{codes}
use Rattle.asp_meaning.specs.Lines.{atom_text}
use Rattle.atom_pool.specs.Meanings.{atom_at}
use Rattle.answer_printer.proofs.WriteLemmas.{on_ok}
use Rattle.answer_printer.proofs.SeparatorLemmas.{first_and_more, not_empty}
use Rattle.answer_printer.proofs.line.push_joined.Goals as goal

pub returns : goal.returns
returns c =
    let some : 0 < length c.args.atoms.now = not_empty c.args.atoms.now c.if-is_empty.ensures in
    on_ok c.push_each_after.result (λ h. first_and_more (λ id. atom_text (atom_at c.args.terms.now c.args.pool.now id)) (codes ", ") c.args.atoms.now c.index-atoms-0.result
    c.args.text.now.items c.push_atom.new.text.items c.push_each_after.new.text.items some c.index-atoms-0.is c.in_ok-push_atom.ensures h) c.push_each_after.ensures
