use Rattle.std.specs.Prelude.{codes}
use Rattle.asp_meaning.specs.Lines.{atom_text}
use Rattle.atom_pool.specs.Meanings.{atom_at}
use Rattle.answer_printer.proofs.SeparatorLemmas.{one_more}
use Rattle.answer_printer.proofs.line.push_each_after.Goals as goal

pub loop-atom-preserved : goal.loop-atom-preserved
loop-atom-preserved c =
    one_more (λ id. atom_text (atom_at c.args.terms.now c.args.pool.now id)) (codes ", ") c.args.atoms.now c.loop-atom.atom-index c.atom-item.result
    c.args.text.now.items c.loop-atom.text.items c.extend_from_slice.new.self.items c.push_atom.new.text.items
    c.loop-atom-test.true c.atom-item.is c.loop-atom.invariant c.in_ok-extend_from_slice.ensures.items c.in_ok-push_atom.ensures
