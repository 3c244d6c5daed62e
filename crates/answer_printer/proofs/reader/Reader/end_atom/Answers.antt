use Rattle.std.proofs.Common.{sym, subst, map, length, ◌<◌, [], false}
use Rattle.std.specs.Prelude.{All}
use Rattle.term_pool.specs.Nodes.{value_at}
use Rattle.answer_printer.specs.declared.phase.Phase.TheVariants.{Whole}
use Rattle.answer_printer.specs.Machine.{ended}
use Rattle.answer_printer.specs.Readers.{StandsIn}
use Rattle.answer_printer.proofs.ReaderLemmas.{atom_ends}
use Rattle.answer_printer.proofs.reader.Reader.end_atom.Goals as goal

pub returns : goal.returns
returns c = λ s h.
    subst (λ xs. StandsIn (record { terms = c.args.self.now.terms; atoms = c.intern.new.self; negated = false; calls = c.args.self.now.calls; phase = Whole }) (ended c.args.name (map (value_at c.args.self.now.terms) xs) [] s)) c.as_slice.ensures
    (atom_ends c.args.self.now s c.pred.new.self c.intern.new.self c.args.name _ c.in_ok-pred.pred c.as_slice.result.now c.in_ok-intern.field-0
    c.in_ok-pred.ensures.ok c.in_ok-pred.ensures.atoms c.in_ok-intern.ensures.ok c.in_ok-intern.ensures.preds c.in_ok-intern.ensures.pool
    (subst (λ xs. All (λ a. a < length c.args.self.now.terms) xs) (sym c.as_slice.ensures) c.requires.args) c.requires.outside h)
