use Rattle.answer_printer.proofs.TestLemmas.{atom_made}
use Rattle.answer_printer.proofs.tests.Made.add.Goals as goal

pub returns : goal.returns
returns c =
    atom_made c.args.self.now.terms c.args.self.now.atoms c.pred.new.self c.intern.new.self c.args.self.now.stack.items c.args.negated c.args.name c.args.arity
    c.in_ok-pred.pred c.args.args.now _ c.in_ok-pred.ensures.ok c.in_ok-pred.ensures.atoms c.in_ok-intern.ensures.ok c.in_ok-intern.ensures.preds c.requires.within c.requires.made
