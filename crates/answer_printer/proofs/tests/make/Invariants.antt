use Rattle.answer_printer.specs.Made.{AreMade}
use Rattle.answer_printer.proofs.tests.make.Given as goal

abbrev pub invariant-loop-atom : goal.invariant-loop-atom
invariant-loop-atom l = AreMade l.made.terms l.made.atoms l.made.stack.items
