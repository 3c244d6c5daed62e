use Rattle.answer_printer.specs.Made.{AreMade}
use Rattle.answer_printer.proofs.tests.Made.steps.Given as goal

abbrev pub invariant-loop-step : goal.invariant-loop-step
invariant-loop-step l = AreMade l.self.terms l.self.atoms l.self.stack.items
