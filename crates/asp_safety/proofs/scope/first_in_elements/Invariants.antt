use Rattle.std.proofs.Common.{drop}
use Rattle.asp_safety.specs.Binding.{element_occurrences}
use Rattle.asp_safety.proofs.Finding.{Answers}
use Rattle.asp_safety.proofs.scope.first_in_elements.Given as goal

abbrev pub invariant-loop-element : goal.invariant-loop-element
invariant-loop-element l = Answers l.scope.statement.now element_occurrences (drop l.element-index l.elements) l.elements
