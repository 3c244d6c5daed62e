use Rattle.std.proofs.Common.{drop}
use Rattle.asp_safety.specs.Binding.{choice_occurrences}
use Rattle.asp_safety.proofs.Finding.{Answers}
use Rattle.asp_safety.proofs.scope.first_in_choices.Given as goal

abbrev pub invariant-loop-choice : goal.invariant-loop-choice
invariant-loop-choice l = Answers l.scope.statement.now choice_occurrences (drop l.choice-index l.choices) l.choices
