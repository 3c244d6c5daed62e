use Rattle.std.proofs.Common.{drop}
use Rattle.asp_safety.specs.Binding.{item_occurrences}
use Rattle.asp_safety.proofs.Finding.{Answers}
use Rattle.asp_safety.proofs.scope.first_in_body.Given as goal

abbrev pub invariant-loop-item : goal.invariant-loop-item
invariant-loop-item l = Answers l.scope.statement.now item_occurrences (drop l.item-index l.body) l.body
