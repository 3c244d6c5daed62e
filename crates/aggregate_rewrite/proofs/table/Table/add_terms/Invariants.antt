use Rattle.std.proofs.Common.{◌≡◌, map, drop}
use Rattle.lists.specs.Lists.{concat}
use Rattle.asp_meaning.specs.Variables.{variables}
use Rattle.rewriting.specs.Numbering.{with_variables}
use Rattle.aggregate_rewrite.proofs.table.Table.add_terms.Given as goal

abbrev pub invariant-loop-term : goal.invariant-loop-term
invariant-loop-term l = with_variables l.self (concat (map variables (drop l.term-index l.terms))) ≡ with_variables l.initial.self (concat (map variables l.terms))
