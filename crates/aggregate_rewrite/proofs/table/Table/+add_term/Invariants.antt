use Rattle.std.proofs.Common.{◌≡◌, map, drop}
use Rattle.lists.specs.Lists.{concat}
use Rattle.asp_meaning.specs.Variables.{variables}
use Rattle.rewriting.specs.Numbering.{with_variables}
use Rattle.aggregate_rewrite.proofs.table.Table.+add_term.Given as goal

abbrev pub invariant-loop-arg : goal.invariant-loop-arg
invariant-loop-arg l = with_variables l.self (concat (map variables (drop l.arg-index l.arg-items))) ≡ with_variables l.initial.self (concat (map variables l.arg-items))
