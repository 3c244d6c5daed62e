use Rattle.std.proofs.Common.{◌≡◌, drop}
use Rattle.asp_safety.specs.Binding.{variables_of}
use Rattle.rewriting.specs.Numbering.{with_variables}
use Rattle.aggregate_rewrite.specs.Lifters.{atoms_terms}
use Rattle.aggregate_rewrite.proofs.rule_table.add_atoms.Given as goal

abbrev pub invariant-loop-atom : goal.invariant-loop-atom
invariant-loop-atom l = with_variables l.table (variables_of (atoms_terms (drop l.atom-index l.atoms))) ≡ with_variables l.initial.table (variables_of (atoms_terms l.atoms))
