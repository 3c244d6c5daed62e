use Rattle.std.proofs.Common.{◌≡◌, drop}
use Rattle.asp_safety.specs.Binding.{variables_of}
use Rattle.rewriting.specs.Numbering.{with_variables}
use Rattle.aggregate_rewrite.specs.Lifters.{tests_terms}
use Rattle.aggregate_rewrite.proofs.rule_table.add_tests.Given as goal

abbrev pub invariant-loop-test : goal.invariant-loop-test
invariant-loop-test l = with_variables l.table (variables_of (tests_terms (drop l.test-index l.tests))) ≡ with_variables l.initial.table (variables_of (tests_terms l.tests))
