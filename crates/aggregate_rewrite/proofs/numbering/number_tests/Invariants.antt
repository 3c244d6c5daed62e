use Rattle.std.proofs.Common.{◌≡◌, ◌++◌, map, drop}
use Rattle.rewriting.specs.Numbering.{numbered_test}
use Rattle.aggregate_rewrite.proofs.numbering.number_tests.Given as goal

abbrev pub invariant-loop-test : goal.invariant-loop-test
invariant-loop-test l = l.done ++ map (numbered_test l.table) (drop l.test-index l.tests) ≡ map (numbered_test l.table) l.tests
