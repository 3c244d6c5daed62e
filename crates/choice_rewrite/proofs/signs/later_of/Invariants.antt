use Rattle.std.proofs.Common.{◌≡◌, ◌++◌, [], drop}
use Rattle.single_rules.specs.Signs.{later_signs}
use Rattle.choice_rewrite.proofs.signs.later_of.Given as goal

abbrev pub invariant-loop-predicate : goal.invariant-loop-predicate
invariant-loop-predicate l = l.signs.later ++ later_signs l.signs.seen.keys (drop l.predicate-index l.predicates) ≡ later_signs [] l.predicates
