use Rattle.std.proofs.Common.{◌≡◌, ◌++◌, ◌≤◌, ◌-◌}
use Rattle.single_rules.specs.Signs.{variables_from}
use Rattle.choice_rewrite.proofs.signs.variables.Given as goal

abbrev pub invariant-counting : goal.invariant-counting
invariant-counting l = (l.next ≤ l.arity) × (l.terms ++ variables_from l.next (l.arity - l.next) ≡ variables_from 0 l.arity)

abbrev pub decreases-counting : goal.decreases-counting
decreases-counting l = l.arity - l.next
