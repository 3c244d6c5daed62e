use Rattle.std.proofs.Common.{◌≡◌, take}
use Rattle.unification.proofs.unifying.first_of.Given as goal

abbrev pub invariant-loop-v : goal.invariant-loop-v
invariant-loop-v l = l.firsts ≡ take l.v l.terms.items
