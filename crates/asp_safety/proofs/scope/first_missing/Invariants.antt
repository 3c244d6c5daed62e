use Rattle.std.proofs.Common.{ℕ, List, Option, drop}
use Rattle.asp_safety.specs.Walks.{Misses}
use Rattle.asp_safety.proofs.scope.first_missing.Given as goal

abbrev pub invariant-loop-key : goal.invariant-loop-key
invariant-loop-key l = (o : Option (List ℕ)) → Misses l.given.keys l.bound.keys (drop l.key-index l.keys) o → Misses l.given.keys l.bound.keys l.keys o
