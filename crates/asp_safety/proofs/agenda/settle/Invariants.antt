use Rattle.std.proofs.Common.{◌≡◌, ◌+◌, [], length}
use Rattle.asp_safety.specs.Settling.{IsSettling, waiting_count}
use Rattle.asp_safety.proofs.agenda.settle.Given as goal

abbrev pub invariant-settling : goal.invariant-settling
invariant-settling l = record {
  given : l.known.given.now.keys ≡ l.given.keys;
  settling : IsSettling l.known.given.now.keys l.known.found.keys l.agenda.fresh l.agenda.waiting l.fn.clauses [];
}

abbrev pub decreases-settling : goal.decreases-settling
decreases-settling l = waiting_count l.agenda.waiting + length l.agenda.fresh
