use Rattle.std.proofs.Common.{◌≡◌, ◌+◌, List, length}
use Rattle.asp_safety.specs.declared.clause.Clause.{Clause}
use Rattle.asp_safety.specs.Settling.{IsSettling, waiting_count}
use Rattle.asp_safety.proofs.agenda.Agenda.place_all.Given as goal

abbrev pub invariant-placing : goal.invariant-placing
invariant-placing l = record {
  settling : (all : List Clause) → IsSettling l.known.given.now.keys l.known.found.keys l.initial.self.fresh l.initial.self.waiting all l.fn.clauses
      → IsSettling l.known.given.now.keys l.known.found.keys l.self.fresh l.self.waiting all l.clauses;
  count : waiting_count l.self.waiting + length l.self.fresh + length l.clauses ≡ waiting_count l.initial.self.waiting + length l.initial.self.fresh + length l.fn.clauses;
}

abbrev pub decreases-placing : goal.decreases-placing
decreases-placing l = length l.clauses
