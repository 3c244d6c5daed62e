use Rattle.std.proofs.Common.{◌≡◌, ℕ, drop}
use Rattle.unification.proofs.Openings.{IsOpening}
use Rattle.unification.proofs.Unifier.{own_known}
use Rattle.unification.proofs.unifying.opened_all.Given as goal

abbrev pub invariant-loop-arg : goal.invariant-loop-arg
invariant-loop-arg l = IsOpening l.fn.pool l.pool l.fn.next l.next l.args (drop l.arg-index l.args) l.terms
