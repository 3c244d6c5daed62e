use Rattle.std.proofs.Common.{◌≡◌, ℕ, drop}
use Rattle.unification.proofs.Openings.{IsOpening}
use Rattle.term_eval.proofs.Sizes.{term_size}
use Rattle.unification.proofs.opening.+opened.Given as goal

abbrev pub decreases-opened : goal.decreases-opened
decreases-opened l = term_size l.term.now

abbrev pub invariant-loop-arg : goal.invariant-loop-arg
invariant-loop-arg l = IsOpening l.fn.pool l.pool l.fn.next l.next l.arg-items (drop l.arg-index l.arg-items) l.parts
