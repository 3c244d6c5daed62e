use Rattle.std.proofs.Common.{◌≡◌, ◌++◌, drop}
use Rattle.alpha_outside.proofs.pattern.copy_terms.Given as goal

-- the copies and what is left are the terms
abbrev pub invariant-loop-term : goal.invariant-loop-term
invariant-loop-term l = l.copies ++ drop l.term-index l.terms ≡ l.terms
