use Rattle.std.proofs.Common.{◌≡◌, ◌++◌, drop}
use Rattle.alpha_outside.proofs.pattern.PatternTerm.+copy.Given as goal

-- the copies and what is left are the arguments
abbrev pub invariant-loop-arg : goal.invariant-loop-arg
invariant-loop-arg l = l.copies ++ drop l.arg-index l.arg-items ≡ l.arg-items
