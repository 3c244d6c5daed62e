use Rattle.std.proofs.Common.{◌≡◌, ◌++◌, drop}
use Rattle.alpha_outside.proofs.event.copy_patterns.Given as goal

-- the copies and what is left are the patterns
abbrev pub invariant-loop-pattern : goal.invariant-loop-pattern
invariant-loop-pattern l = l.copies ++ drop l.pattern-index l.patterns ≡ l.patterns
