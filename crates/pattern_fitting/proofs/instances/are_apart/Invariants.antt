use Rattle.std.proofs.Common.{length}
use Rattle.std.specs.Prelude.{◌↔◌}
use Rattle.pattern_fitting.specs.Instances.{AreApart}
use Rattle.pattern_fitting.proofs.instances.are_apart.Given as goal

-- the terms are apart exactly where those that are left are
abbrev pub invariant-loop-first : goal.invariant-loop-first
invariant-loop-first l = AreApart l.rest ↔ AreApart l.terms

abbrev pub decreases-loop-first : goal.decreases-loop-first
decreases-loop-first l = length l.rest
