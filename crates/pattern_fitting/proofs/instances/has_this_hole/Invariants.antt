use Rattle.std.proofs.Common.{drop}
use Rattle.std.specs.Prelude.{◌↔◌}
use Rattle.lists.specs.Lists.{◌∈◌}
use Rattle.alpha_outside.specs.declared.pattern.PatternTerm.TheVariants.{Hole}
use Rattle.pattern_fitting.proofs.instances.has_this_hole.Given as goal

-- the hole is one of the terms exactly where it is one of those that are left
abbrev pub invariant-loop-term : goal.invariant-loop-term
invariant-loop-term l = (Hole l.hole ∈ drop l.term-index l.terms) ↔ (Hole l.hole ∈ l.terms)
