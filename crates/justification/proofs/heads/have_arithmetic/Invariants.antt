use Rattle.std.proofs.Common.{◌≡◌, drop}
use Rattle.std.specs.List.{list_any}
use Rattle.core_rules.specs.Variables.{has_arithmetic}
use Rattle.justification.proofs.heads.have_arithmetic.Given as goal

abbrev pub invariant-loop-term : goal.invariant-loop-term
invariant-loop-term l = list_any has_arithmetic (drop l.term-index l.terms) ≡ list_any has_arithmetic l.terms
