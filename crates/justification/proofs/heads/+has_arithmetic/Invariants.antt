use Rattle.std.proofs.Common.{◌≡◌, map, drop}
use Rattle.std.specs.List.{list_any}
use Rattle.core_rules.specs.Variables.{has_arithmetic}
use Rattle.justification.proofs.heads.+has_arithmetic.Given as goal

abbrev pub invariant-loop-arg : goal.invariant-loop-arg
invariant-loop-arg l = list_any (λ there. there) (map has_arithmetic (drop l.arg-index l.arg-items)) ≡ list_any (λ there. there) (map has_arithmetic l.arg-items)
