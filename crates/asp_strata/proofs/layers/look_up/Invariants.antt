use Rattle.std.proofs.Common.{◌≡◌, drop}
use Rattle.asp_strata.specs.Strata.{stratum_in}
use Rattle.asp_strata.proofs.layers.look_up.Given as goal

abbrev pub invariant-loop-place : goal.invariant-loop-place
invariant-loop-place l = stratum_in (drop l.place l.predicates) (drop l.place l.strata) (record { negated = l.negated; name = l.name; arity = l.arity }) ≡ stratum_in l.predicates l.strata (record { negated = l.negated; name = l.name; arity = l.arity })
