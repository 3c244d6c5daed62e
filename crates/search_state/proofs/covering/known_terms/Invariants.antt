use Rattle.std.proofs.Common.{◌≡◌, ◌++◌, drop, map}
use Rattle.alpha_outside.specs.declared.pattern.PatternTerm.TheVariants.{Known}
use Rattle.search_state.proofs.covering.known_terms.Given as goal

abbrev pub invariant-loop-t : goal.invariant-loop-t
invariant-loop-t l = l.terms ++ map Known (drop l.t-index l.args) ≡ map Known l.args
