use Rattle.pattern_covers.proofs.BaseLemmas.{HasRead}
use Rattle.pattern_covers.proofs.base.base_values.Given as goal

abbrev pub invariant-loop-entry : goal.invariant-loop-entry
invariant-loop-entry l = HasRead l.fn.trail.atoms l.fn.trail.stack l.entry-index l.values.items
