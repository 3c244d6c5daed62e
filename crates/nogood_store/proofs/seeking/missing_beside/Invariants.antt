use Rattle.std.proofs.Common.{◌≡◌, take}
use Rattle.std.specs.Prelude.{Some}
use Rattle.lists.specs.Lists.{◌∈◌}
use Rattle.alpha_outside.specs.declared.literal.Lit.{Lit}
use Rattle.search_values.specs.Values.{Holds}
use Rattle.nogood_store.proofs.seeking.missing_beside.Given as goal

abbrev pub invariant-loop-l : goal.invariant-loop-l
invariant-loop-l l = (k : Lit) → k ∈ take l.l-index l.lits → (¬ (l.beside ≡ Some k)) → Holds l.trail.stack k
