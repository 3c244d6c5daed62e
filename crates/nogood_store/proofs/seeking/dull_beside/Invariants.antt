use Rattle.std.proofs.Common.{◌≡◌, take}
use Rattle.lists.specs.Lists.{◌∈◌}
use Rattle.alpha_outside.specs.declared.literal.Lit.{Lit}
use Rattle.search_values.specs.Values.{HoldsFully}
use Rattle.nogood_store.proofs.seeking.dull_beside.Given as goal

abbrev pub invariant-loop-l : goal.invariant-loop-l
invariant-loop-l l = (k : Lit) → k ∈ take l.l-index l.lits → (¬ (k.atom ≡ l.head)) → HoldsFully l.trail.stack k
