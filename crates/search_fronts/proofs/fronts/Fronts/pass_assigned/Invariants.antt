use Rattle.std.proofs.Common.{◌-◌, List}
use Rattle.atom_pool.specs.declared.instances.Made.{Made}
use Rattle.search_fronts.specs.Fronts.{AreFronts}
use Rattle.search_fronts.proofs.fronts.Fronts.pass_assigned.Given as goal

abbrev pub invariant-loop-self : goal.invariant-loop-self
invariant-loop-self l = (made : List Made) → AreFronts l.atoms.atoms made l.trail.stack l.initial.self → AreFronts l.atoms.atoms made l.trail.stack l.self

abbrev pub decreases-loop-self : goal.decreases-loop-self
decreases-loop-self l = l.end - l.self.assigned
