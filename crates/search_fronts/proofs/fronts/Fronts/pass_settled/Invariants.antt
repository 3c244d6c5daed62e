use Rattle.std.proofs.Common.{◌-◌, List}
use Rattle.atom_pool.specs.declared.atom.AtomNode.{AtomNode}
use Rattle.search_fronts.specs.Fronts.{AreFronts}
use Rattle.search_fronts.proofs.fronts.Fronts.pass_settled.Given as goal

abbrev pub invariant-loop-self : goal.invariant-loop-self
invariant-loop-self l = (atoms : List AtomNode) → AreFronts atoms l.instances l.trail.stack l.initial.self → AreFronts atoms l.instances l.trail.stack l.self

abbrev pub decreases-loop-self : goal.decreases-loop-self
decreases-loop-self l = l.end - l.self.settled
