use Rattle.std.proofs.Common.{◌≡◌, ◌≤◌, List, length, take, reverse}
use Rattle.search_values.specs.Values.{back_to}
use Rattle.atom_pool.specs.declared.instances.Made.{Made}
use Rattle.search_fronts.specs.Fronts.{AreFronts, HaveBodies}
use Rattle.search_fronts.proofs.fronts.Fronts.take_back.Given as goal

abbrev pub invariant-loop-left : goal.invariant-loop-left
invariant-loop-left l = record {
  within : l.left ≤ length l.entries;
  same : back_to l.level (reverse (take l.left l.entries)) ≡ back_to l.level l.trail.stack;
  are : (made : List Made) → HaveBodies l.atoms.atoms made → AreFronts l.atoms.atoms made l.trail.stack l.initial.self
      → AreFronts l.atoms.atoms made (reverse (take l.left l.entries)) l.self;
}

abbrev pub decreases-loop-left : goal.decreases-loop-left
decreases-loop-left l = l.left
