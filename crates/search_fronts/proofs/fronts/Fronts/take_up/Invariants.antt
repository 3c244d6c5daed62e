use Rattle.std.proofs.Common.{◌≡◌, ◌++◌, List, length, take, reverse}
use Rattle.search_values.specs.declared.entry.Entry.{Entry}
use Rattle.atom_pool.specs.declared.atom.AtomNode.{AtomNode}
use Rattle.atom_pool.specs.declared.instances.Made.{Made}
use Rattle.search_fronts.specs.Fronts.{AreFronts}
use Rattle.search_fronts.proofs.fronts.Fronts.take_up.Given as goal

abbrev pub invariant-loop-i : goal.invariant-loop-i
invariant-loop-i l = (atoms : List AtomNode) (made : List Made) (above rest : List Entry) → l.trail.stack ≡ above ++ rest → length rest ≡ l.from
    → AreFronts atoms made rest l.initial.self → AreFronts atoms made (reverse (take l.i l.entries)) l.self
