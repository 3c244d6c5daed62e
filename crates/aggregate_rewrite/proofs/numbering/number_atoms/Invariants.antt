use Rattle.std.proofs.Common.{◌≡◌, ◌++◌, map, drop}
use Rattle.rewriting.specs.Numbering.{numbered_atom}
use Rattle.aggregate_rewrite.proofs.numbering.number_atoms.Given as goal

abbrev pub invariant-loop-atom : goal.invariant-loop-atom
invariant-loop-atom l = l.done ++ map (numbered_atom l.table) (drop l.atom-index l.atoms) ≡ map (numbered_atom l.table) l.atoms
