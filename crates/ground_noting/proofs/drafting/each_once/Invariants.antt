use Rattle.std.proofs.Common.{◌≡◌, map, take}
use Rattle.nogood_store.specs.Stored.{atom_of}
use Rattle.ground_noting.proofs.DraftLemmas.{Kept}
use Rattle.ground_noting.proofs.drafting.each_once.Given as goal

abbrev pub invariant-loop-lit : goal.invariant-loop-lit
invariant-loop-lit l = (l.atoms.keys ≡ map atom_of l.kept.items) × Kept (take l.lit-index l.lits) l.kept.items
