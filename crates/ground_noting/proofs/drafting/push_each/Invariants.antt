use Rattle.std.proofs.Common.{◌≡◌, ◌<◌, ℕ, ◌++◌, map, drop}
use Rattle.lists.specs.Lists.{Each}
use Rattle.search_values.specs.Tables.{each_with}
use Rattle.ground_noting.specs.Instances.{AreBelow}
use Rattle.ground_noting.specs.Drafts.{IsDraft, nogood_of}
use Rattle.ground_noting.proofs.drafting.push_each.Given as goal

abbrev pub invariant-loop-atom : goal.invariant-loop-atom
invariant-loop-atom l =
    (map nogood_of l.drafts.items ++ each_with l.body l.positive
    (drop l.atom-index l.atoms) ≡ map nogood_of l.initial.drafts.items ++ each_with l.body l.positive l.atoms)
    × ((n : ℕ) → l.body < n → AreBelow n l.atoms → Each (IsDraft n) l.initial.drafts.items → Each (IsDraft n) l.drafts.items)
