use Rattle.std.proofs.Common.{◌≡◌, ◌++◌, map, take}
use Rattle.nogood_store.specs.Matching.{Matches}
use Rattle.ground_noting.specs.Drafts.{stored_of}
use Rattle.ground_noting.proofs.making.store_all.Given as goal

abbrev pub invariant-loop-draft : goal.invariant-loop-draft
invariant-loop-draft l = (l.nogoods ≡ l.fn.nogoods ++ map stored_of (take l.draft-index l.drafts)) × Matches l.nogoods l.trail
