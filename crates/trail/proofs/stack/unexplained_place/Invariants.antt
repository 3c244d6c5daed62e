use Rattle.std.proofs.Common.{◌≡◌, ℕ, ◌≤◌, ◌++◌, length, reverse, take, drop}
use Rattle.trail.specs.Assigning.{explained_newest}
use Rattle.trail.proofs.stack.unexplained_place.Given as goal

abbrev pub invariant-loop-left : goal.invariant-loop-left
invariant-loop-left l =
    (l.left ≤ length l.entries.items)
    × ((n : ℕ) → explained_newest l.a n (reverse l.entries.items) ≡ reverse (drop l.left l.entries.items) ++ explained_newest l.a n (reverse (take l.left l.entries.items)))

abbrev pub decreases-loop-left : goal.decreases-loop-left
decreases-loop-left l = l.left
