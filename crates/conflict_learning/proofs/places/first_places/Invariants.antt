use Rattle.std.proofs.Common.{◌≡◌, ℕ, ◌-◌, ◌<◌, ◌≤◌, length, reverse, take, get_or, None}
use Rattle.conflict_learning.specs.FirstValues.{first_place}
use Rattle.conflict_learning.proofs.places.first_places.Given as goal

abbrev pub invariant-loop-next : goal.invariant-loop-next
invariant-loop-next l =
    (length l.places.items ≡ l.trail.atoms) × (l.next ≤ length l.entries)
    × ((a : ℕ) → a < l.trail.atoms → get_or l.places.items a None ≡ first_place (reverse (take l.next l.entries)) a)

abbrev pub decreases-loop-next : goal.decreases-loop-next
decreases-loop-next l = length l.entries - l.next
