use Rattle.std.proofs.Common.{◌≡◌, ◌<◌, length}
use Rattle.asp_meaning.specs.Orders.{value_cmp}
use Rattle.term_pool.specs.Nodes.{value_at}
use Rattle.term_pool.proofs.places.compare_terms.Given as goal

abbrev pub invariant-loop-order : goal.invariant-loop-order
invariant-loop-order l =
    (l.left < length l.nodes) × (l.right < length l.nodes) × (value_cmp (value_at l.nodes l.left) (value_at l.nodes l.right) ≡ value_cmp (value_at l.nodes l.fn.a) (value_at l.nodes l.fn.b))

abbrev pub decreases-loop-order : goal.decreases-loop-order
decreases-loop-order l = l.left
