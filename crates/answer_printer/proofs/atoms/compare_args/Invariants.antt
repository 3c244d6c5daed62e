use Rattle.std.proofs.Common.{◌≡◌, map, drop}
use Rattle.asp_meaning.specs.Orders.{values_cmp}
use Rattle.term_pool.specs.Nodes.{value_at}
use Rattle.answer_printer.proofs.atoms.compare_args.Given as goal

abbrev pub invariant-loop-place : goal.invariant-loop-place
invariant-loop-place l =
    values_cmp (map (value_at l.terms) (drop l.place l.xs)) (map (value_at l.terms) (drop l.place l.ys)) ≡ values_cmp (map (value_at l.terms) l.xs) (map (value_at l.terms) l.ys)
