use Rattle.std.proofs.Common.{◌∙◌, sym}
use Rattle.term_pool.proofs.CompareLemmas.{by_length, by_name, same_calls, by_parts, not_equal, is_equal}
use Rattle.term_pool.proofs.order.order_of_calls.Goals as goal

pub returns-then-ne : goal.returns-then-ne
returns-then-ne c = by_length c.args.f.now c.args.g.now c.args.xs.now c.args.ys.now c.cmp-by_length.result c.requires.left c.requires.right c.cmp-by_length.ensures (not_equal c.cmp-by_length.result c.if-ne.ensures)

pub returns-then-ne-2 : goal.returns-then-ne-2
returns-then-ne-2 c =
    by_name c.args.f.now c.args.g.now c.args.xs.now c.args.ys.now c.cmp-by_name.result c.requires.left c.requires.right (sym c.cmp-by_length.ensures ∙ is_equal c.cmp-by_length.result c.if-ne.ensures)
    c.cmp-by_name.ensures (not_equal c.cmp-by_name.result c.if-ne-2.ensures)

pub returns-in-None : goal.returns-in-None
returns-in-None c =
    same_calls c.args.f.now c.args.g.now c.args.xs.now c.args.ys.now c.requires.left c.requires.right (sym c.cmp-by_length.ensures ∙ is_equal c.cmp-by_length.result c.if-ne.ensures)
    (sym c.cmp-by_name.ensures ∙ is_equal c.cmp-by_name.result c.if-ne-2.ensures) c.in-None.ensures

pub returns-in-Some : goal.returns-in-Some
returns-in-Some c =
    by_parts c.args.f.now c.args.g.now c.args.xs.now c.args.ys.now _ _ c.requires.left c.requires.right (sym c.cmp-by_length.ensures ∙ is_equal c.cmp-by_length.result c.if-ne.ensures)
    (sym c.cmp-by_name.ensures ∙ is_equal c.cmp-by_name.result c.if-ne-2.ensures) c.in-Some.ensures
