use Rattle.std.proofs.Common.{◌≡◌, ◌+◌, sym, ◌∙◌, inl, inr, arith}
use Rattle.search_fronts.proofs.Closing.{unclosed_kept, unclosed_next}
use Rattle.search_fronts.proofs.fronts.unclosed_with.Goals as goal

pub returns-then-is_closed : goal.returns-then-is_closed
returns-then-is_closed c = λ rest counts is.
    unclosed_kept c.args.entry.now rest c.args.unclosed (inl (sym c.is_closed.ensures ∙ c.if-is_closed.true)) is

pub returns-then-unclosed-count : goal.returns-then-unclosed-count
returns-then-unclosed-count c = λ rest counts is.
    let here = c.if-unclosed-count.true in
    let one : c.args.count ≡ c.args.unclosed + 1 = omega (arith, here, counts) in
    one ∙ unclosed_next c.args.entry.now rest c.args.unclosed (sym c.is_closed.ensures ∙ c.if-is_closed.false) (omega (arith, here, counts)) is

pub returns-else-unclosed-count : goal.returns-else-unclosed-count
returns-else-unclosed-count c = λ rest counts is.
    let other = c.if-unclosed-count.false in
    unclosed_kept c.args.entry.now rest c.args.unclosed (inr (λ all. other (omega (arith, all, counts)))) is
