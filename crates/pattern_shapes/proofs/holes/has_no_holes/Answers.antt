use Rattle.std.proofs.Common.{◌≡◌}
use Rattle.lists.proofs.Places.{∈-get_or}
use Rattle.pattern_shapes.proofs.WithoutHoles.{none_more, none_of_all}
use Rattle.pattern_shapes.proofs.holes.has_no_holes.Goals as goal

pub returns-then-not-is_without_holes-clause-no : goal.returns-then-not-is_without_holes-clause-no
returns-then-not-is_without_holes-clause-no c = λ no. (
  c.term-item.result,
  ∈-get_or c.args.terms.now c.loop-term.term-index c.term-item.result c.loop-term-test.true c.term-item.is,
  c.is_without_holes.ensures.no c.if-not-is_without_holes.true,
)

pub loop-term-preserved : goal.loop-term-preserved
loop-term-preserved c =
    none_more c.args.terms.now c.loop-term.term-index c.term-item.result c.loop-term-test.true c.term-item.is c.loop-term.invariant
    (c.is_without_holes.ensures.yes c.if-not-is_without_holes.false)

pub returns-clause-yes : goal.returns-clause-yes
returns-clause-yes c = λ yes.
    none_of_all c.args.terms.now c.loop-term.term-index c.loop-term.auto.term-index-end c.loop-term-test.false c.loop-term.invariant
