use Rattle.std.proofs.Common.{rules, ◌≡◌, ◌∙◌, sym, ap}
use Rattle.alpha_outside.specs.declared.pattern.PatternTerm.TheVariants as pattern
use Rattle.pattern_shapes.proofs.WithoutHoles.{none_more, none_of_all, call_has_none, call_has_one}
use Rattle.pattern_shapes.proofs.holes.+is_without_holes.Goals as goal

pub returns-then-not-is_without_holes-clause-no : goal.returns-then-not-is_without_holes-clause-no
returns-then-not-is_without_holes-clause-no t c = λ no.
    let items = c.as_slice-arg-items.result.now in
    let is : c.args.term.now ≡ pattern.Fun c.in-Fun.field-0 items = c.in-Fun.is ∙ ap (pattern.Fun c.in-Fun.field-0) (sym c.as_slice-arg-items.ensures) in
    call_has_one c.args.term.now c.in-Fun.field-0 items c.loop-arg.arg-index c.arg-item.result is c.loop-arg-test.true c.arg-item.is
    (c.is_without_holes.ensures.no c.if-not-is_without_holes.true)

pub loop-arg-preserved : goal.loop-arg-preserved
loop-arg-preserved t c =
    none_more c.as_slice-arg-items.result.now c.loop-arg.arg-index c.arg-item.result c.loop-arg-test.true c.arg-item.is c.loop-arg.invariant
    (c.is_without_holes.ensures.yes c.if-not-is_without_holes.false)

pub returns-after-loop-arg-clause-yes : goal.returns-after-loop-arg-clause-yes
returns-after-loop-arg-clause-yes t c = λ yes.
    let items = c.as_slice-arg-items.result.now in
    let is : c.args.term.now ≡ pattern.Fun c.in-Fun.field-0 items = c.in-Fun.is ∙ ap (pattern.Fun c.in-Fun.field-0) (sym c.as_slice-arg-items.ensures) in
    call_has_none c.args.term.now c.in-Fun.field-0 items is
    (none_of_all items c.loop-arg.arg-index c.loop-arg.auto.arg-index-end c.loop-arg-test.false c.loop-arg.invariant)
