use Rattle.std.proofs.Common.{◌∙◌, ap, not, true≢false, length}
use borrow.Author.Tests.{eq-eqb}
use Rattle.std.proofs.lemmas.Option.{slice_get_read}
use Rattle.term_pool.proofs.order.first_apart.Goals as goal

pub returns-then-ne : goal.returns-then-ne
returns-then-ne c = record {
  place = c.loop-place.place;
  before = c.loop-place.invariant;
  left = slice_get_read c.args.xs.now (length c.args.xs.now) c.loop-place.place c.index-xs-place.result (λ i. length c.args.xs.now) c.loop-place-test.true c.index-xs-place.is;
  right = slice_get_read c.args.ys.now (length c.args.xs.now) c.loop-place.place c.index-ys-place.result c.requires c.loop-place-test.true c.index-ys-place.is;
  apart = λ e. true≢false (c.if-ne.ensures ∙ ap not (eq-eqb c.index-xs-place.result c.index-ys-place.result e));
}
