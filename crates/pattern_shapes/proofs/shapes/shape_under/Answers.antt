use Rattle.std.proofs.Common.{◌≡◌, ◌<◌, ap, subst, sym, ◌∙◌}
use Rattle.lists.specs.Lists.{◌∈◌}
use Rattle.lists.proofs.Places.{∈-get_or}
use Rattle.pattern_shapes.specs.Shapes.{AreTermsUnder}
use Rattle.pattern_shapes.proofs.Under.{none_first, none_formed, all_fine, one_fine, one_more, all_under}
use Rattle.term_eval.proofs.Kept.{grows_none, kept_none, grows_on, kept_on}
use Rattle.pattern_shapes.proofs.shapes.shape_under.Goals as goal

pub loop-arg-init : goal.loop-arg-init
loop-arg-init c = record {
  grows = grows_none c.args.pool.now;
  kept = kept_none c.args.pool.now;
  pool = c.len.ensures.pool;
  formed = none_formed c.args.pool.now c.new-args.result c.new-args.ensures;
  first = none_first c.args.pool.now c.args.terms.now.items c.new-args.result c.new-args.ensures;
}

pub term_under-requires-clause-below : goal.term_under-requires-clause-below
term_under-requires-clause-below c =
    c.requires.below c.arg-item.result (subst (λ ts. c.arg-item.result ∈ ts) c.as_slice-arg-items.ensures
    (∈-get_or c.as_slice-arg-items.result.now c.loop-arg.arg-index c.arg-item.result c.loop-arg-test.true c.arg-item.is))

pub term_under-requires-clause-formed : goal.term_under-requires-clause-formed
term_under-requires-clause-formed c = all_fine c.args.pool.now c.loop-arg.pool c.loop-arg.invariant.kept c.args.terms.now.items c.requires.formed

pub loop-arg-preserved : goal.loop-arg-preserved
loop-arg-preserved c = record {
  grows = grows_on c.args.pool.now c.loop-arg.pool c.term_under.new.pool c.loop-arg.invariant.grows c.term_under.ensures.grows;
  kept = kept_on c.args.pool.now c.loop-arg.pool c.term_under.new.pool c.loop-arg.invariant.kept c.term_under.ensures.kept;
  pool = c.term_under.ensures.pool;
  formed = one_fine c.loop-arg.pool c.term_under.new.pool c.term_under.ensures.kept c.loop-arg.args c.in_ok-term_under.field-0 c.push.new.self
      c.loop-arg.invariant.formed c.in_ok-term_under.ensures.formed c.in_ok-push.ensures.ok;
  first = one_more c.loop-arg.pool c.term_under.new.pool c.args.terms.now.items c.as_slice-arg-items.result.now c.loop-arg.args c.push.new.self
      c.loop-arg.arg-index c.arg-item.result c.in_ok-term_under.field-0 c.loop-arg-test.true c.arg-item.is c.term_under.ensures.kept
      c.loop-arg.invariant.first c.in_ok-term_under.ensures.value c.in_ok-push.ensures.ok;
}

pub returns-clause-values : goal.returns-clause-values
returns-clause-values c =
    subst (λ ts. AreTermsUnder c.loop-arg.pool c.args.terms.now.items ts c.loop-arg.args) c.as_slice-arg-items.ensures
    (all_under c.loop-arg.pool c.args.terms.now.items c.as_slice-arg-items.result.now c.loop-arg.args c.loop-arg.arg-index
    c.loop-arg.auto.arg-index-end c.loop-arg-test.false c.loop-arg.invariant.first)
