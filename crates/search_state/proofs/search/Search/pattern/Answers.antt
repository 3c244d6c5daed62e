use Rattle.std.proofs.Common.{sym, subst, ap, ◌∙◌, map}
use Rattle.alpha_outside.specs.declared.pattern.PatternTerm.TheVariants.{Known}
use Rattle.search_state.specs.contracts.search.Search.{the_view}
use Rattle.search_state.specs.Searching.{Searching, IsAllTold}
use Rattle.search_state.specs.Underivable.{IsPatternAt}
use Rattle.search_state.proofs.Underivables.{pattern_is}
use Rattle.search_state.proofs.search.Search.pattern.Goals as goal

pub returns : goal.returns
returns c =
    subst (λ (v : Searching). IsPatternAt v c.args.id
    (record { pred = c.in_ok-copy-in-Named.field-0; args = c.in_ok-known_terms-in-Named.field-0; except = c.new.result })) c.self.view_is
    (pattern_is (the_view c.self.inside) (subst IsAllTold (sym c.self.view_is) c.requires.told) c.self.invariant.0.built
    c.self.invariant.0.searchable.no_aggregates c.args.id c.in-Named.pred c.in-Named.args c.pred_at.result.now c.get.result.now
    c.get.ensures.there c.in-Named.is c.get.ensures.fits c.pred_at.ensures _ c.in_ok-copy-in-Named.ensures
    (c.in_ok-known_terms-in-Named.ensures ∙ ap (map Known) c.as_slice.ensures) c.new.ensures)
