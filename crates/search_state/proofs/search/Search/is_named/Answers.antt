use Rattle.std.proofs.Common.{◌<◌, sym, subst, ◌∙◌}
use Rattle.search_state.specs.contracts.search.Search.{the_view}
use Rattle.search_state.specs.Searching.{Searching, ids}
use Rattle.search_state.specs.Moves.{IsNamed}
use Rattle.search_state.proofs.Listing.{has_pred, has_no_pred}
use Rattle.search_state.proofs.search.Search.is_named.Goals as goal

pub returns-clause-yes : goal.returns-clause-yes
returns-clause-yes c = λ yes.
    subst (λ (v : Searching). IsNamed v c.args.atom) c.self.view_is
    (has_pred (the_view c.self.inside) c.self.invariant.0.told.atoms c.args.atom c.pred_of.result
    (subst (λ (v : Searching). c.args.atom < ids v) (sym c.self.view_is) c.requires) c.pred_of.ensures.pred
    (sym c.is_some.ensures ∙ yes))

pub returns-clause-no : goal.returns-clause-no
returns-clause-no c = λ no named.
    has_no_pred (the_view c.self.inside) c.args.atom c.pred_of.result c.pred_of.ensures.pred (sym c.is_some.ensures ∙ no)
    (subst (λ (v : Searching). IsNamed v c.args.atom) (sym c.self.view_is) named)
