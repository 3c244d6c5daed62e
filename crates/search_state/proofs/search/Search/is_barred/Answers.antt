use Rattle.std.proofs.Common.{sym, subst}
use Rattle.std.proofs.lemmas.Result.{IfOk-weaker}
use Rattle.search_state.specs.contracts.search.Search.{the_view}
use Rattle.search_state.specs.Searching.{Searching}
use Rattle.search_state.specs.Moves.{IsNamed}
use Rattle.search_state.specs.Underivable.{IsUnderivable}
use Rattle.search_state.proofs.Underivables.{is_node, none_gives_it}
use Rattle.search_state.proofs.search.Search.is_barred.Goals as goal

pub is_underivable-requires-clause-named : goal.is_underivable-requires-clause-named
is_underivable-requires-clause-named c = is_node (the_view c.self.inside) c.args.id
    (subst (λ (v : Searching). IsNamed v c.args.id) (sym c.self.view_is) c.requires.named)

pub returns : goal.returns
returns c = IfOk-weaker c.is_underivable.result _ _
    (λ barred none yes. subst (λ (v : Searching). IsUnderivable v c.args.id) c.self.view_is (none_gives_it (the_view c.self.inside) c.args.id
    (subst (λ (v : Searching). IsNamed v c.args.id) (sym c.self.view_is) c.requires.named) (none yes)))
    c.is_underivable.ensures
