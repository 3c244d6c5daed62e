use Rattle.std.proofs.Common.{◌≡◌, ◌<◌, ℕ, Some, subst}
use Rattle.search_values.specs.Values.{MustBe, value_of}
use Rattle.search_state.specs.contracts.search.Search.{the_view}
use Rattle.search_state.specs.Searching.{Searching}
use Rattle.search_state.specs.Moves.{IsNamed}
use Rattle.search_state.proofs.Listing.{named_node}
use Rattle.search_state.proofs.search.Search.must_be.Goals as goal

pub loop-x-init : goal.loop-x-init
loop-x-init c =
    subst (λ (v : Searching). (y : ℕ) → y < c.self.inside.fronts.not_must → IsNamed v y → ¬ (value_of v.stack y ≡ Some MustBe)) c.self.view_is
    (λ y low named. c.self.invariant.2.not_must y low (named_node (the_view c.self.inside) y named.0 named.1))
