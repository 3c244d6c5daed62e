use Rattle.std.proofs.Common.{subst}
use Rattle.std.proofs.lemmas.Result.{IfOk-weaker}
use Rattle.search_state.specs.Searching.{Searching}
use Rattle.conflict_learning.specs.Choosing.{IsChoice}
use Rattle.search_state.proofs.Moving.{all_below}
use Rattle.search_state.proofs.search.Search.first_struck.Goals as goal

pub first_struck-requires : goal.first_struck-requires
first_struck-requires c = record { below = all_below _ c.self.invariant.0 }

pub returns : goal.returns
returns c = IfOk-weaker c.first_struck.result _ _
    (λ found is. subst (λ (v : Searching). IsChoice v.nogoods v.stack found) c.self.view_is is) c.first_struck.ensures.choice
