use Rattle.std.proofs.Common.{sym, subst}
use Rattle.search_values.specs.Values.{HasClosed}
use Rattle.search_state.specs.Searching.{Searching}
use Rattle.search_state.proofs.search.Search.has_closed.Goals as goal

pub returns-clause-yes : goal.returns-clause-yes
returns-clause-yes c = λ yes. subst (λ (v : Searching). HasClosed v.stack) c.self.view_is (c.has_closed.ensures.yes yes)

pub returns-clause-no : goal.returns-clause-no
returns-clause-no c = λ no closed. c.has_closed.ensures.no no (subst (λ (v : Searching). HasClosed v.stack) (sym c.self.view_is) closed)
