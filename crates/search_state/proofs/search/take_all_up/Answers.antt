use Rattle.std.proofs.Common.{sym, subst}
use Rattle.trail.specs.Assigning.{Trailed}
use Rattle.nogood_store.specs.Matching.{Matches}
use Rattle.nogood_store.proofs.Matched.{forgotten_keeps}
use Rattle.search_state.proofs.search.take_all_up.Goals as goal

pub returns-then-kept-entries-clause-matches : goal.returns-then-kept-entries-clause-matches
returns-then-kept-entries-clause-matches c store m = subst (λ (t : Trailed). Matches store t) (sym c.mark.ensures)
    (forgotten_keeps store c.args.trail.now m)
