use Rattle.std.proofs.Common.{sym, subst}
use Rattle.search_state.specs.Searching.{Searching, ids, LitsAreBelow}
use Rattle.search_state.proofs.FieldLemmas.{ties_learned}
use Rattle.search_state.proofs.search.Search.learn.Goals as goal

pub invariant_of-self-2 : goal.invariant_of-self-2
invariant_of-self-2 c = (
  ties_learned _ c.self.invariant.0 c.admit.new.store _ c.in_ok-nogood.ensures.ok c.admit.ensures.matches
      (subst (λ (v : Searching). LitsAreBelow (ids v) c.args.lits.now) (sym c.self.view_is) c.requires.below),
  c.self.invariant.1,
  c.self.invariant.2,
)
