use Rattle.std.proofs.Common.{sym, subst, ◌∙◌}
use Rattle.nogood_store.specs.Stored.{HasNoAtomTwice}
use Rattle.search_state.specs.Searching.{Searching, ids, LitsAreBelow}
use Rattle.search_state.proofs.FieldLemmas.{ties_learned}
use Rattle.search_state.proofs.Underivables.{justified_once, justified_low}
use Rattle.search_state.proofs.search.Search.justify.Goals as goal

pub admit-requires-clause-no_atom_twice : goal.admit-requires-clause-no_atom_twice
admit-requires-clause-no_atom_twice c = subst HasNoAtomTwice (sym (c.as_slice.ensures ∙ c.in_ok-lits.ensures)) (justified_once c.args.atom)

pub invariant_of-self-2 : goal.invariant_of-self-2
invariant_of-self-2 c = (
  ties_learned _ c.self.invariant.0 c.admit.new.store _ c.in_ok-nogood.ensures.ok c.admit.ensures.matches
      (subst (λ (v : Searching). LitsAreBelow (ids v) c.as_slice.result.now) (sym c.self.view_is)
      (subst (λ lits. LitsAreBelow (ids c.args.self.now) lits) (sym (c.as_slice.ensures ∙ c.in_ok-lits.ensures))
      (justified_low c.args.self.now c.args.atom c.requires))),
  c.self.invariant.1,
  c.self.invariant.2,
)
