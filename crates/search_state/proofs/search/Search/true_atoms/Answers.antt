use Rattle.std.proofs.Common.{List, ℕ, sym, subst}
use Rattle.lists.specs.Lists.{Each, SameSet}
use Rattle.atom_pool.specs.Meanings.{IsUserAtom}
use Rattle.search_state.specs.contracts.search.Search.{the_view}
use Rattle.search_state.specs.Searching.{Searching, ids}
use Rattle.search_state.specs.Moves.{AreTrueNames, AreTrueIds}
use Rattle.search_state.proofs.Listing.{both_ok, named_users, true_in_order}
use Rattle.search_state.proofs.search.Search.true_atoms.Goals as goal

pub sorted_atoms-requires-clause-user : goal.sorted_atoms-requires-clause-user
sorted_atoms-requires-clause-user c =
    let are = subst (λ (v : Searching). AreTrueNames v (ids v) c.in_ok-atoms.atoms.items) (sym c.self.view_is) c.in_ok-atoms.ensures in
    subst (λ xs. Each (IsUserAtom c.self.inside.ground.atoms) xs) (sym c.as_slice.ensures.value)
    (named_users
    (the_view c.self.inside) c.len.ensures.pool c.self.invariant.0.built c.self.invariant.0.searchable.no_aggregates
    c.in_ok-atoms.atoms.items (λ x among. (are.each_true x among).1))

pub returns : goal.returns
returns c =
    let are = subst (λ (v : Searching). AreTrueNames v (ids v) c.in_ok-atoms.atoms.items) (sym c.self.view_is) c.in_ok-atoms.ensures in
    both_ok c.sorted_atoms.result c.sorted_atoms.ensures.same c.sorted_atoms.ensures.in_order (λ v same ordered.
    subst (λ (s : Searching). AreTrueIds s v.items) c.self.view_is
    (true_in_order
    (the_view c.self.inside) c.len.ensures.pool c.self.invariant.0.built c.self.invariant.0.searchable.no_aggregates
    c.in_ok-atoms.atoms.items
    v.items are (subst (λ (xs : List ℕ). SameSet xs v.items) c.as_slice.ensures.value same) ordered))
