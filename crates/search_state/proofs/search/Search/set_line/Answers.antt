use Rattle.std.proofs.Common.{List, map, sym, subst}
use Rattle.std.proofs.lemmas.Result.{IfOk-weaker}
use Rattle.asp_meaning.specs.Atoms.{Atom}
use Rattle.asp_meaning.specs.Lines.{IsSetLine}
use Rattle.core_meaning.specs.Atoms.{User}
use Rattle.search_values.specs.Ids.{Names}
use Rattle.search_state.specs.contracts.search.Search.{the_view}
use Rattle.search_state.specs.Searching.{Searching, names}
use Rattle.search_state.specs.Moves.{AreTrueIds}
use Rattle.search_state.proofs.Listing.{named_users, names_are, once_in_order}
use Rattle.search_state.proofs.search.Search.set_line.Goals as goal

pub set_line-requires-clause-user : goal.set_line-requires-clause-user
set_line-requires-clause-user c =
    let are = subst (λ (v : Searching). AreTrueIds v c.args.atoms.now) (sym c.self.view_is) c.requires in
    named_users
    (the_view c.self.inside) c.len.ensures.pool c.self.invariant.0.built c.self.invariant.0.searchable.no_aggregates c.args.atoms.now
    (λ x among. let t = are.each_true x among in (User t.0, t.1))

pub set_line-requires-clause-distinct : goal.set_line-requires-clause-distinct
set_line-requires-clause-distinct c = once_in_order
    (names c.args.self.now) c.args.atoms.now c.requires.set c.requires.names c.requires.ordered

pub returns : goal.returns
returns c = IfOk-weaker c.set_line.result _ _ (λ line is set named.
    subst (λ (atoms : List Atom). IsSetLine atoms line)
    (names_are
    (the_view c.self.inside) c.len.ensures.pool c.self.invariant.0.built c.self.invariant.0.searchable.no_aggregates c.args.atoms.now set
    (subst (λ (v : Searching). Names (names v) c.args.atoms.now (map User set)) (sym c.self.view_is) named)) is) c.set_line.ensures
