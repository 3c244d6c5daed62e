use Rattle.std.proofs.Common.{◌<◌, sym, subst}
use Rattle.std.specs.Prelude.{IfSome, IfNone}
use Rattle.std.proofs.lemmas.Option.{IfSome_then}
use Rattle.lists.specs.Lists.{◌∈◌}
use Rattle.search_values.specs.Tables.{Made}
use Rattle.journal_theory.specs.States.{IsActive}
use Rattle.search_rules.specs.Tests.{Maker}
use Rattle.search_state.specs.contracts.search.Search.{the_view}
use Rattle.search_state.specs.Searching.{Searching, IsAllTold, ids, made, state_of}
use Rattle.search_state.specs.Moves.{NoChoice}
use Rattle.search_state.proofs.Takes.{if_none}
use Rattle.search_state.proofs.Bodies.{active_found, none_active, no_choice}
use Rattle.search_state.proofs.Looking.{are_placed}
use Rattle.search_state.proofs.search.Search.active.Goals as goal

pub first_active-requires : goal.first_active-requires
first_active-requires c = are_placed _ c.self.invariant.0

pub returns-clause-some : goal.returns-clause-some
returns-clause-some c =
    subst (λ (v : Searching). IfSome c.first_active.result (λ b. (b < ids v) ×
    ((k : Made Maker) × (k ∈ made v) × IsActive (state_of v) k b))) c.self.view_is
    (IfSome_then c.first_active.result c.first_active.ensures.some
    (active_found (the_view c.self.inside) (subst (λ (v : Searching). IsAllTold v)
    (sym c.self.view_is) c.requires) c.self.invariant.0.built.whole.within))

pub returns-clause-none : goal.returns-clause-none
returns-clause-none c =
    subst (λ (v : Searching). IfNone c.first_active.result (NoChoice v)) c.self.view_is
    (if_none c.first_active.result c.first_active.ensures.none (λ none. no_choice (the_view c.self.inside)
    (none_active c.self.inside.ground.atoms.atoms c.self.inside.ground.instances c.self.inside.trail.stack c.self.inside.fronts
    c.self.invariant.2 none)))
