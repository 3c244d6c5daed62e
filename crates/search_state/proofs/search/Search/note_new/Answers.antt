use Rattle.std.proofs.Common.{sym, subst, inl, inr}
use Rattle.lazy_grounder.specs.Lawful.{IsLawful}
use Rattle.search_state.specs.Searching.{Searching}
use Rattle.search_state.specs.Promised.{ArePools}
use Rattle.search_state.proofs.FieldLemmas.{ties_told}
use Rattle.search_state.proofs.NotableLemmas.{notable}
use Rattle.search_state.proofs.search.Search.note_new.Goals as goal

pub note_ground-requires-clause-notable : goal.note_ground-requires-clause-notable
note_ground-requires-clause-notable g c = notable c.self.inside.core c.self.inside.ground
    (subst (λ (v : Searching). IsLawful v.core v.ground) (sym c.self.view_is) c.requires)

pub invariant_of-self : goal.invariant_of-self
invariant_of-self g c = (
  ties_told _ c.self.invariant.0 c.note_ground.new.told c.note_ground.new.choices c.note_ground.new.nogoods c.note_ground.ensures.told
      (λ i among. elim (c.note_ground.ensures.adds.there i among) [ inl old ↦ c.self.invariant.0.choices_there i old | inr new ↦ new ])
      c.note_ground.ensures.adds.placed c.note_ground.ensures.matches,
  c.self.invariant.1,
  c.self.invariant.2,
)

pub returns-clause-notable : goal.returns-clause-notable
returns-clause-notable g c = notable c.args.self.now.core c.args.self.now.ground c.requires

pub returns-clause-pools : goal.returns-clause-pools
returns-clause-pools g c = subst (λ (v : Searching). ArePools v.ground) c.self.view_is
    (record { terms = c.len.ensures.pool; atoms = c.len-2.ensures.pool; makers = c.len-3.ensures.once })

pub returns-clause-stack : goal.returns-clause-stack
returns-clause-stack g c = record {
  fronts = c.self.invariant.0.fronts;
  placed = c.self.invariant.0.stack_placed;
  places = c.self.inside.trail.atoms;
  is_stack = c.entries.ensures.is_stack;
}
