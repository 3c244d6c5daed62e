use Rattle.std.proofs.Common.{◌≡◌, ◌<◌, ◌∷◌, [], length, reverse, refl, ap, sym, subst, ◌∙◌, inl}
use Rattle.std.specs.Prelude.{None}
use Rattle.std.proofs.lemmas.List.{length-reverse}
use Rattle.alpha_outside.specs.declared.literal.Value.TheVariants.{False}
use Rattle.search_values.specs.declared.entry.Why.TheVariants.{Closed}
use Rattle.search_values.specs.Values.{value_of, entry_on}
use Rattle.trail.specs.Assigning.{Trailed, MayBecome}
use Rattle.nogood_store.specs.Matching.{Matches}
use Rattle.nogood_store.proofs.Matched.{opened_keeps}
use Rattle.search_state.specs.Searching.{Searching, ids}
use Rattle.choice_manager.specs.Active.{ArePlaced}
use Rattle.search_state.proofs.Looking.{are_placed}
use Rattle.search_state.proofs.FieldLemmas.{ties_put, told_there}
use Rattle.search_state.proofs.search.Search.close.Goals as goal

pub pass_settled-requires : goal.pass_settled-requires
pass_settled-requires c = subst (λ n. ArePlaced n c.self.inside.ground.instances)
    (sym (ap (λ (t : Trailed). t.atoms) c.close.ensures ∙ ap (λ (t : Trailed). t.atoms) c.take_all_up.ensures.same))
    (are_placed _ c.self.invariant.0)

pub invariant_of-self : goal.invariant_of-self
invariant_of-self c =
    let up = c.take_all_up.new.trail in
    let stack = ap (λ (t : Trailed). t.stack) c.take_all_up.ensures.same in
    let may = subst (λ s. MayBecome (value_of s c.args.atom) False) (sym stack)
    (inl (subst (λ (v : Searching). value_of v.stack c.args.atom ≡ None) (sym c.self.view_is) c.requires.unassigned)) in
    let there = subst (λ (v : Searching). c.args.atom < ids v) (sym c.self.view_is) c.requires.there in (
      ties_put _ c.self.invariant.0 (entry_on up.stack c.args.atom False (Closed None)) c.close.new.self
          (ap (λ (t : Trailed). t.atoms) c.close.ensures ∙ ap (λ (t : Trailed). t.atoms) c.take_all_up.ensures.same)
          (ap (λ (t : Trailed). t.stack) c.close.ensures ∙ ap (λ es. entry_on up.stack c.args.atom False (Closed None) ∷ es) stack)
          (told_there _ c.self.invariant.0 c.args.atom there)
          (subst (λ (t : Trailed). Matches c.self.inside.nogoods t) (sym c.close.ensures)
          (opened_keeps c.self.inside.nogoods up
          (c.take_all_up.ensures.matches c.self.inside.nogoods c.self.invariant.0.matches) c.take_all_up.ensures.all c.args.atom False
          (Closed None) refl may)),
      c.self.invariant.1,
      c.pass_settled.ensures.fronts c.self.inside.ground.atoms.atoms (c.pass_not_must.ensures.fronts c.self.inside.ground.instances (c.pass_assigned.ensures.fronts c.self.inside.ground.instances
          (c.take_up.ensures c.self.inside.ground.atoms.atoms c.self.inside.ground.instances (entry_on up.stack c.args.atom False (Closed None) ∷ [])
          c.self.inside.trail.stack
          (ap (λ (t : Trailed). t.stack) c.close.ensures ∙ ap (λ es. entry_on up.stack c.args.atom False (Closed None) ∷ es) stack)
          (sym (ap length (c.entries-from.ensures.value ∙ ap reverse stack) ∙ length-reverse c.self.inside.trail.stack)) c.self.invariant.2))),
    )
