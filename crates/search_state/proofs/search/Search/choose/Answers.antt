use Rattle.std.proofs.Common.{◌<◌, ◌∷◌, [], length, reverse, true, refl, ap, sym, subst, ◌∙◌}
use Rattle.std.proofs.lemmas.List.{length-reverse}
use Rattle.search_values.specs.declared.entry.Why.TheVariants.{Chosen}
use Rattle.search_values.specs.Values.{value_of, decision, entry_on}
use Rattle.trail.specs.Assigning.{Trailed, MayBecome, MayDecide}
use Rattle.nogood_store.specs.Matching.{Matches}
use Rattle.nogood_store.proofs.Matched.{opened_keeps}
use Rattle.search_state.specs.Searching.{Searching, ids}
use Rattle.search_state.proofs.FieldLemmas.{ties_put, told_there}
use Rattle.choice_manager.specs.Active.{ArePlaced}
use Rattle.search_state.proofs.Looking.{are_placed}
use Rattle.search_state.proofs.Moving.{may_of}
use Rattle.search_state.proofs.search.Search.choose.Goals as goal

pub pass_settled-requires : goal.pass_settled-requires
pass_settled-requires c = subst (λ n. ArePlaced n c.self.inside.ground.instances)
    (sym (ap (λ (t : Trailed). t.atoms) c.decide.ensures ∙ ap (λ (t : Trailed). t.atoms) c.take_all_up.ensures.same))
    (are_placed _ c.self.invariant.0)

pub invariant_of-self : goal.invariant_of-self
invariant_of-self c =
    let up = c.take_all_up.new.trail in
    let stack = ap (λ (t : Trailed). t.stack) c.take_all_up.ensures.same in
    let may = subst (λ s. MayBecome (value_of s c.args.body) (decision true)) (sym stack)
    (may_of _ (subst (λ (v : Searching). MayDecide (value_of v.stack c.args.body) true) (sym c.self.view_is) c.requires.may)) in
    let there = subst (λ (v : Searching). c.args.body < ids v) (sym c.self.view_is) c.requires.there in (
      ties_put _ c.self.invariant.0 (entry_on up.stack c.args.body (decision true) Chosen) c.decide.new.self
          (ap (λ (t : Trailed). t.atoms) c.decide.ensures ∙ ap (λ (t : Trailed). t.atoms) c.take_all_up.ensures.same)
          (ap (λ (t : Trailed). t.stack) c.decide.ensures ∙ ap (λ es. entry_on up.stack c.args.body (decision true) Chosen ∷ es) stack)
          (told_there _ c.self.invariant.0 c.args.body there)
          (subst (λ (t : Trailed). Matches c.self.inside.nogoods t) (sym c.decide.ensures)
          (opened_keeps c.self.inside.nogoods up
          (c.take_all_up.ensures.matches c.self.inside.nogoods c.self.invariant.0.matches) c.take_all_up.ensures.all c.args.body
          (decision true) Chosen refl may)),
      c.self.invariant.1,
      c.pass_settled.ensures.fronts c.self.inside.ground.atoms.atoms (c.take_up.ensures c.self.inside.ground.atoms.atoms c.self.inside.ground.instances (entry_on up.stack c.args.body (decision true) Chosen ∷ [])
          c.self.inside.trail.stack
          (ap (λ (t : Trailed). t.stack) c.decide.ensures ∙ ap (λ es. entry_on up.stack c.args.body (decision true) Chosen ∷ es) stack)
          (sym (ap length (c.entries-from.ensures.value ∙ ap reverse stack) ∙ length-reverse c.self.inside.trail.stack)) c.self.invariant.2),
    )
