use Rattle.std.proofs.Common.{◌<◌, length, ap, sym, subst, ◌∙◌, arith}
use Rattle.std.proofs.lemmas.List.{length-reverse}
use Rattle.search_values.specs.Values.{level_of}
use Rattle.trail.specs.Assigning.{Trailed}
use Rattle.nogood_store.specs.Matching.{Matches}
use Rattle.nogood_store.proofs.Matched.{jumped_keeps}
use Rattle.search_state.specs.Searching.{Searching}
use Rattle.search_fronts.specs.Fronts.{AreFronts}
use Rattle.search_state.proofs.Looking.{have_bodies}
use Rattle.search_state.proofs.Moving.{jumped_atoms, jumped_stack, ties_back}
use Rattle.search_state.proofs.search.Search.back.Goals as goal

pub invariant_of-self : goal.invariant_of-self
invariant_of-self c =
    let kept = c.kept.ensures.value in
    let within = c.kept.ensures.within in
    let low = subst (λ (v : Searching). c.args.level < level_of v.stack) (sym c.self.view_is) c.requires in (
      ties_back _ c.self.invariant.0 c.args.level c.backjump.new.self
          (length c.entries-left.result.now) c.min-self-inside.result c.min-self-inside-2.result
          (ap (λ (t : Trailed). t.atoms) c.backjump.ensures ∙ jumped_atoms c.self.inside.trail c.args.level)
          (ap (λ (t : Trailed). t.stack) c.backjump.ensures ∙ jumped_stack c.self.inside.trail c.args.level low)
          (ap length c.entries-left.ensures.value
          ∙ length-reverse c.backjump.new.self.stack) c.min-self-inside.ensures c.min-self-inside-2.ensures
          (subst (λ (t : Trailed). Matches c.self.inside.nogoods t) (sym c.backjump.ensures)
          (jumped_keeps c.self.inside.nogoods c.self.inside.trail c.self.invariant.0.matches (omega (arith, kept, within)) c.args.level)),
      c.self.invariant.1,
      subst (λ s. AreFronts c.self.inside.ground.atoms.atoms c.self.inside.ground.instances s c.take_back.new.self)
          (sym (ap (λ (t : Trailed). t.stack) c.backjump.ensures ∙ jumped_stack c.self.inside.trail c.args.level low))
          (c.take_back.ensures c.self.inside.ground.instances (have_bodies _ c.self.invariant.0) c.self.invariant.2),
    )
