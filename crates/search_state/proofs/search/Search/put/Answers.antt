use Rattle.std.proofs.Common.{◌<◌, ◌∷◌, [], length, ap, sym, subst, ◌∙◌, arith}
use Rattle.std.proofs.lemmas.List.{length-reverse}
use Rattle.trail.specs.Assigning.{Trailed, MayBecome}
use Rattle.nogood_store.specs.Matching.{Matches}
use Rattle.nogood_store.proofs.Matched.{given_keeps}
use Rattle.search_values.specs.Values.{value_of}
use Rattle.search_state.specs.Searching.{Searching, ids}
use Rattle.search_state.proofs.FieldLemmas.{ties_put, told_there}
use Rattle.search_state.proofs.search.Search.put.Goals as goal

pub invariant_of-self : goal.invariant_of-self
invariant_of-self c =
    let kept = c.kept.ensures.value in
    let within = c.kept.ensures.within in
    let may = subst (λ (v : Searching). MayBecome (value_of v.stack c.args.atom) c.args.value) (sym c.self.view_is) c.requires.may in
    let there = subst (λ (v : Searching). c.args.atom < ids v) (sym c.self.view_is) c.requires.there in (
      ties_put _ c.self.invariant.0 _ c.give.new.trail (ap (λ (t : Trailed). t.atoms) c.give.ensures)
          (ap (λ (t : Trailed). t.stack) c.give.ensures) (told_there _ c.self.invariant.0 c.args.atom there)
          (subst (λ (t : Trailed). Matches c.self.inside.nogoods t) (sym c.give.ensures)
          (given_keeps c.self.inside.nogoods c.self.inside.trail c.self.invariant.0.matches
          (omega (arith, kept, within)) c.args.atom c.args.value c.args.by may)),
      c.self.invariant.1,
      c.take_up.ensures c.self.inside.ground.atoms.atoms c.self.inside.ground.instances (_ ∷ []) c.self.inside.trail.stack
          (ap (λ (t : Trailed). t.stack) c.give.ensures)
          (sym (ap length c.entries-from.ensures.value ∙ length-reverse c.self.inside.trail.stack)) c.self.invariant.2,
    )
