use Rattle.std.proofs.Common.{List, sym, ap, subst, ◌∙◌}
use Rattle.lists.specs.Lists.{◌∈◌}
use Rattle.alpha_outside.specs.declared.literal.Lit.{Lit}
use Rattle.search_values.specs.Nogoods.{Nogood}
use Rattle.nogood_store.specs.Stored.{nogood_of, head_atom}
use Rattle.nogood_store.specs.Visits.{SaysIs, IsPlaced, AnswerIs}
use Rattle.nogood_store.proofs.Placing.{is_placed, visit_is}
use Rattle.nogood_store.proofs.store.visit_answer.Goals as goal
use Rattle.nogood_store.proofs.store.visit_answer.Goals.{After-look_at}

says : (c : After-look_at) → SaysIs c.args.trail.now.stack (nogood_of c.args.nogood.now) c.look_at.result
says c = subst (λ (ng : Nogood). SaysIs c.args.trail.now.stack ng c.look_at.result)
    (ap (λ (ls : List Lit). let ng : Nogood = record { lits = ls; head = head_atom ls c.head.result } in ng) c.lits-lits.ensures.value
    ∙ ap (λ h. let ng : Nogood = record { lits = c.args.nogood.now.lits; head = head_atom c.args.nogood.now.lits h } in ng) c.head.ensures.value)
    c.look_at.ensures

pub look_at-requires-clause-below : goal.look_at-requires-clause-below
look_at-requires-clause-below c l i = c.requires.below l (subst (λ (ls : List Lit). l ∈ ls) c.lits-lits.ensures.value i)

pub answer-requires-clause-there : goal.answer-requires-clause-there
answer-requires-clause-there c = subst (λ (ls : List Lit). IsPlaced ls c.look_at.result) (sym c.lits-lits.ensures.value)
    (is_placed c.args.trail.now.stack c.args.nogood.now c.look_at.result (says ((goal.at.answer-requires-clause-there c).After-look_at)))

pub returns : goal.returns
returns c = record {
  exact = visit_is c.args.trail.now.stack c.args.nogood.now c.look_at.result c.answer.result (says ((goal.at.returns c).After-look_at))
      (subst (λ (ls : List Lit). AnswerIs ls c.look_at.result c.answer.result) c.lits-lits.ensures.value c.answer.ensures);
}
