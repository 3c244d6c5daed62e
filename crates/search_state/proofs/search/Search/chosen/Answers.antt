use Rattle.std.proofs.Common.{◌≡◌, ◌-◌, ◌++◌, ◌∷◌, [], arith, not, refl, ap, ◌∙◌}
use denote.Enum.Bare.{sameb}
use Rattle.alpha_outside.specs.contracts.literal.Value.{the_type}
use Rattle.search_values.specs.Values.{Value, True, MustBe, False, lit, is_up}
use Rattle.search_fronts.proofs.Walking.{entry_placed}
use Rattle.search_state.proofs.Chosen.{chosen_step, chosen_skip}
use Rattle.search_state.proofs.search.Search.chosen.Goals as goal

-- the value isn't false just where the literal is positive
not_false : (v : Value) → not (sameb the_type v False) ≡ is_up v
not_false True = refl
not_false MustBe = refl
not_false False = refl

pub is_choice-requires-clause-there : goal.is_choice-requires-clause-there
is_choice-requires-clause-there c =
    entry_placed c.self.inside.trail.atoms c.self.inside.trail.stack c.entries-entries.result.now c.entries-entries.ensures.value
    c.entries-entries.ensures.is_stack (c.loop-left.left - 1) c.index-entries-left.result
    (omega arith) c.index-entries-left.is

pub loop-left-preserved-in-Continue-1 : goal.loop-left-preserved-in-Continue-1
loop-left-preserved-in-Continue-1 c = record {
  within = omega arith;
  rest = chosen_step c.self.inside.trail.atoms c.self.inside.trail.stack c.entries-entries.result.now c.entries-entries.ensures.value
      c.entries-entries.ensures.is_stack c.loop-left.left (c.loop-left.left - 1) c.index-entries-left.result
      c.loop-left.invariant.within
      (omega arith) c.index-entries-left.is c.is_choice.result c.is_choice.ensures c.loop-left.lits.items c.push.new.self.items _
      c.if-is_choice.true
      (c.in_ok-push.ensures.items ∙ ap (λ b. c.loop-left.lits.items ++ lit c.index-entries-left.result.atom b ∷ [])
      (c.ne.ensures ∙ not_false c.index-entries-left.result.value)) c.loop-left.invariant.rest;
}

pub loop-left-preserved : goal.loop-left-preserved
loop-left-preserved c = record {
  within = omega arith;
  rest = chosen_skip c.self.inside.trail.atoms c.self.inside.trail.stack c.entries-entries.result.now c.entries-entries.ensures.value
      c.entries-entries.ensures.is_stack c.loop-left.left (c.loop-left.left - 1) c.index-entries-left.result
      c.loop-left.invariant.within
      (omega arith) c.index-entries-left.is c.is_choice.result c.is_choice.ensures c.loop-left.lits.items _ c.if-is_choice.false
      c.loop-left.invariant.rest;
}
