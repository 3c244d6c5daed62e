use Rattle.std.proofs.Common.{length, length-append, ap, sym, subst, ◌∙◌, arith}
use Rattle.std.proofs.lemmas.List.{length-reverse}
use Rattle.std.proofs.lemmas.Result.{IfOk-weaker, IfErr-weaker}
use Rattle.search_state.specs.Searching.{Searching, IsAllTold, searching}
use Rattle.search_state.specs.Moves.{HasPropagated, HasNoted, NogoodsArePlaced}
use Rattle.search_state.proofs.Moving.{all_below, nogoods_placed, ties_after, risen_by, view_propagated, view_faulted, view_fix}
use Rattle.search_state.proofs.search.Search.propagate.Goals as goal

pub propagate_counted-fix-requires-clause-below : goal.propagate_counted-fix-requires-clause-below
propagate_counted-fix-requires-clause-below g c = all_below _ c.self.invariant.0

pub take_up-requires : goal.take_up-requires
take_up-requires g c =
    let above = risen_by _ c.self.invariant.0 c.propagate_counted-fix.new.nogoods c.propagate_counted-fix.new.trail _ _ c.propagate_counted-fix.result
    c.propagate_counted-fix.ensures.values c.propagate_counted-fix.ensures.err in
    let was = ap length c.entries-from.ensures.value ∙ length-reverse c.self.inside.trail.stack in
    let longer = ap length above.1 ∙ length-append above.0 c.self.inside.trail.stack in
    omega (arith, was, longer)

pub invariant_of-self : goal.invariant_of-self
invariant_of-self g c = (
  ties_after _ c.self.invariant.0 c.propagate_counted-fix.new.nogoods c.propagate_counted-fix.new.trail _ _ c.propagate_counted-fix.result
      c.propagate_counted-fix.ensures.values c.propagate_counted-fix.ensures.err,
  c.self.invariant.1,
  (let above = risen_by _ c.self.invariant.0 c.propagate_counted-fix.new.nogoods c.propagate_counted-fix.new.trail _ _ c.propagate_counted-fix.result
      c.propagate_counted-fix.ensures.values c.propagate_counted-fix.ensures.err in
      c.take_up.ensures c.self.inside.ground.atoms.atoms c.self.inside.ground.instances above.0 c.self.inside.trail.stack above.1
      (sym (ap length c.entries-from.ensures.value ∙ length-reverse c.self.inside.trail.stack)) c.self.invariant.2),
)

pub returns-clause-values : goal.returns-clause-values
returns-clause-values g c = IfOk-weaker c.propagate_counted-fix.result _ _
    (λ fix p. subst (λ (v : Searching). HasPropagated v
    (searching c.self.inside.core c.self.inside.ground c.self.inside.told c.self.inside.memory c.self.inside.risen c.self.inside.joined
    c.self.inside.budget.left
    c.self.inside.choices c.propagate_counted-fix.new.nogoods c.propagate_counted-fix.new.trail.stack c.self.inside.closing c.self.inside.stage)
    (g.T.Trace.journal c.args.trace.now) (g.T.Trace.journal c.propagate_counted-fix.new.trace)) c.self.view_is
    (view_propagated c.self.inside.core c.self.inside.ground c.self.inside.told c.self.inside.memory c.self.inside.risen
    c.self.inside.joined c.self.inside.budget.left c.self.inside.choices c.self.inside.closing c.self.inside.stage
    c.self.inside.nogoods c.propagate_counted-fix.new.nogoods c.self.inside.trail c.propagate_counted-fix.new.trail _ _ p))
    c.propagate_counted-fix.ensures.values

pub returns-clause-err : goal.returns-clause-err
returns-clause-err g c = IfErr-weaker c.propagate_counted-fix.result _ _
    (λ fault p. subst (λ (v : Searching). HasNoted v (g.T.Trace.journal c.args.trace.now)
    (g.T.Trace.journal c.propagate_counted-fix.new.trace)) c.self.view_is
    (view_faulted c.self.inside.core c.self.inside.ground c.self.inside.told c.self.inside.memory c.self.inside.risen c.self.inside.joined
    c.self.inside.budget.left c.self.inside.choices c.self.inside.closing c.self.inside.stage
    c.self.inside.nogoods c.propagate_counted-fix.new.nogoods c.self.inside.trail c.propagate_counted-fix.new.trail _ _ p))
    c.propagate_counted-fix.ensures.err

pub returns-clause-fix : goal.returns-clause-fix
returns-clause-fix g c = IfOk-weaker c.propagate_counted-fix.result _ _
    (λ fix e. view_fix c.self.inside.core c.self.inside.ground c.self.inside.told c.self.inside.memory c.self.inside.risen
    c.self.inside.joined c.self.inside.budget.left c.self.inside.choices c.self.inside.closing c.self.inside.stage
    c.self.inside.nogoods c.propagate_counted-fix.new.nogoods c.self.inside.trail c.propagate_counted-fix.new.trail
    (g.T.Trace.journal c.args.trace.now) (g.T.Trace.journal c.propagate_counted-fix.new.trace) fix e)
    c.propagate_counted-fix.ensures.fix

pub returns-clause-placed : goal.returns-clause-placed
returns-clause-placed g c = subst (λ (v : Searching). IsAllTold v → NogoodsArePlaced v) c.self.view_is (nogoods_placed _ c.self.invariant.0)
