use Rattle.std.proofs.Common.{◌&&◌, ap, sym, ◌∙◌, drop, ◌+◌, Bool}
use Rattle.search_values.specs.Values.{all_at_0}
use Rattle.search_state.specs.Searching.{is_level_0}
use Rattle.search_state.proofs.FieldLemmas.{told_level, at_0_on, lit_there}
use Rattle.search_state.proofs.search.are_at_0.Goals as goal

pub level_of-requires : goal.level_of-requires
level_of-requires c = c.requires c.l-item.result (lit_there c.args.lits.now c.loop-l.l-index c.l-item.result c.loop-l-test.true c.l-item.is)

pub loop-l-preserved : goal.loop-l-preserved
loop-l-preserved c = c.loop-l.invariant
    ∙ at_0_on c.args.trail.now.stack c.args.lits.now c.loop-l.l-index c.l-item.result c.loop-l-test.true c.l-item.is
    ∙ ap (λ (b : Bool). b && all_at_0 c.args.trail.now.stack (drop (c.loop-l.l-index + 1) c.args.lits.now))
    (sym (told_level c.args.trail.now.stack c.l-item.result.atom) ∙ ap is_level_0 (sym c.level_of.ensures) ∙ sym c.is_0.ensures
    ∙ c.if-not-is_0.false)

pub returns-then-not-is_0 : goal.returns-then-not-is_0
returns-then-not-is_0 c = sym (c.loop-l.invariant
    ∙ at_0_on c.args.trail.now.stack c.args.lits.now c.loop-l.l-index c.l-item.result c.loop-l-test.true c.l-item.is
    ∙ ap (λ (b : Bool). b && all_at_0 c.args.trail.now.stack (drop (c.loop-l.l-index + 1) c.args.lits.now))
    (sym (told_level c.args.trail.now.stack c.l-item.result.atom) ∙ ap is_level_0 (sym c.level_of.ensures) ∙ sym c.is_0.ensures
    ∙ c.if-not-is_0.true))
