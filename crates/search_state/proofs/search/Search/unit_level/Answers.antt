use Rattle.std.proofs.Common.{List, sym, subst, refl, ◌∙◌}
use Rattle.alpha_outside.specs.declared.literal.Lit.{Lit}
use Rattle.journal_theory.specs.Events.{lits_at}
use Rattle.journal_theory.specs.Resolution.{IsOneHighest}
use Rattle.conflict_learning.specs.Analysing.{AllHold, IsSecondLevel}
use Rattle.search_state.specs.contracts.search.Search.{the_view}
use Rattle.search_state.specs.Searching.{Searching}
use Rattle.search_state.proofs.ViewLemmas.{view_lits}
use Rattle.search_state.proofs.search.Search.unit_level.Goals as goal

pub unit_level-requires : goal.unit_level-requires
unit_level-requires c =
    let v = c.lits.ensures.value in
    let same = view_lits (the_view c.self.inside) c.self.inside.nogoods refl c.args.nogood v.0 v.1 ∙ sym v.2 in
    record {
      hold = subst (λ (ls : List Lit). AllHold c.self.inside.trail.stack ls) same
          (subst (λ (s : Searching). AllHold s.stack (lits_at s.nogoods c.args.nogood)) (sym c.self.view_is) c.requires.hold);
      one = subst (λ (ls : List Lit). IsOneHighest c.self.inside.trail.stack ls) same
          (subst (λ (s : Searching). IsOneHighest s.stack (lits_at s.nogoods c.args.nogood)) (sym c.self.view_is) c.requires.one);
    }

pub returns : goal.returns
returns c =
    let v = c.lits.ensures.value in
    let same = view_lits (the_view c.self.inside) c.self.inside.nogoods refl c.args.nogood v.0 v.1 ∙ sym v.2 in
    subst (λ (s : Searching). IsSecondLevel s.stack (lits_at s.nogoods c.args.nogood) c.unit_level.result) c.self.view_is
    (subst (λ (ls : List Lit). IsSecondLevel c.self.inside.trail.stack ls c.unit_level.result) (sym same) c.unit_level.ensures)
