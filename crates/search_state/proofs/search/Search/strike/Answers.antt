use Rattle.std.proofs.Common.{List, ap, sym, subst, refl, ◌∙◌}
use Rattle.alpha_outside.specs.declared.literal.Lit.{Lit}
use Rattle.journal_theory.specs.Events.{phase_struck, lits_at}
use Rattle.search_values.specs.Values.{all_at_0}
use Rattle.search_state.specs.contracts.search.Search.{the_view}
use Rattle.search_state.specs.Searching.{Searching, LitsAreBelow}
use Rattle.search_state.proofs.FieldLemmas.{stored_placed}
use Rattle.search_state.proofs.ViewLemmas.{view_struck}
use Rattle.search_state.proofs.search.Search.strike.Goals as goal

pub are_at_0-root-requires : goal.are_at_0-root-requires
are_at_0-root-requires c =
    let v = c.lits.ensures.value in
    subst (λ (ls : List Lit). LitsAreBelow c.self.inside.trail.atoms ls) (sym v.2)
    (stored_placed _ c.self.invariant.0 c.args.nogood v.0 v.1)

pub returns : goal.returns
returns c =
    let v = c.lits.ensures.value in
    let phase = view_struck (the_view c.self.inside) c.self.inside.nogoods refl c.stage_struck-self-inside.result c.args.nogood v.0
    c.are_at_0-root.result v.1
    (c.are_at_0-root.ensures ∙ ap (all_at_0 c.self.inside.trail.stack) v.2) c.stage_struck-self-inside.ensures in
    (λ i. record (the_view c.self.inside) { phase = phase i })
    ∙ ap (λ (s : Searching). let w : Searching = record s {
      phase = phase_struck c.args.nogood (all_at_0 s.stack (lits_at s.nogoods c.args.nogood));
    } in w) c.self.view_is
