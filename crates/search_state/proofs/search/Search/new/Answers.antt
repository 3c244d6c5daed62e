use Rattle.std.proofs.Common.{ap}
use Rattle.trail.specs.Assigning.{Trailed}
use Rattle.search_state.proofs.FieldLemmas.{ties_new}
use Rattle.search_state.proofs.Looking.{fronts_new}
use Rattle.search_state.proofs.search.Search.new.Goals as goal

pub invariant_of-result : goal.invariant_of-result
invariant_of-result c = (
  ties_new c.args.core c.requires (record { terms = c.new.result; atoms = c.new-2.result; instances = c.new-3.result }) c.new-4.new.ground
      c.new.ensures c.new-2.ensures c.new-3.ensures c.new-4.ensures.preds c.new-5.result c.new-6.result c.new-7.result c.new-8.result
      c.new-5.ensures c.new-6.ensures c.new-7.ensures c.new-8.ensures,
  c.in_ok-grounder.ensures.plans,
  fronts_new c.new-4.new.ground.atoms.atoms c.new-4.new.ground.instances c.new-8.result.stack c.new-9.result c.new-9.ensures
      (ap (λ (t : Trailed). t.stack) c.new-8.ensures),
)
