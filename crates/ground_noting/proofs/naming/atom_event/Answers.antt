use Rattle.std.proofs.Common.{◌∙◌}
use Rattle.ground_noting.proofs.NotingLemmas.{next_atom}
use Rattle.ground_noting.proofs.naming.atom_event.Goals as goal

pub returns : goal.returns
returns c = next_atom c.args.ground.now c.args.told.now c.args.pred c.args.args.now c.in_ok-args.args c.pred_at.result.now
    c.in_ok-pred.pred c.requires.notable c.requires.terms c.requires.next c.pred_at.ensures
    c.in_ok-pred.ensures (c.in_ok-args.ensures ∙ c.as_slice.ensures)
