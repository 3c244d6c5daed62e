use Rattle.ground_noting.proofs.NotingLemmas.{noted_none}
use Rattle.ground_noting.proofs.naming.note_named.Goals as goal

pub returns-in_err-tell-clause-noted : goal.returns-in_err-tell-clause-noted
returns-in_err-tell-clause-noted g c = noted_none c.args.ground.now c.args.told.now _ _ c.in_err-tell.ensures.err
