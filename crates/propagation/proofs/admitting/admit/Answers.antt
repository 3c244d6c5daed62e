use Rattle.propagation.proofs.Running.{admitted_match}
use Rattle.propagation.proofs.admitting.admit.Goals as goal

pub returns-clause-matches : goal.returns-clause-matches
returns-clause-matches c = admitted_match c.add.result c.args.store.now c.add.new.self _ c.args.trail.now c.requires.matches c.add.ensures.ok c.add.ensures.err
