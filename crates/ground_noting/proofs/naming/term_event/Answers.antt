use Rattle.ground_noting.proofs.NotingLemmas.{next_term}
use Rattle.ground_noting.proofs.naming.term_event.Goals as goal

pub returns : goal.returns
returns c = next_term c.args.ground.now c.args.told.now c.node.result.now c.in_ok-node.node c.node.ensures.there c.in_ok-node.ensures
