use Rattle.std.proofs.Common.{refl}
use Rattle.term_pool.proofs.CompareLemmas.{value_read}
use Rattle.term_pool.proofs.places.node_at.Goals as goal

pub returns-clause-value : goal.returns-clause-value
returns-clause-value c =
    value_read c.args.nodes.now c.args.nodes.now c.requires.pool refl c.place.result c.args.id c.index-nodes-place.result c.place.ensures c.requires.id c.index-nodes-place.is
