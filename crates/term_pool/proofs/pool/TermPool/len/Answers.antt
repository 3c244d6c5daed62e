use Rattle.std.proofs.Common.{subst}
use Rattle.term_pool.specs.Nodes.{IsPool}
use Rattle.term_pool.proofs.InternLemmas.{small_there}
use Rattle.term_pool.proofs.OnceLemmas.{values_once}
use Rattle.term_pool.proofs.pool.TermPool.len.Goals as goal

pub returns-clause-distinct : goal.returns-clause-distinct
returns-clause-distinct c = values_once c.args.self.now (subst IsPool c.self.view_is c.self.invariant.pool)

pub returns-clause-small : goal.returns-clause-small
returns-clause-small c = λ id low. small_there c.self.inside.table.entries c.args.self.now id c.self.invariant c.self.view_is low
