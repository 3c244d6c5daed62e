use Rattle.std.proofs.Common.{arith}
use Rattle.term_pool.proofs.TableLemmas.{size-answer}
use Rattle.term_pool.proofs.InternLemmas.{small_there}
use Rattle.term_pool.proofs.pool.TermPool.size.Goals as goal

pub returns-clause-size : goal.returns-clause-size
returns-clause-size c = size-answer c.self.inside.table.entries c.args.self.now c.args.id c.place.result c.index.result.now c.self.invariant c.self.view_is c.place.ensures c.requires c.index.ensures

pub returns-clause-small : goal.returns-clause-small
returns-clause-small c =
    omega (
      arith,
      size-answer c.self.inside.table.entries c.args.self.now c.args.id c.place.result c.index.result.now c.self.invariant c.self.view_is c.place.ensures c.requires c.index.ensures,
      small_there c.self.inside.table.entries c.args.self.now c.args.id c.self.invariant c.self.view_is c.requires,
    )
