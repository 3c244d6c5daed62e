use Rattle.std.proofs.Common.{length, take}
use Rattle.lists.specs.Lists.{Each}
use Rattle.term_pool.specs.Nodes.{IsPool, KeepsValues}
use Rattle.term_eval.specs.Evals.{Grows}
use Rattle.unification.specs.Patterns.{IsPatternTerm}
use Rattle.pattern_shapes.proofs.Under.{AreFirst}
use Rattle.pattern_shapes.proofs.shapes.shape_under.Given as goal

abbrev pub invariant-loop-arg : goal.invariant-loop-arg
invariant-loop-arg l = record {
  grows : Grows l.fn.pool l.pool;
  kept : KeepsValues l.fn.pool l.pool;
  pool : IsPool l.pool;
  formed : Each (IsPatternTerm (length l.pool)) l.args;
  first : AreFirst l.pool l.terms.items (take l.arg-index l.arg-items) l.args;
}
