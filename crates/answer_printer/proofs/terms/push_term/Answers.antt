use Rattle.std.proofs.Common.{◌∙◌, sym, ap, subst, length, ◌++◌, arith}
use Rattle.answer_printer.specs.Pieces.{AreWithin, rest_text, weight}
use Rattle.answer_printer.proofs.PieceLemmas.{within-pop, weight-pop, rest-pop}
use Rattle.answer_printer.proofs.terms.push_term.Goals as goal

pub write_piece-requires-clause-piece : goal.write_piece-requires-clause-piece
write_piece-requires-clause-piece c =
    (within-pop (length c.args.terms.now) c.pop.new.self.items c.in-Some.piece (subst (AreWithin (length c.args.terms.now)) c.in-Some.ensures.items c.loop-piece.invariant.0)).1

pub write_piece-requires-clause-stack : goal.write_piece-requires-clause-stack
write_piece-requires-clause-stack c =
    (within-pop (length c.args.terms.now) c.pop.new.self.items c.in-Some.piece (subst (AreWithin (length c.args.terms.now)) c.in-Some.ensures.items c.loop-piece.invariant.0)).0

pub loop-piece-smaller : goal.loop-piece-smaller
loop-piece-smaller c =
    omega (arith, c.in_ok-write_piece.ensures.less, ap (weight c.args.terms.now) c.in-Some.ensures.items, weight-pop c.args.terms.now c.pop.new.self.items c.in-Some.piece)

pub loop-piece-preserved : goal.loop-piece-preserved
loop-piece-preserved c = (
  c.in_ok-write_piece.ensures.within,
  c.in_ok-write_piece.ensures.text_is
      ∙ ap (λ l. c.loop-piece.text.items ++ l) (sym (ap (rest_text c.args.terms.now) c.in-Some.ensures.items ∙ rest-pop c.args.terms.now c.pop.new.self.items c.in-Some.piece))
      ∙ c.loop-piece.invariant.1,
)
