use Rattle.std.specs.Prelude.{codes}
use Rattle.answer_printer.specs.Pieces.{term_text}
use Rattle.answer_printer.proofs.SeparatorLemmas.{one_more}
use Rattle.answer_printer.proofs.atoms.push_each_after.Goals as goal

pub loop-arg-preserved : goal.loop-arg-preserved
loop-arg-preserved c =
    one_more (term_text c.args.terms.now) (codes ",") c.args.args.now c.loop-arg.arg-index c.arg-item.result
    c.args.text.now.items c.loop-arg.text.items c.extend_from_slice.new.self.items c.push_term.new.text.items
    c.loop-arg-test.true c.arg-item.is c.loop-arg.invariant c.in_ok-extend_from_slice.ensures.items c.in_ok-push_term.ensures
