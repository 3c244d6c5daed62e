use Rattle.std.proofs.Common.{◌∙◌, sym}
use Rattle.answer_printer.proofs.TurnLemmas.{on_the_way, refused_on_the_way, whole_line, part_of_a_line}
use Rattle.answer_printer.proofs.reading.read_all.Goals as goal

pub turns-preserved : goal.turns-preserved
turns-preserved c =
    on_the_way c.args.line.now c.rest_from.result.now c.turns.at c.in-Ok.len c.turn.new.reader c.turns.invariant.1 c.rest_from.ensures c.turns-test.true c.turns.invariant.3
    (c.in-Ok.ensures c.turns.invariant.1 c.turns.invariant.2)

pub returns-in-Err : goal.returns-in-Err
returns-in-Err c =
    refused_on_the_way c.args.line.now c.rest_from.result.now c.turns.at c.turn.new.reader c.turns.invariant.1 c.in-Err.fault c.rest_from.ensures c.turns.invariant.3
    (c.in-Err.ensures c.turns.invariant.1 c.turns.invariant.2)

pub returns-then-not-is_end : goal.returns-then-not-is_end
returns-then-not-is_end c = part_of_a_line c.args.line.now c.turns.at c.turns.reader c.turns-test.false c.turns.invariant (sym c.is_end.ensures ∙ c.if-not-is_end.true)

pub returns : goal.returns
returns c = whole_line c.args.line.now c.turns.at c.turns.reader c.turns-test.false c.turns.invariant (sym c.is_end.ensures ∙ c.if-not-is_end.false)
