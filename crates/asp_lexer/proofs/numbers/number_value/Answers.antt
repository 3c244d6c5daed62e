use Rattle.asp_lexer.proofs.Scans.{large_stays}
use Rattle.asp_lexer.proofs.numbers.number_value.Goals as goal

pub returns-in_default : goal.returns-in_default
returns-in_default c = large_stays c.args.digits.now c.loop-digit.digit-index c.loop-digit.value c.loop-digit-test.true c.loop-digit.invariant.so_far c.in_default.ensures
