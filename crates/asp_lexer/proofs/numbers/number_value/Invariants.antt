use Rattle.std.proofs.Common.{◌≡◌, ◌≤◌, drop}
use Rattle.asp_syntax.specs.WellFormed.{largest}
use Rattle.asp_lexer.specs.Tokens.{decimal, value_from}
use Rattle.asp_lexer.proofs.numbers.number_value.Given as goal

abbrev pub invariant-loop-digit : goal.invariant-loop-digit
invariant-loop-digit l = record {
  so_far : value_from l.value (drop l.digit-index l.digits) ≡ decimal l.digits;
  fitting : l.value ≤ largest;
}
