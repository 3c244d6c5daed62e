use Rattle.std.proofs.Common.{◌≡◌, drop}
use Rattle.asp_syntax.specs.Bytes.{quote}
use Rattle.asp_lexer.specs.Lexemes.{closing_quote}
use Rattle.asp_lexer.proofs.Scans.{after}
use Rattle.asp_lexer.proofs.strings.closing_quote.Given as goal

abbrev pub invariant-loop-i : goal.invariant-loop-i
invariant-loop-i l = closing_quote quote l.bytes ≡ after l.i (closing_quote l.previous (drop l.i l.bytes))
