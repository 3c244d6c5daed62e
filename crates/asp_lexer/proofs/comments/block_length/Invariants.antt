use Rattle.std.proofs.Common.{◌≡◌, drop}
use Rattle.asp_lexer.specs.Lexemes.{block_length}
use Rattle.asp_lexer.proofs.Scans.{after}
use Rattle.asp_lexer.proofs.comments.block_length.Given as goal

abbrev pub invariant-loop-i : goal.invariant-loop-i
invariant-loop-i l = block_length 0 l.bytes ≡ after l.i (block_length l.previous (drop l.i l.bytes))
