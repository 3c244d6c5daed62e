use Rattle.std.proofs.Common.{◌≡◌, ◌≤◌, ◌+◌, ◌-◌, ◌++◌, List, [], length, take, drop}
use Rattle.asp_syntax.specs.declared.token.Spanned.{Spanned}
use Rattle.asp_lexer.specs.Lexing.{line_feeds, End, Reads}
use Rattle.asp_lexer.proofs.lexer.read_all.Given as goal

abbrev pub invariant-turns : goal.invariant-turns
invariant-turns l = record {
  within : l.at ≤ length l.text;
  line : l.line ≡ line_feeds (take l.at l.text) + 1;
  few : l.line ≤ l.at + 1;
  left : (us : List Spanned) (e : End) → Reads (take l.at l.text) (drop l.at l.text) us e → Reads [] l.text (l.tokens ++ us) e;
}

abbrev pub decreases-turns : goal.decreases-turns
decreases-turns l = length l.text - l.at
