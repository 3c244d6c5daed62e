-- Tokens as the grammar sees them.
use Rattle.std.specs.Prelude.{ℕ, suc, List}
use Rattle.asp_syntax.specs.declared.tree.CompareOp.{CompareOp}
use Rattle.asp_syntax.specs.declared.token.Token.{Token}
use Rattle.asp_syntax.specs.declared.token.Token.TheVariants as token

-- a token without its place and its line: each `_` has the number of those before it, and all tokens that no program has are alike
pub data Terminal : Type 0 where
  Id : List ℕ → Terminal
  Not : Terminal
  Variable : List ℕ → Terminal
  Anonymous : ℕ → Terminal
  Number : ℕ → Terminal
  Text : List ℕ → Terminal
  Dot : Terminal
  Comma : Terminal
  Colon : Terminal
  Semicolon : Terminal
  Open : Terminal
  Close : Terminal
  OpenBrace : Terminal
  CloseBrace : Terminal
  If : Terminal
  Plus : Terminal
  Minus : Terminal
  Star : Terminal
  Slash : Terminal
  Compare : CompareOp → Terminal
  Count : Terminal
  Sum : Terminal
  Foreign : Terminal

-- a token of the text before which so many `_` stand
abbrev pub terminal_of : ℕ → Token → Terminal
terminal_of count (token.Id name) = Id name
terminal_of count token.Not = Not
terminal_of count (token.Variable name) = Variable name
terminal_of count token.Anonymous = Anonymous count
terminal_of count (token.Number number) = Number number
terminal_of count (token.Text bytes) = Text bytes
terminal_of count token.Dot = Dot
terminal_of count token.Comma = Comma
terminal_of count token.Colon = Colon
terminal_of count token.Semicolon = Semicolon
terminal_of count token.Open = Open
terminal_of count token.Close = Close
terminal_of count token.OpenBrace = OpenBrace
terminal_of count token.CloseBrace = CloseBrace
terminal_of count token.If = If
terminal_of count token.Plus = Plus
terminal_of count token.Minus = Minus
terminal_of count token.Star = Star
terminal_of count token.Slash = Slash
terminal_of count (token.Compare op) = Compare op
terminal_of count token.Count = Count
terminal_of count token.Sum = Sum
terminal_of count _ = Foreign

-- how many `_` stand before what follows a token, where so many stand before the token
abbrev pub anonymous_after : ℕ → Token → ℕ
anonymous_after count token.Anonymous = suc count
anonymous_after count _ = count
