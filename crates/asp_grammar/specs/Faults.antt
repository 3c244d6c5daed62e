-- The first faulty token, and its cause.
use Rattle.std.specs.Prelude.{◌≡◌, ℕ, suc, ◌<◌, ◌≤◌, false, List, [], ◌∷◌, ◌++◌, take, Option, Some, None, slice_get}
use Rattle.asp_syntax.specs.declared.token.Token.{Token}
use Rattle.asp_syntax.specs.declared.token.Token.TheVariants as token
use Rattle.asp_syntax.specs.declared.what.What.{What}
use Rattle.asp_syntax.specs.declared.what.What.TheVariants.{Disjunction, Interval, Modulo, WeakConstraint, Query, MinMax, Directive, Other}
use Rattle.asp_syntax.specs.declared.token.Spanned.{Spanned}
use Rattle.asp_syntax.specs.declared.token.Place.{Place}
use Rattle.asp_syntax.specs.declared.tree.Program.{Program}
use Rattle.asp_syntax.specs.WellFormed.{largest}
use Rattle.asp_grammar.specs.Nesting.{nesting, deepest}
use Rattle.asp_grammar.specs.UnaryMinus.{ends_in_unary_minus}
use Rattle.asp_grammar.specs.Programs.{IsProgram, IsViable, Breaks, Stops}

-- the construct that a token belongs to which no program has
abbrev pub what_of : Token → Option What
what_of token.Bar = Some Disjunction
what_of token.DotDot = Some Interval
what_of token.Backslash = Some Modulo
what_of token.WeakIf = Some WeakConstraint
what_of token.Question = Some Query
what_of token.MinMax = Some MinMax
what_of token.Directive = Some Directive
what_of token.At = Some Other
what_of token.OpenBracket = Some Other
what_of token.CloseBracket = Some Other
what_of token.Ampersand = Some Other
what_of _ = None

-- why a token is faulty
pub data Cause : Type 0 where
  unsupported : What → Cause
  syntax : Cause
  too_deep : Cause
  number_too_large : Cause

-- A token is faulty after those before it, for this cause:
-- it is a named construct, and those before it begin some program;
-- those before it begin some program, and those through it none;
-- the nesting first passes the deepest with it;
-- it is the number that only a unary minus directly before it makes an integer of 64 bits, and there is none.
pub data IsFaulty (front : List Spanned) (t : Spanned) : Cause → Type 0 where
  named : {what : What} → what_of t.token ≡ Some what → IsViable front → IsFaulty front t (unsupported what)
  broken : Breaks front t → IsFaulty front t syntax
  deep : nesting front ≤ deepest → nesting (front ++ t ∷ []) ≡ suc deepest → IsFaulty front t too_deep
  large : t.token ≡ token.Number largest → ends_in_unary_minus false front ≡ false → IsFaulty front t number_too_large

-- of several causes at one token the lowest counts
abbrev pub rank : Cause → ℕ
rank (unsupported what) = 0
rank syntax = 1
rank too_deep = 2
rank number_too_large = 3

-- no token before this index is faulty
abbrev pub IsCleanUpTo : List Spanned → ℕ → Type 0
IsCleanUpTo tokens index =
    (j : ℕ) (u : Spanned) (other : Cause) → j < index → slice_get tokens j ≡ Some u → ¬ IsFaulty (take j tokens) u other

-- no token is faulty
abbrev pub IsFaultless : List Spanned → Type 0
IsFaultless tokens = (j : ℕ) (u : Spanned) (other : Cause) → slice_get tokens j ≡ Some u → ¬ IsFaulty (take j tokens) u other

-- The token at this index is the first faulty one, and this is the cause that counts.
pub record FirstFault (tokens : List Spanned) (index : ℕ) (t : Spanned) (cause : Cause) : Type 0 where
  pub here : slice_get tokens index ≡ Some t
  pub faulty : IsFaulty (take index tokens) t cause
  pub lowest : (other : Cause) → rank other < rank cause → ¬ IsFaulty (take index tokens) t other
  pub before : IsCleanUpTo tokens index

-- The tokens are refused for this cause at this place: that of the first faulty token, or the end, where the tokens begin a program and
-- are none.
pub data FaultAt (tokens : List Spanned) (end : Place) : Cause → Place → Type 0 where
  at_token : {index : ℕ} {t : Spanned} {cause : Cause} → FirstFault tokens index t cause → FaultAt tokens end cause t.at
  at_end : Stops tokens → IsFaultless tokens → FaultAt tokens end syntax end

-- The tokens are those of the program, and none of them is faulty.
pub record Parsed (tokens : List Spanned) (program : Program) : Type 0 where
  pub whole : IsProgram tokens program
  pub faultless : IsFaultless tokens
