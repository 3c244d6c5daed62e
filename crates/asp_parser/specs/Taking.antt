-- What one token does to a parser that stands after those before it.
use Rattle.std.specs.Prelude.{◌≡◌, ◌≢◌, ℕ, true, Some, None, is_some}
use Rattle.asp_syntax.specs.declared.token.Token.TheVariants as token
use Rattle.asp_syntax.specs.declared.token.Spanned.{Spanned}
use Rattle.asp_syntax.specs.WellFormed.{largest}
use Rattle.asp_grammar.specs.declared.state.Progress.{Progress}
use Rattle.asp_grammar.specs.Reading.{advance_of, signs_in}
use Rattle.asp_grammar.specs.Faults.{what_of}
use Rattle.asp_parser.specs.declared.fault.ParseFault.{ParseFault}
use Rattle.asp_parser.specs.declared.fault.ParseFault.TheVariants as fault

-- the machine goes on with the token, and its number fits the minuses that wait
pub record IsTaken (progress : Progress) (count : ℕ) (t : Spanned) (next : Progress) : Type 0 where
  pub goes_on : advance_of progress count t ≡ Some next
  pub fits : t.token ≡ token.Number largest → signs_in progress ≢ 0

-- the token is refused for this fault: it is a named construct; the machine doesn't go on with it; or it does, and the number is too large
abbrev pub IsRefused : Progress → ℕ → Spanned → ParseFault → Type 0
IsRefused progress count t (fault.Unsupported at what) = (at ≡ t.at) × (what_of t.token ≡ Some what)
IsRefused progress count t (fault.Syntax at) = (at ≡ t.at) × (what_of t.token ≡ None) × (advance_of progress count t ≡ None)
IsRefused progress count t (fault.TooDeep at) = ⊥
IsRefused progress count t (fault.NumberTooLarge at) =
    (at ≡ t.at) × (t.token ≡ token.Number largest) × (signs_in progress ≡ 0) × (is_some (advance_of progress count t) ≡ true)
IsRefused progress count t fault.OutOfMemory = Unit {0}
