-- Which numbers become integers of 64 bits.
use Rattle.std.specs.Prelude.{◌≡◌, ℕ, ◌<◌, ◌≤◌}
use Rattle.asp_syntax.specs.declared.token.Token.{Token}
use Rattle.asp_syntax.specs.declared.token.Token.TheVariants as token
use Rattle.asp_syntax.specs.WellFormed.{largest}

-- the token, if it is a number, is an integer of 64 bits under so many unary minuses: only the largest needs one
abbrev pub Fits : ℕ → Token → Type 0
Fits signs (token.Number number) = (number ≤ largest) × (signs ≡ 0 → number < largest)
Fits signs _ = Unit {0}
