-- Which minus signs are unary, told by the tokens alone.
use Rattle.std.specs.Prelude.{Bool, true, false, not, ◌&&◌, List, [], ◌∷◌}
use Rattle.asp_syntax.specs.declared.token.Token.{Token}
use Rattle.asp_syntax.specs.declared.token.Token.TheVariants as token
use Rattle.asp_syntax.specs.declared.token.Spanned.{Spanned}

-- an operand can end with this token: a `-` after it stands between two operands, and after any other token it is unary
abbrev pub ends_operand : Token → Bool
ends_operand (token.Id name) = true
ends_operand (token.Variable name) = true
ends_operand token.Anonymous = true
ends_operand (token.Number number) = true
ends_operand (token.Text bytes) = true
ends_operand token.Close = true
ends_operand _ = false

-- the token is `-`
abbrev pub is_minus : Token → Bool
is_minus token.Minus = true
is_minus _ = false

-- an operand can end with the last token, or with the one before the first where there are none
abbrev pub ends_in_operand : Bool → List Spanned → Bool
ends_in_operand before [] = before
ends_in_operand before (t ∷ ts) = ends_in_operand (ends_operand t.token) ts

-- the last token is a unary minus, where the first says whether an operand can end before the tokens
abbrev pub ends_in_unary_minus : Bool → List Spanned → Bool
ends_in_unary_minus before [] = false
ends_in_unary_minus before (t ∷ []) = is_minus t.token && not before
ends_in_unary_minus before (t ∷ u ∷ ts) = ends_in_unary_minus (ends_operand t.token) (u ∷ ts)
