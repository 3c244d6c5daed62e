-- Which bytes are which token: one line for each token of the language. A number may be of any size here; whether it is too large is
-- asked where a text is read.
use Rattle.std.specs.Prelude.{◌≡◌, ◌≢◌, ◌⊎◌, ℕ, ◌+◌, ◌-◌, ◌*◌, ◌≤◌, List, [], ◌∷◌, ◌++◌, length, IsTrue, codes}
use Rattle.std.specs.List.{list_all}
use Rattle.asp_syntax.specs.declared.tree.CompareOp.{CompareOp}
use Rattle.asp_syntax.specs.declared.tree.CompareOp.TheVariants.{Equal, NotEqual, Less, LessEqual, Greater, GreaterEqual}
use Rattle.asp_syntax.specs.declared.token.Token.{Token}
use Rattle.asp_syntax.specs.declared.token.Token.TheVariants as token
use Rattle.asp_syntax.specs.WellFormed.{IsId, IsVariable, IsText, largest}
use Rattle.asp_syntax.specs.Bytes.{quote, number_sign, zero_digit, is_letter, is_digit}

-- `0`, or a digit 1 to 9 followed by digits
abbrev pub IsNumeral : List ℕ → Type 0
IsNumeral [] = ⊥
IsNumeral (byte ∷ more) =
    ((byte ≡ zero_digit) × (more ≡ []))
    ⊎ (IsTrue (is_digit byte) × (byte ≢ zero_digit) × IsTrue (list_all is_digit more))

-- the number that digits go on to, where those before them are a number already
abbrev pub value_from : ℕ → List ℕ → ℕ
value_from number [] = number
value_from number (digit ∷ more) = value_from (number * 10 + (digit - zero_digit)) more

-- the number that digits are
abbrev pub decimal : List ℕ → ℕ
decimal digits = value_from 0 digits

-- `#` and letters
abbrev pub IsHashWord : List ℕ → Type 0
IsHashWord [] = ⊥
IsHashWord (byte ∷ more) = (byte ≡ number_sign) × (more ≢ []) × IsTrue (list_all is_letter more)

-- `#` and letters that are none of the four words with tokens of their own
pub record IsOtherHashWord (word : List ℕ) : Type 0 where
  pub is_hash_word : IsHashWord word
  pub not_count : word ≢ codes "#count"
  pub not_sum : word ≢ codes "#sum"
  pub not_min : word ≢ codes "#min"
  pub not_max : word ≢ codes "#max"

-- the bytes are the comparison
abbrev pub SpellsCompare : CompareOp → List ℕ → Type 0
SpellsCompare Equal bytes = bytes ≡ codes "="
SpellsCompare NotEqual bytes = (bytes ≡ codes "!=") ⊎ (bytes ≡ codes "<>")
SpellsCompare Less bytes = bytes ≡ codes "<"
SpellsCompare LessEqual bytes = bytes ≡ codes "<="
SpellsCompare Greater bytes = bytes ≡ codes ">"
SpellsCompare GreaterEqual bytes = bytes ≡ codes ">="

-- the bytes are the token
abbrev pub Spells : Token → List ℕ → Type 0
Spells (token.Id name) bytes = (name ≡ bytes) × IsId bytes
Spells token.Not bytes = bytes ≡ codes "not"
Spells (token.Variable name) bytes = (name ≡ bytes) × IsVariable bytes
Spells token.Anonymous bytes = bytes ≡ codes "_"
Spells (token.Number number) bytes = (number ≡ decimal bytes) × IsNumeral bytes
Spells (token.Text inside) bytes = (bytes ≡ quote ∷ (inside ++ quote ∷ [])) × IsText inside
Spells token.Dot bytes = bytes ≡ codes "."
Spells token.Comma bytes = bytes ≡ codes ","
Spells token.Colon bytes = bytes ≡ codes ":"
Spells token.Semicolon bytes = bytes ≡ codes ";"
Spells token.Open bytes = bytes ≡ codes "("
Spells token.Close bytes = bytes ≡ codes ")"
Spells token.OpenBrace bytes = bytes ≡ codes "{"
Spells token.CloseBrace bytes = bytes ≡ codes "}"
Spells token.If bytes = bytes ≡ codes ":-"
Spells token.Plus bytes = bytes ≡ codes "+"
Spells token.Minus bytes = bytes ≡ codes "-"
Spells token.Star bytes = bytes ≡ codes "*"
Spells token.Slash bytes = bytes ≡ codes "/"
Spells (token.Compare op) bytes = SpellsCompare op bytes
Spells token.Count bytes = bytes ≡ codes "#count"
Spells token.Sum bytes = bytes ≡ codes "#sum"
Spells token.Bar bytes = bytes ≡ codes "|"
Spells token.DotDot bytes = bytes ≡ codes ".."
Spells token.Backslash bytes = bytes ≡ codes "\\"
Spells token.WeakIf bytes = bytes ≡ codes ":~"
Spells token.Question bytes = bytes ≡ codes "?"
Spells token.MinMax bytes = (bytes ≡ codes "#min") ⊎ (bytes ≡ codes "#max")
Spells token.Directive bytes = IsOtherHashWord bytes
Spells token.At bytes = bytes ≡ codes "@"
Spells token.OpenBracket bytes = bytes ≡ codes "["
Spells token.CloseBracket bytes = bytes ≡ codes "]"
Spells token.Ampersand bytes = bytes ≡ codes "&"

-- the bytes before the rest are the token, and no more bytes from there on are a token
pub record IsLongest (t : Token) (bytes rest : List ℕ) : Type 0 where
  pub spelled : Spells t bytes
  pub longest : (u : Token) (front back : List ℕ) → bytes ++ rest ≡ front ++ back → Spells u front → length front ≤ length bytes

-- a token's number, if it has one, is not too large
abbrev pub Fits : Token → Type 0
Fits (token.Number number) = number ≤ largest
Fits _ = Unit {0}
