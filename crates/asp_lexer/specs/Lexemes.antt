-- What stands first in bytes, as the code finds it: by looking at the first byte, and then on. No public contract names this; lemmas tie
-- it to the words of the language in `Tokens` and `Lexing`.
use Rattle.std.specs.Prelude.{ℕ, suc, ◌+◌, Bool, false, not, ◌&&◌, ◌==◌, nat_le, if◌then◌else◌, Option, Some, None, List, [], ◌∷◌, length, drop, take, take_while, codes}
use Rattle.std.specs.List.{prefix_len}
use Rattle.std.specs.Option.{option_map}
use Rattle.std.specs.Str.{bytes_eq}
use Rattle.asp_syntax.specs.declared.tree.CompareOp.TheVariants.{Equal, NotEqual, Less, LessEqual, Greater, GreaterEqual}
use Rattle.asp_syntax.specs.declared.token.Token.{Token}
use Rattle.asp_syntax.specs.declared.token.Token.TheVariants as token
use Rattle.asp_lexer.specs.declared.lexeme.Lexeme.{Lexeme}
use Rattle.asp_lexer.specs.declared.lexeme.Lexeme.TheVariants as lexeme
use Rattle.asp_syntax.specs.Bytes.{line_feed, quote, number_sign, percent, star, zero_digit, backslash, is_lower, is_upper, is_letter, is_digit, is_word, is_blank}
use Rattle.asp_syntax.specs.WellFormed.{largest}
use Rattle.asp_lexer.specs.Tokens.{decimal}
use Rattle.asp_lexer.specs.Lexing.{is_in_line}

-- whether the first byte is this one
abbrev pub first_is : ℕ → List ℕ → Bool
first_is wanted [] = false
first_is wanted (byte ∷ more) = byte == wanted

-- how many bytes were read as a token or a number
abbrev pub token_length : Lexeme → ℕ
token_length (lexeme.Skipped n) = 0
token_length (lexeme.Token t n) = n
token_length (lexeme.TooLarge n) = n
token_length lexeme.Bad = 0

-- a word that begins with a lower-case letter
abbrev pub word_lexeme : List ℕ → Lexeme
word_lexeme word =
    if bytes_eq word (codes "not") then lexeme.Token token.Not (length word)
    else lexeme.Token (token.Id word) (length word)

-- a word that begins with an upper-case letter
abbrev pub variable_lexeme : List ℕ → Lexeme
variable_lexeme word = lexeme.Token (token.Variable word) (length word)

-- the number, unless it is too large
abbrev pub fitting : ℕ → Option ℕ
fitting number = if nat_le number largest then Some number else None

-- so many digits, and the number that they are unless it is too large
abbrev pub number_lexeme : ℕ → Option ℕ → Lexeme
number_lexeme n (Some number) = lexeme.Token (token.Number number) n
number_lexeme n None = lexeme.TooLarge n

-- digits of which the first isn't `0`
abbrev pub numeral_lexeme : List ℕ → Lexeme
numeral_lexeme digits = number_lexeme (length digits) (fitting (decimal digits))

-- a quote that isn't directly after a backslash
abbrev pub is_closing : ℕ → ℕ → Bool
is_closing previous byte = (byte == quote) && not (previous == backslash)

-- how many bytes stand before the quote that ends a string, after a byte
abbrev pub closing_quote : ℕ → List ℕ → Option ℕ
closing_quote previous [] = None
closing_quote previous (byte ∷ more) =
    if byte == line_feed then None
    else (if is_closing previous byte then Some 0 else option_map suc (closing_quote byte more))

-- what a quote begins, with the bytes behind it and how many of them stand before the quote that ends it
abbrev pub text_lexeme : List ℕ → Option ℕ → Lexeme
text_lexeme bytes None = lexeme.Bad
text_lexeme bytes (Some n) = lexeme.Token (token.Text (take n bytes)) (n + 2)

-- the second byte of `*%`
abbrev pub is_block_end : ℕ → ℕ → Bool
is_block_end previous byte = (previous == star) && (byte == percent)

-- how many bytes there are up to the first `*%` and with it, after a byte
abbrev pub block_length : ℕ → List ℕ → Option ℕ
block_length previous [] = None
block_length previous (byte ∷ more) = if is_block_end previous byte then Some 1 else option_map suc (block_length byte more)

-- what `%*` begins, with how many bytes behind it belong to it
abbrev pub block_lexeme : Option ℕ → Lexeme
block_lexeme None = lexeme.Bad
block_lexeme (Some n) = lexeme.Skipped (n + 2)

-- what `%` begins, with the bytes behind it
abbrev pub comment_lexeme : List ℕ → Lexeme
comment_lexeme bytes =
    if first_is star bytes then block_lexeme (block_length 0 (drop 1 bytes))
    else lexeme.Skipped (prefix_len is_in_line bytes + 1)

-- what `#` begins, with the letters behind it
abbrev pub hash_lexeme : List ℕ → Lexeme
hash_lexeme word =
    if length word == 0 then lexeme.Bad
    else (if bytes_eq word (codes "count") then lexeme.Token token.Count (length word + 1)
    else (if bytes_eq word (codes "sum") then lexeme.Token token.Sum (length word + 1)
    else (if bytes_eq word (codes "min") then lexeme.Token token.MinMax (length word + 1)
    else (if bytes_eq word (codes "max") then lexeme.Token token.MinMax (length word + 1)
    else lexeme.Token token.Directive (length word + 1)))))

-- the token of a sign that begins no longer one
abbrev pub single_sign : ℕ → Option Token
single_sign byte =
    if byte == 44 then Some token.Comma
    else (if byte == 40 then Some token.Open
    else (if byte == 41 then Some token.Close
    else (if byte == 59 then Some token.Semicolon
    else (if byte == 123 then Some token.OpenBrace
    else (if byte == 125 then Some token.CloseBrace
    else (if byte == 43 then Some token.Plus
    else (if byte == 45 then Some token.Minus
    else (if byte == 42 then Some token.Star
    else (if byte == 47 then Some token.Slash
    else (if byte == 61 then Some (token.Compare Equal)
    else (if byte == 95 then Some token.Anonymous
    else (if byte == 124 then Some token.Bar
    else (if byte == 92 then Some token.Backslash
    else (if byte == 63 then Some token.Question
    else (if byte == 64 then Some token.At
    else (if byte == 91 then Some token.OpenBracket
    else (if byte == 93 then Some token.CloseBracket
    else (if byte == 38 then Some token.Ampersand
    else None))))))))))))))))))

-- a single sign, or bad bytes
abbrev pub single_lexeme : Option Token → Lexeme
single_lexeme None = lexeme.Bad
single_lexeme (Some t) = lexeme.Token t 1

-- what `.` begins, with the bytes behind it
abbrev pub dot_lexeme : List ℕ → Lexeme
dot_lexeme bytes = if first_is 46 bytes then lexeme.Token token.DotDot 2 else lexeme.Token token.Dot 1

-- what `:` begins
abbrev pub colon_lexeme : List ℕ → Lexeme
colon_lexeme bytes =
    if first_is 45 bytes then lexeme.Token token.If 2
    else (if first_is 126 bytes then lexeme.Token token.WeakIf 2
    else lexeme.Token token.Colon 1)

-- what `<` begins
abbrev pub less_lexeme : List ℕ → Lexeme
less_lexeme bytes =
    if first_is 61 bytes then lexeme.Token (token.Compare LessEqual) 2
    else (if first_is 62 bytes then lexeme.Token (token.Compare NotEqual) 2
    else lexeme.Token (token.Compare Less) 1)

-- what `>` begins
abbrev pub greater_lexeme : List ℕ → Lexeme
greater_lexeme bytes =
    if first_is 61 bytes then lexeme.Token (token.Compare GreaterEqual) 2
    else lexeme.Token (token.Compare Greater) 1

-- what `!` begins
abbrev pub exclamation_lexeme : List ℕ → Lexeme
exclamation_lexeme bytes = if first_is 61 bytes then lexeme.Token (token.Compare NotEqual) 2 else lexeme.Bad

-- what any other byte begins
abbrev pub sign_lexeme : ℕ → List ℕ → Lexeme
sign_lexeme byte bytes =
    if byte == 46 then dot_lexeme bytes
    else (if byte == 58 then colon_lexeme bytes
    else (if byte == 60 then less_lexeme bytes
    else (if byte == 62 then greater_lexeme bytes
    else (if byte == 33 then exclamation_lexeme bytes
    else single_lexeme (single_sign byte)))))

-- what a byte begins that begins neither a word nor a number
abbrev pub other_lexeme : ℕ → List ℕ → Lexeme
other_lexeme byte bytes =
    if is_blank byte then lexeme.Skipped 1
    else (if byte == percent then comment_lexeme bytes
    else (if byte == quote then text_lexeme bytes (closing_quote quote bytes)
    else (if byte == number_sign then hash_lexeme (take_while is_letter bytes)
    else sign_lexeme byte bytes)))

-- what stands first
abbrev pub lexeme_of : List ℕ → Lexeme
lexeme_of [] = lexeme.Bad
lexeme_of (byte ∷ bytes) =
    if is_lower byte then word_lexeme (take_while is_word (byte ∷ bytes))
    else (if is_upper byte then variable_lexeme (take_while is_word (byte ∷ bytes))
    else (if byte == zero_digit then lexeme.Token (token.Number 0) 1
    else (if is_digit byte then numeral_lexeme (take_while is_digit (byte ∷ bytes))
    else other_lexeme byte bytes)))
