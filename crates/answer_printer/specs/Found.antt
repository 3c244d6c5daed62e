-- The word that stands first in bytes, as the code finds it: by looking at the first byte, and then on. No public contract names this;
-- lemmas tie it to the words in `Words`.
use Rattle.std.specs.Prelude.{◌≡◌, ℕ, zero, suc, ℤ, pos, negsuc, ◌+◌, Bool, true, false, not, ◌&&◌, ◌||◌, ◌==◌, nat_le, if◌then◌else◌, Option, Some, None, List, [], ◌∷◌, length, take, take_while, codes}
use Rattle.std.specs.Str.{bytes_eq}
use Rattle.asp_syntax.specs.Bytes.{quote, is_lower, is_digit, is_word}
use Rattle.asp_syntax.specs.WellFormed.{largest}
use Rattle.asp_lexer.specs.Tokens.{decimal}
use Rattle.asp_lexer.specs.Lexemes.{fitting, closing_quote}
use Rattle.answer_printer.specs.declared.words.Word.{Word as AWord}
use Rattle.answer_printer.specs.declared.words.Word.TheVariants.{Id, Integer, Text, Minus, Comma, Open, Close, OpenBrace, CloseBrace}
use Rattle.answer_printer.specs.declared.words.Found.{Found}
use Rattle.answer_printer.specs.declared.words.Found.TheVariants.{Word, Nothing}

-- whether there is a first byte that passes the test
abbrev pub starts : (ℕ → Bool) → List ℕ → Bool
starts p [] = false
starts p (byte ∷ more) = p byte

-- the rest doesn't make the word before it a longer one, or no word
abbrev pub IsApart : AWord → List ℕ → Type 0
IsApart (Id name) rest = starts is_word rest ≡ false
IsApart (Integer z) rest = starts is_digit rest ≡ false
IsApart Minus rest = starts is_digit rest ≡ false
IsApart _ rest = Unit {0}

-- a name, unless it is `not`
abbrev pub id_found : List ℕ → Found
id_found word = if bytes_eq word (codes "not") then Nothing else Word (Id word) (length word)

-- no digits, more of them behind a `0`, or a `0` with a sign
abbrev pub is_needless : Bool → List ℕ → Bool
is_needless negative [] = true
is_needless negative (digit ∷ more) = (digit == 48) && (negative || not (length more == 0))

-- the integer of a sign and a number that is at most the largest
abbrev pub signed_number : Bool → ℕ → Option ℤ
signed_number false n = if nat_le (suc n) largest then Some (pos n) else None
signed_number true zero = None
signed_number true (suc n) = Some (negsuc n)

abbrev pub integer_from : Bool → Option ℕ → Option ℤ
integer_from negative None = None
integer_from negative (Some n) = signed_number negative n

-- the integer of 64 bits that a sign and digits are
abbrev pub integer_of : Bool → List ℕ → Option ℤ
integer_of negative digits = if is_needless negative digits then None else integer_from negative (fitting (decimal digits))

abbrev pub integer_found : ℕ → Option ℤ → Found
integer_found n None = Nothing
integer_found n (Some z) = Word (Integer z) n

-- what `-` begins, with the digits behind it
abbrev pub minus_found : List ℕ → Found
minus_found digits = if length digits == 0 then Word Minus 1 else integer_found (length digits + 1) (integer_of true digits)

-- what a quote begins, with the bytes behind it and how many of them stand before the quote that ends it
abbrev pub text_found : List ℕ → Option ℕ → Found
text_found bytes None = Nothing
text_found bytes (Some n) = Word (Text (take n bytes)) (n + 2)

-- the mark that a byte is
abbrev pub mark_found : ℕ → Found
mark_found byte =
    if byte == 44 then Word Comma 1
    else (if byte == 40 then Word Open 1
    else (if byte == 41 then Word Close 1
    else (if byte == 123 then Word OpenBrace 1
    else (if byte == 125 then Word CloseBrace 1
    else Nothing))))

-- what stands first
abbrev pub found : List ℕ → Found
found [] = Nothing
found (byte ∷ bytes) =
    if is_lower byte then id_found (take_while is_word (byte ∷ bytes))
    else (if is_digit byte then integer_found (length (take_while is_digit (byte ∷ bytes))) (integer_of false (take_while is_digit (byte ∷ bytes)))
    else (if byte == 45 then minus_found (take_while is_digit bytes)
    else (if byte == quote then text_found bytes (closing_quote quote bytes)
    else mark_found byte)))
