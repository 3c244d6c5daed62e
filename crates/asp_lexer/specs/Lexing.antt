-- The tokens of a text, and where it can't be read.
--
-- A text is read from its start. Where blanks or a comment stand they are passed over; else the longest token there is taken; the text
-- ends, or it can't be read on. What has been passed gives the next token its place and its line.
use Rattle.std.specs.Prelude.{◌≡◌, ◌≢◌, ℕ, ◌+◌, ◌<◌, ◌==◌, Bool, not, List, [], ◌∷◌, ◌++◌, length, count_by, IsTrue, codes}
use Rattle.std.specs.List.{list_all}
use Rattle.asp_syntax.specs.declared.token.Token.{Token}
use Rattle.asp_syntax.specs.declared.token.Token.TheVariants as token
use Rattle.asp_syntax.specs.declared.token.Spanned.{Spanned}
use Rattle.asp_syntax.specs.Bytes.{line_feed, percent, star, is_blank}
use Rattle.asp_syntax.specs.WellFormed.{largest}
use Rattle.asp_lexer.specs.Tokens.{Spells, IsLongest, Fits}

-- the bytes before which a line ends: none, or a line feed first
abbrev pub EndsLine : List ℕ → Type 0
EndsLine [] = Unit {0}
EndsLine (byte ∷ more) = byte ≡ line_feed

-- bytes that don't begin with `*`
abbrev pub BeginsWithoutStar : List ℕ → Type 0
BeginsWithoutStar [] = Unit {0}
BeginsWithoutStar (byte ∷ more) = byte ≢ star

-- `*%` stands nowhere in a byte and those after it
abbrev pub IsOpen : ℕ → List ℕ → Type 0
IsOpen previous [] = Unit {0}
IsOpen previous (byte ∷ more) = (previous ≡ star → byte ≢ percent) × IsOpen byte more

-- any byte but a line feed
abbrev pub is_in_line : ℕ → Bool
is_in_line byte = not (byte == line_feed)

-- The bytes before the rest are a blank or a comment. A line comment ends before the line feed. The `*` that begins a block comment
-- can't end it, so the bytes that are looked at have a byte other than `*` before them.
pub data IsSkipped (bytes rest : List ℕ) : Type 0 where
  blank : (byte : ℕ) → IsTrue (is_blank byte) → bytes ≡ byte ∷ [] → IsSkipped bytes rest
  line_comment : (inside : List ℕ) → bytes ≡ percent ∷ inside
      → BeginsWithoutStar (inside ++ rest) → IsTrue (list_all is_in_line inside) → EndsLine rest
      → IsSkipped bytes rest
  block_comment : (inside : List ℕ) → bytes ≡ codes "%*" ++ (inside ++ codes "*%")
      → IsOpen 0 (inside ++ codes "*")
      → IsSkipped bytes rest

-- no token, blank or comment stands at the front of the bytes, and they are not the end
pub record IsBad (bytes : List ℕ) : Type 0 where
  pub some : bytes ≢ []
  pub no_token : (t : Token) (front back : List ℕ) → bytes ≡ front ++ back → Spells t front → ⊥
  pub no_skip : (front back : List ℕ) → bytes ≡ front ++ back → IsSkipped front back → ⊥

-- how many lines end in the bytes
abbrev pub line_feeds : List ℕ → ℕ
line_feeds bytes = count_by (λ byte. byte == line_feed) bytes

-- a token with its place and its line, given the text before it
abbrev pub spanned : Token → List ℕ → Spanned
spanned t before = record { token = t; at = record { 0 = length before }; line = line_feeds before + 1 }

-- how reading ends: at the end of the text, at bad bytes, or at a number that is too large
pub data End : Type 0 where
  whole : End
  bad : ℕ → End
  too_large : ℕ → End

-- bytes, with those before them, are read as these tokens up to this end
pub data Reads : List ℕ → List ℕ → List Spanned → End → Type 0 where
  at_end : (before bytes : List ℕ) → bytes ≡ [] → Reads before bytes [] whole
  at_bad : (before bytes : List ℕ) → IsBad bytes → Reads before bytes [] (bad (length before))
  at_too_large : (before bytes front rest : List ℕ) (number : ℕ) → bytes ≡ front ++ rest
      → IsLongest (token.Number number) front rest → largest < number
      → Reads before bytes [] (too_large (length before))
  past_skipped : (before bytes front rest : List ℕ) (tokens : List Spanned) (end : End) → bytes ≡ front ++ rest
      → IsSkipped front rest → Reads (before ++ front) rest tokens end
      → Reads before bytes tokens end
  past_token : (before bytes front rest : List ℕ) (t : Token) (tokens : List Spanned) (end : End) → bytes ≡ front ++ rest
      → IsLongest t front rest → Fits t → Reads (before ++ front) rest tokens end
      → Reads before bytes (spanned t before ∷ tokens) end

-- the text is these tokens
abbrev pub AreTokens : List ℕ → List Spanned → Type 0
AreTokens text tokens = Reads [] text tokens whole

-- the first bytes that are no token, blank or comment begin here, and no number before them is too large
abbrev pub IsFirstBad : List ℕ → ℕ → Type 0
IsFirstBad text at = (tokens : List Spanned) × Reads [] text tokens (bad at)

-- the first number that is too large begins here, and no bytes before it are bad
abbrev pub IsFirstTooLarge : List ℕ → ℕ → Type 0
IsFirstTooLarge text at = (tokens : List Spanned) × Reads [] text tokens (too_large at)
